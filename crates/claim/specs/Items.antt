-- The items of the change requests, each as one statement of the calls that a program in C links, in the order of their numbers;
-- the sentence that a field says stands before it. Met proves them. Assumes nothing.
--
--     item 4 changes no statement: leading zeros of an exclusive or count equal leading bits (numbers/specs/Agree)
--     item 13 is measured: docs/MEASURED.md
use Rattle.std.specs.Prelude.{◌≡◌, ◌≢◌, Bool, true, false, not, ◌||◌, List, [], ◌∷◌, ◌++◌, ℕ, ◌*◌, ◌^◌, ◌≤◌, ◌<◌, ltb, eqb}
use Rattle.std.specs.Prelude.{length, take}
use Rattle.routes.specs.Family.{Family, v4, v6, levels, width, unknown, role_of}
use Rattle.routes.specs.Route.{Route, hop_at, held as hop_for}
use Rattle.routes.specs.Room.{level}
use Rattle.routes.specs.Block.{Smallest}
use Rattle.routes.specs.Answers.{Reply, done, refused, is_done}
use Rattle.routes.specs.Bytes.{replies_bytes}
use Rattle.routes.specs.Seen.{gives, misfits}
use Rattle.candidates.specs.Keyed.{put}
use Rattle.candidates.specs.Candidate.{Candidate, candidate, IsList, held, key}
use Rattle.candidates.specs.Winners.{winners, winning, best}
use Rattle.candidates.specs.Answers.{Update, announce, withdraw, sound, target, reloaded}
use Rattle.candidates.specs.Runs.{first}
use Rattle.candidates.specs.Bytes.{written}
use Rattle.candidates.specs.Seen.{table, records_on, answers_on, ran_on}
use Rattle.rivals.specs.Lowest.{Lowest}
use Rattle.words.specs.Table.{seen}
use Rattle.inside.specs.Inside.{prefixes_inside}
use Rattle.inside.specs.Seen.{asked}
use Rattle.within.specs.Local.{AlikeOn}
use Rattle.feed.specs.Series.{Series}
use Rattle.swaps.specs.Moves.{Moves}
use Rattle.swaps.specs.Fourth as fourth
use Rattle.resolver.specs.Entry.{Entries}
use Rattle.resolver.specs.Resolve.{resolve_in, refused_by, routed}
use Rattle.resolver.specs.Stated.{HasResolved}
use Rattle.resolver.specs.declared.way.Resolved.{Resolved}
use Rattle.shortest.specs.Shortest.{upto}
use Rattle.shortest.specs.Seen.{shortest4, bytes_for as short_bytes}
use Rattle.shorten.specs.Stated.{WroteShortest}
use Rattle.shortener.specs.Face.{HasWritten as HasShortened}
use Rattle.answers.specs.declared.Written.{Written as Shortened}
use Rattle.listing.specs.Listed.{Listed, unlisted, listed, listed_in}
use Rattle.lengths.specs.Marks.{words_for as copy_words}
use Rattle.toggleash.specs.Copies.{HasBuilt as HasCopied}
use Rattle.toggleash.specs.declared.copies.Built.{Built as Copied}
use Rattle.calls.specs.Copy as copy
use Rattle.masks.specs.Mask.{Chosen}
use Rattle.words.specs.Words.{arrays_of, array_count}
use Rattle.packed.specs.Layout.{walk as packed_walk}
use Rattle.packed.specs.Laid.{held_of, mask_at, Laid}
use Rattle.packed_build.specs.Need.{words_for as packed_words}
use Rattle.answers.specs.Numbers.{matched as packed_match}
use Rattle.packing.specs.Face.{HasBuilt as HasPacked}
use Rattle.packing.specs.Carried.{Carried as Packed}
use Rattle.packing.specs.declared.Built.{Built as PackedBuilt}
use Rattle.answers.specs.declared.Matched.{Matched as PackedMatch}
use Rattle.replayed.specs.Shortened.{Shortened as Shorten}
use Rattle.replayed.specs.Fed.{Fed, ForwardsAgain}
use Rattle.replayed.specs.Card.{Carried as OnCard, AsForwarded}
use Rattle.numbers.specs.Number.{AreBytes}
use Rattle.front.specs.Place.{Place, mark_at}
use Rattle.front.specs.Front.{both, updated as damped, tick_places, tick_list}
use Rattle.front.specs.Runs.{events_of}
use Rattle.front.specs.Seen.{front, held_in as held_by}
use Rattle.restraint.specs.Ticks.{AllSpare, AllRoomFor, ticks_in}
use Rattle.rows.specs.Row.{places_of}
use Rattle.damping.specs.View.{seen_front}
use Rattle.damping_run.specs.Behind.{records_behind, fed_behind}
use Rattle.damper.specs.Face as damper
use Rattle.answers.specs.declared.Updated.{Updated as Damped}
use Rattle.damper.specs.declared.Front.{Front as Ticked}
use Rattle.answers.specs.declared.Ran.{Ran as DampedRun}
use Rattle.answers.specs.Numbers.{totalled, updated as updated_by}
use Rattle.answers.specs.declared.Found.{Found}
use Rattle.answers.specs.declared.Total.{Total}
use Rattle.answers.specs.declared.Updated.{Updated}
use Rattle.answers.specs.declared.Ran.{Ran}
use Rattle.calls.specs.ExportedSwapped.{InTurn, CallsSwapped}
use Rattle.calls.specs.ExportedMoved.{Logged, LogsAlike}
use Rattle.claim.specs.Calls.{Looks, Counts, Updates, Runs}
use Rattle.claim.specs.Demands.{wrong_size, no_table, held_in, Demands}
use Rattle.claim.specs.Unseen.{Unseen}

-- ---- 1. Search by lengths

-- bytes that are no whole written-out list; the routes of those that are
abbrev pub is_unlisted : Listed → Bool
is_unlisted unlisted = true
is_unlisted (listed rs) = false

abbrev pub routes_in : Listed → List Route
routes_in unlisted = []
routes_in (listed rs) = rs

pub record Item1 : Type 0 where
  -- "It answers every address as demand 2 does": written out, copied and carried to the card, as the table's own lookup does
  pub answers : (t : copy.Carried) → copy.AsTable t
  -- "Refusals: 2 for bytes that aren't one whole written-out list, of any room; then 9 for fewer words"
  pub refusals : (bytes ws vs : List ℕ) (r : Copied) → HasCopied bytes ws vs r
      → r.refusal ≡ first 2 (is_unlisted (listed_in bytes))
      (first 9 (ltb (length ws) (copy_words (routes_in (listed_in bytes)))) 0)
  pub kept : (bytes ws vs : List ℕ) (r : Copied) → HasCopied bytes ws vs r → r.refusal ≢ 0 → vs ≡ ws
  -- a list is whole by its form, and its room is no reason: the list of any table
  pub any_room : (cs : List Candidate) → IsList 32 cs → listed_in (written v4 cs) ≡ listed (winners cs)

-- ---- 2. Tell us how much may be remembered

pub record Item2 (F : Family) : Type 0 where
  -- "the smallest q such that all addresses sharing the first q bits with the one asked get the same route, or all get none"
  pub smallest : (A : ℕ) (cs : List Candidate) (ws : List ℕ) → seen (levels F) ws ≡ table A cs → (a : ℕ) → a < 2 ^ width F
      → (r : Found) → Looks F ws a r → Smallest (width F) (winners cs) a r.block

-- ---- 3. A second announcement replaces

pub record Item3 (F : Family) : Type 0 where
  -- "An announcement of a held prefix is now accepted, sets the hop and never lacks room"; item 7 reads it of candidates, which
  -- sets the preference too
  pub replaces : (A : ℕ) (cs : List Candidate) (ws vs : List ℕ) → seen (levels F) ws ≡ table A cs → (a l h f p : ℕ)
      → sound (width F) (announce a l h f p) ≡ true → held cs a l f ≢ 0
      → (r : Updated) → Updates F ws vs (announce a l h f p) r
      → (r ≡ record { refusal = 0; hop = h; cells = reloaded (width F) cs (put key (candidate a l f p h) cs) a l })
      × (seen (levels F) vs ≡ table A (put key (candidate a l f p h) cs))

-- ---- 5. Compressed tables

-- a lookup's answer without its block
abbrev pub without_block : Found → PackedMatch
without_block f = record { refusal = f.refusal; found = f.found; hop = f.hop; length = f.length }

pub record Item5 : Type 0 where
  -- "Lookup equals demand 2, without block length": built, carried to other words and looked up, as the table's own lookup
  pub answers : (t : Packed) (a : ℕ) → a < 2 ^ 32 → (f : Found) (r : PackedMatch) → Looks v4 t.words a f
      → r ≡ packed_match (packed_walk 4 t.card a) → r ≡ without_block f
  -- "of those without collision .., the one with fewest set bits, then the lowest number. Prove that none has fewer"
  pub masks : (ts : List ℕ) (a : ℕ) → a ≢ 1 → Chosen (held_of (arrays_of ts) a) (mask_at (arrays_of ts) a)
  pub laid : (ts ws us : List ℕ) (r : PackedBuilt) → HasPacked ts ws us r → r.refusal ≡ 0
      → Laid (arrays_of ts) (array_count ts) us
  -- "Refusals: 1, then 2, then 9 for fewer words than needed"
  pub refusals : (ts ws us : List ℕ) (r : PackedBuilt) → HasPacked ts ws us r
      → r.refusal ≡ first 1 (wrong_size ts) (first 2 (no_table v4 ts)
      (first 9 (ltb (length ws) (packed_words 32 (winners (held_in v4 ts)))) 0))
  pub kept : (ts ws us : List ℕ) (r : PackedBuilt) → HasPacked ts ws us r → r.refusal ≢ 0 → us ≡ ws

-- ---- 6. Check once a run

pub record Item6 (F : Family) : Type 0 where
  -- "answers stay the same": a run answers each record as a direct call, which tests the whole table, answers it
  pub same : (ws feed b vs c : List ℕ) (r : Ran) → Runs F ws feed b vs c r
      → Series (levels F) ws (records_on F (seen (levels F) ws) feed b) (answers_on F (seen (levels F) ws) feed b) vs
  -- "the reply "refused 2" can't be written by a run"
  pub never : (ws feed b vs c : List ℕ) (r : Ran) → Runs F ws feed b vs c r
      → (xs ys : List Reply) → take r.written c ≢ replies_bytes (xs ++ (refused 2 ∷ ys))

-- ---- 7. Both uplinks for one prefix

pub record Item7 (F : Family) : Type 0 where
  -- "A prefix shall hold up to four candidates, one for each feed 1 to 4, each with a hop and a preference byte"
  pub candidates : (A : ℕ) (cs : List Candidate) (ws : List ℕ) → seen (levels F) ws ≡ table A cs → IsList (width F) cs
  -- "The lowest preference wins, then the lowest feed number": the winners are what every lookup goes by
  pub wins : (cs : List Candidate) (k : ℕ) → (hop_at (winners cs) k ≡ winning cs k) × Lowest k cs (best cs k)

-- ---- 8. Swapping neighbours without the promise of room

pub record Item8 (F : Family) (A : ℕ) (cs : List Candidate) : Type 0 where
  -- "two withdrawals swap freely"
  pub withdrawn : (a l f b m g : ℕ) → target (withdraw a l f) ≢ target (withdraw b m g)
      → (t : InTurn F A cs (withdraw a l f) (withdraw b m g)) (s : InTurn F A cs (withdraw b m g) (withdraw a l f))
      → CallsSwapped t s
  -- "two announcements both accepted in one order are both accepted in the other"
  pub announced : (a l h f p b m i g q : ℕ) → target (announce a l h f p) ≢ target (announce b m i g q)
      → (t : InTurn F A cs (announce a l h f p) (announce b m i g q))
      (s : InTurn F A cs (announce b m i g q) (announce a l h f p))
      → is_done t.first ≡ true → is_done t.second ≡ true
      → (is_done s.first ≡ true) × (is_done s.second ≡ true) × CallsSwapped t s
  -- "a withdrawal moved ahead of an accepted announcement leaves it accepted"
  pub ahead : (a l h f p b m g : ℕ) → target (announce a l h f p) ≢ target (withdraw b m g)
      → (t : InTurn F A cs (announce a l h f p) (withdraw b m g)) (s : InTurn F A cs (withdraw b m g) (announce a l h f p))
      → is_done t.first ≡ true → (is_done s.second ≡ true) × CallsSwapped t s
  -- "answers, cells excepted, the end list and all later answers agree", by calls of any kind
  pub later : (u v : Update) (t : InTurn F A cs u v) (s : InTurn F A cs v u) → CallsSwapped t s
      → Unseen F t.words' s.words'
  -- and of whole logs that differ by any number of such moves
  pub logs : (us vs : List Update) → Moves (width F) A cs us vs → (p : Logged F A cs us) (q : Logged F A cs vs) → LogsAlike p q

-- "Show by an example why the fourth move is missing": a table of two arrays that holds 0.0.0.0/9, which is withdrawn, and
-- 1.0.0.0/9, which is announced
abbrev pub FourthMissing : Type 0
FourthMissing = (p : InTurn v4 2 fourth.cs fourth.go fourth.come) (q : InTurn v4 2 fourth.cs fourth.come fourth.go)
    → (p.first ≡ done 7 128) × (p.second ≡ done 8 128) × (q.first ≡ refused 8)
    × (seen 4 p.words' ≢ seen 4 q.words')

-- ---- 9. IPv6

pub record Item9 : Type 0 where
  -- "demands 2 and 3 hold for both", and so does demand 1
  pub both : (F : Family) → Demands F
  -- "a kind of the other is stop 2": kinds 1 to 5 on IPv6, 6 to 8 on IPv4
  pub other : (F : Family) (A : ℕ) (cs : List Candidate) (ws : List ℕ) → seen (levels F) ws ≡ table A cs → (k : ℕ)
      → role_of F k ≡ unknown → (feed b vs c : List ℕ) (r : Ran) → Runs F ws (k ∷ feed) b vs c r → r.stop ≡ 2
  pub four : (role_of v4 6 ≡ unknown) × (role_of v4 7 ≡ unknown) × (role_of v4 8 ≡ unknown)
  pub six : (role_of v6 1 ≡ unknown) × (role_of v6 2 ≡ unknown) × (role_of v6 3 ≡ unknown) × (role_of v6 4 ≡ unknown)
      × (role_of v6 5 ≡ unknown)

-- ---- 10. How many routes inside this prefix?

pub record Item10 (F : Family) : Type 0 where
  -- "how many held prefixes lie inside a given one, itself included"; "It equals the count over the whole list"
  pub counts : (A : ℕ) (cs : List Candidate) (ws : List ℕ) → seen (levels F) ws ≡ table A cs → (a l : ℕ) (r : Total)
      → Counts F ws a l r → r ≡ totalled (asked (width F) a l (gives (prefixes_inside (width F) cs a l)))
  -- "the answer depends only on the first part of the words and on the arrays from level 0 to the prefix's own"
  pub alone : (ws us : List ℕ) (a l : ℕ) → a < 2 ^ width F → length us ≡ length ws → AlikeOn (levels F) ws us a (level l)
      → (r s : Total) → Counts F ws a l r → Counts F us a l s → r ≡ s

-- ---- 11. From hop to interface

pub record Item11 : Type 0 where
  -- "looks an address up, takes the entry of the hop, and goes on with its gateway until an interface is reached, at most four
  -- lookups. Answer interface and the last gateway used, if any", and the refusals 20, 21 and 22 met on the way
  pub resolves : (A : ℕ) (cs : List Candidate) (ws : List ℕ) → seen 4 ws ≡ table A cs → (es : Entries) (a : ℕ) (r : Resolved)
      → HasResolved ws es a r → r ≡ routed (resolve_in (winners cs) es a)
  -- "Refusals: 1; then 21 for more than 256 entries": on all words
  pub size : (ws : List ℕ) → misfits (length ws) ≡ true → (es : Entries) (a : ℕ) (r : Resolved) → HasResolved ws es a r
      → r ≡ refused_by 1
  pub many : (ws : List ℕ) → misfits (length ws) ≡ false → (es : Entries) → 256 < es.count → (a : ℕ) (r : Resolved)
      → HasResolved ws es a r → r ≡ refused_by 21

-- ---- 12. The shortest list that forwards the same

pub record Item12 : Type 0 where
  -- "write out a list that gives every address the same winning hop, where no list with fewer routes does. Use kind 1 records and
  -- the order of document 01"
  pub shortest : (ws ms b : List ℕ) (r : Shortened) (ns c : List ℕ) → HasShortened ws ms b r ns c → r.refusal ≡ 0
      → WroteShortest ws b r.bytes c
  -- "Refusals, in this order: 1 (also for a shorter scratch), 2, 23 no default route, 24 a held prefix's winning hop over 32, 9 a
  -- buffer too small for the shortest list"
  pub refusals : (ws ms b : List ℕ) (r : Shortened) (ns c : List ℕ) → HasShortened ws ms b r ns c
      → r.refusal ≡ first 1 (ltb (length ms) (length ws) || wrong_size ws) (first 2 (no_table v4 ws)
      (first 23 (eqb (hop_for (winners (held_in v4 ws)) 0 0) 0) (first 24 (not (upto 32 (winners (held_in v4 ws))))
      (first 9 (ltb (length b) (short_bytes (length (shortest4 (winners (held_in v4 ws)))))) 0))))
  pub kept : (ws ms b : List ℕ) (r : Shortened) (ns c : List ℕ) → HasShortened ws ms b r ns c → r.refusal ≢ 0
      → c ≡ b
  -- fed to a cleared table of the same room it is taken whole and forwards the same, and so does a copy made from it
  pub fed : {A : ℕ} {cs : List Candidate} {s : Shorten A cs} (f : Fed s) → ForwardsAgain f
  pub copied : {A : ℕ} {cs : List Candidate} {s : Shorten A cs} (k : OnCard s) → AsForwarded k

-- ---- 14. Calm a flapping route: the words fs of a front and ws of a table of A arrays with the candidates cs become gs and vs

pub record Item14 (A : ℕ) (cs : List Candidate) (fs ws : List ℕ) : Type 0 where
  -- "An accepted withdrawal adds 1,000, up to 12,000. Over 3,000 a candidate is held back .. its announcement is accepted and
  -- kept ..": an update is answered as the definition answers it, and leaves the list and the places that it leaves
  pub update : (u : Update) (gs vs : List ℕ) (r : Damped) → damper.HasUpdated fs ws gs vs u r
      → (r ≡ updated_by (damped 32 A cs (places_of fs) u).reply)
      × (seen 4 vs ≡ table A (damped 32 A cs (places_of fs) u).left.list)
      × (seen_front gs ≡ front (damped 32 A cs (places_of fs) u).left.places)
  -- "a tick that halves each penalty .. What is kept at below 750 is then installed if there is room"
  pub tick : (gs vs : List ℕ) (r : Ticked) → damper.HasTicked fs ws gs vs r
      → (r ≡ damper.held (gives (held_by (tick_places 32 A cs (places_of fs)))))
      × (seen 4 vs ≡ table A (tick_list 32 A cs (places_of fs)))
      × (seen_front gs ≡ front (tick_places 32 A cs (places_of fs)))
  -- "With no further withdrawal and with room, that is within five ticks": of the candidate k, whatever happens to others
  pub five : (feed b gs vs c : List ℕ) (r : DampedRun) → damper.HasRun fs ws feed b gs vs c r → (k : ℕ)
      → AllSpare k (events_of A (both cs (places_of fs)) feed (length b))
      → AllRoomFor 32 A k (both cs (places_of fs)) (events_of A (both cs (places_of fs)) feed (length b))
      → 5 ≤ ticks_in (events_of A (both cs (places_of fs)) feed (length b))
      → (qs : List Place) → seen_front gs ≡ front qs → ((mark_at qs k).back ≡ false) × ((mark_at qs k).kept ≡ 0)
  -- "demands 2 and 3 read of the table behind it": it ends as after a run without the front
  pub behind : (feed b gs vs c : List ℕ) (r : DampedRun) → damper.HasRun fs ws feed b gs vs c r → AreBytes feed → (d : List ℕ)
      → 5 * length (records_behind fs feed b A cs) ≤ length d
      → seen 4 vs ≡ ran_on v4 (seen 4 ws) (fed_behind fs feed b A cs) d
