-- Candidates written out and fed to a cleared table of the same room give that list again. Assumes nothing.
use Rattle.std.specs.Prelude.{◌≡◌, refl, true, false, List, [], ◌∷◌, ◌++◌, ℕ, suc, ◌+◌, ◌-◌, ◌*◌, ◌/◌, ◌≤◌, ◌<◌, length}
use Rattle.std.proofs.Common.{sym, ap, ◌∙◌, append_assoc, append-nil, mul-suc, arith, length-append, le-ltb, ne_eqb}
use Rattle.std.proofs.lemmas.Bool.{false≢true}
use Rattle.routes.specs.Family.{Family, v4, v6, levels, width, announcing_for, kind_of}
use Rattle.routes.specs.Route.{route}
use Rattle.routes.specs.Room.{need}
use Rattle.routes.specs.Answers.{Reply, done, found, none, refused, is_done, is_refused, count}
use Rattle.routes.specs.Bytes.{replies_bytes}
use Rattle.laws.specs.Families.{width_low}
use Rattle.laws.specs.Room.{heads_first, need_le}
use Rattle.candidates.specs.Keyed.{Ordered, put, Every}
use Rattle.candidates.specs.Candidate.{Candidate, key, IsCandidate, IsList}
use Rattle.candidates.specs.Winners.{winners, prefixes}
use Rattle.candidates.specs.Answers.{Update, announce, sound, answer, after, replies, leaves}
use Rattle.candidates.specs.Bytes.{Sent, announces_for, meanings, sent_bytes, all_bytes, AllFit, announced, written}
use Rattle.candidates.specs.Runs.{run}
use Rattle.candidates.specs.Seen.{bytes_for}
use Rattle.rivals.specs.Maps.{every_map}
use Rattle.rivals.specs.Append.{Inside, inside_le, inside_weaken, inside-append}
use Rattle.rivals.specs.Won.{Good, is_good}
use Rattle.rivals.specs.Need.{need-prefixes}
use Rattle.rivals.specs.Updates.{faulty-sound, plain_done, answer-plain}
use Rattle.encoded.specs.Encoded.{size_back}

-- ---- a last candidate added

put_last : (lo : ℕ) (c : Candidate) (xs : List Candidate) → Inside key lo (key c) xs → put key c xs ≡ xs ++ (c ∷ [])
put_last lo c [] w = refl
put_last lo c (x ∷ xs) w =
    let h = inside_le key (suc (key x)) (key c) xs w.1 in
    rw (le-ltb (key c) (key x) (omega arith), ne_eqb (key c) (key x) (λ e. omega arith))
    (ap (◌∷◌ x) (put_last (suc (key x)) c xs w.1))

prefixes-append : (xs ys : List Candidate) → prefixes (xs ++ ys) ≡ prefixes xs ++ prefixes ys
prefixes-append [] ys = refl
prefixes-append (x ∷ xs) ys = ap (◌∷◌ (route x.addr x.len 0)) (prefixes-append xs ys)

every_first : (P : Candidate → Type 0) (xs ys : List Candidate) → Every P (xs ++ ys) → Every P xs
every_first P [] ys p = tt
every_first P (x ∷ xs) ys p = (p.0, every_first P xs ys p.1)

-- the first part of a list needs no more than the whole
need_first : (W : ℕ) (xs ys : List Candidate) → Every Good (xs ++ ys) → need W (winners xs) ≤ need W (winners (xs ++ ys))
need_first W xs ys p =
    let i = need_le W (prefixes xs ++ prefixes ys) (prefixes xs) (heads_first W (prefixes xs) (prefixes ys)) (W / 8 - 1) in
    let e = ap (need W) (prefixes-append xs ys) in
    omega (arith, i, e, need-prefixes W xs (every_first Good xs ys p), need-prefixes W (xs ++ ys) p)

done_refused : (r : Reply) → is_done r ≡ true → is_refused r ≡ false
done_refused (done h c) e = refl
done_refused (found h l q) e = refl
done_refused (none q) e = refl
done_refused (refused n) e = absurd (false≢true e)

-- ---- each is taken where there is room for the whole

module _ (W : ℕ) (w : W < 256) (A : ℕ) where
  abbrev sent : Candidate → Update
  sent c = announce c.addr c.len c.hop c.feed c.pref

  is_sound : (c : Candidate) → IsCandidate W c → sound W (sent c) ≡ true
  is_sound c p =
      rw (
        le-ltb W c.len p.route.wf.fits,
        p.route.wf.clean,
        ne_eqb c.hop 0 (λ e. (let z = p.route.wf.some in omega arith)),
        le-ltb 65535 c.hop p.route.low,
        ne_eqb c.feed 0 (λ e. (let z = p.low in omega arith)),
        le-ltb 4 c.feed p.high,
      )

  takes : (c : Candidate) (xs : List Candidate) → IsCandidate W c → Every Good xs → need W (winners (put key c xs)) ≤ A
      → is_done (answer W A xs (sent c)) ≡ true
  takes c xs p q h =
      sym (plain_done (answer W A xs (sent c)))
      ∙ ap is_done (answer-plain W w A xs (sent c) q (λ s. h))
      ∙ ap is_done (faulty-sound W (sent c) (done c.hop 0) (is_sound c p))

  pub record Loaded (xs ys : List Candidate) : Type 0 where
    pub list : leaves W A xs (meanings (announced ys)) ≡ xs ++ ys
    pub accepted : count is_done (replies W A xs (meanings (announced ys))) ≡ length ys
    pub refused : count is_refused (replies W A xs (meanings (announced ys))) ≡ 0

  pub load : (lo : ℕ) (xs ys : List Candidate) → Inside key 0 lo xs → Ordered key lo ys → Every (IsCandidate W) ys
      → Every Good (xs ++ ys) → need W (winners (xs ++ ys)) ≤ A → Loaded xs ys
  load lo xs [] i f p q h = record { list = sym (append-nil xs); accepted = refl; refused = refl }
  load lo xs (y ∷ ys) i f p q h =
      let i' : Inside key 0 (key y) xs = inside_weaken key 0 0 lo (key y) xs (omega arith) f.0 i in
      let s : (xs ++ (y ∷ [])) ++ ys ≡ xs ++ (y ∷ ys) = append_assoc xs (y ∷ []) ys in
      let q' : Every Good ((xs ++ (y ∷ [])) ++ ys) = rw s q in
      let t : put key y xs ≡ xs ++ (y ∷ []) = put_last 0 y xs i' in
      let r : need W (winners (xs ++ (y ∷ ys))) ≤ A = h in
      let n : need W (winners (put key y xs)) ≤ A = rw t (omega (arith, r, rw s at (need_first W (xs ++ (y ∷ [])) ys q'))) in
      let d : is_done (answer W A xs (sent y)) ≡ true = takes y xs p.0 (every_first Good xs (y ∷ ys) q) n in
      let e : after W A xs (sent y) ≡ xs ++ (y ∷ []) = rw d t in
      let j = inside-append key 0 (key y) (suc (key y)) xs (y ∷ []) i' (omega arith, omega arith) in
      let more = load (suc (key y)) (xs ++ (y ∷ [])) ys j f.1 p.1 q' (rw s h) in
      record {
        list = ap (λ (zs : List Candidate). leaves W A zs (meanings (announced ys))) e ∙ more.list ∙ s;
        accepted = rw (e, d) (omega (arith, more.accepted));
        refused = rw (e, done_refused (answer W A xs (sent y)) d) (omega (arith, more.refused));
      }

pub as_many : (cs : List Candidate) → length (announced cs) ≡ length cs
as_many [] = refl
as_many (c ∷ cs) = ap suc (as_many cs)

-- ---- the bytes

module _ (F : Family) where
  pub fit : (cs : List Candidate) → Every (IsCandidate (width F)) cs → AllFit F (announced cs)
  fit [] p = tt
  fit (c ∷ cs) p =
      let w = p.0.route.wf in
      let l : c.len < 256 = omega (arith, w.fits, width_low F) in (
        record {
          kind = announce_low F;
          address = w.inside;
          tail = (l, omega (arith, p.0.route.low), omega (arith, p.0.high), p.0.byte);
        },
        fit cs p.1,
      )
    where
      announce_low : (F : Family) → kind_of F announcing_for < 256
      announce_low v4 = omega arith
      announce_low v6 = omega arith

  pub bytes_long : (cs : List Candidate) → length (all_bytes F (announced cs)) ≡ (levels F + 6) * length cs
  bytes_long [] = omega arith
  bytes_long (c ∷ cs) =
      let x : Sent = announces_for c.addr c.len c.hop c.feed c.pref in
      length-append (sent_bytes F x) (all_bytes F (announced cs))
      ∙ omega (arith, mul-suc (levels F + 6) (length cs), bytes_long cs, size_back F x)

  -- 10n + 1 bytes for n candidates of IPv4, 22n + 1 for those of IPv6
  pub written_long : (cs : List Candidate) → length (written F cs) ≡ bytes_for F (length cs)
  written_long cs = length-append (all_bytes F (announced cs)) (0 ∷ []) ∙ omega (arith, bytes_long cs)
