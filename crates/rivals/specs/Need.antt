-- Room of candidates: a prefix needs what it needs, however many candidates it has. Assumes nothing.
use Rattle.std.specs.Prelude.{◌≡◌, refl, ◌≢◌, Bool, true, ◌||◌, List, [], ◌∷◌, ℕ, ◌+◌, ◌-◌, ◌*◌, ◌/◌, ◌≤◌, ◌<◌}
use Rattle.std.proofs.Common.{sym, ap, ◌∙◌, arith}
use Rattle.routes.specs.Route.{Route, route, From, All, hop_at, insert}
use Rattle.routes.specs.Room.{mem, heads, need}
use Rattle.logic.specs.Cases.{same}
use Rattle.logic.specs.Bools.{or_case, or_left, or_right}
use Rattle.laws.specs.Sorted.{insert-held}
use Rattle.laws.specs.Sorted as sorted
use Rattle.laws.specs.Room.{has_head, mem-heads, heads-insert, HeadsWithin, need_le, need_same, mem_skip}
use Rattle.candidates.specs.Keyed.{put, cut, Every}
use Rattle.candidates.specs.Candidate.{Candidate, prefix_key, key}
use Rattle.candidates.specs.Winners.{winning, winners, prefixes}
use Rattle.rivals.specs.Maps.{every_cut}
use Rattle.rivals.specs.Won.{Good, head_pos, winners_hop, winners_from, winners_good, winners-put, put_won}

-- a head hangs on no hop
pub head_hop : (W n z a l h i : ℕ) → has_head W n z (route a l h) ≡ has_head W n z (route a l i)
unfolding has_head
head_hop W n z a l h i = refl

-- ---- the candidates' prefixes have the heads of the winners, and need as much

pub heads-prefixes : (W n z : ℕ) (cs : List Candidate) → Every Good cs
    → mem z (heads W n (winners cs)) ≡ mem z (heads W n (prefixes cs))
heads-prefixes W n z [] p = refl
heads-prefixes W n z (c ∷ cs) p =
    let r : Route = route c.addr c.len (winning (c ∷ cs) (prefix_key c)) in
    heads-insert W n z r (winners cs) (record { pos = head_pos c cs p; short = p.0.short }) (winners_good cs p.1)
    ∙ mem-heads W n z r (winners cs)
    ∙ ap (λ (b : Bool). b || mem z (heads W n (winners cs)))
    (head_hop W n z c.addr c.len (winning (c ∷ cs) (prefix_key c)) 0)
    ∙ ap (λ (b : Bool). has_head W n z (route c.addr c.len 0) || b) (heads-prefixes W n z cs p.1)
    ∙ sym (mem-heads W n z (route c.addr c.len 0) (prefixes cs))

pub need-prefixes : (W : ℕ) (cs : List Candidate) → Every Good cs → need W (prefixes cs) ≡ need W (winners cs)
need-prefixes W cs p =
    need_same W (winners cs) (prefixes cs)
    (λ n z e. heads-prefixes W n z cs p ∙ e)
    (λ n z e. sym (heads-prefixes W n z cs p) ∙ e)
    (W / 8 - 1)

-- ---- heads after a change

pub heads-put : (W n z : ℕ) (c : Candidate) (cs : List Candidate) → Good c → Every Good cs
    → mem z (heads W n (winners (put key c cs))) ≡ (has_head W n z (route c.addr c.len 0) || mem z (heads W n (winners cs)))
heads-put W n z c cs g p =
    ap (λ (rs : List Route). mem z (heads W n rs)) (winners-put c cs g p)
    ∙ heads-insert W n z (route c.addr c.len (winning (put key c cs) (prefix_key c))) (winners cs)
    (record { pos = put_won c cs g p; short = g.short }) (winners_good cs p)
    ∙ mem-heads W n z (route c.addr c.len (winning (put key c cs) (prefix_key c))) (winners cs)
    ∙ ap (λ (b : Bool). b || mem z (heads W n (winners cs))) (head_hop W n z c.addr c.len _ 0)

prefixes_cut : (W n z k : ℕ) (cs : List Candidate) → mem z (heads W n (prefixes (cut key k cs))) ≡ true
    → mem z (heads W n (prefixes cs)) ≡ true
prefixes_cut W n z k [] e = e
prefixes_cut W n z k (d ∷ ds) e =
    same (key d) k
    (λ q t. mem_skip W n z (route d.addr d.len 0) (prefixes ds) (rw t at e))
    (λ m t. or_case (has_head W n z (route d.addr d.len 0)) (mem z (heads W n (prefixes (cut key k ds))))
    (sym (mem-heads W n z (route d.addr d.len 0) (prefixes (cut key k ds))) ∙ rw t at e)
    (λ h.
    mem-heads W n z (route d.addr d.len 0) (prefixes ds)
    ∙ or_left (has_head W n z (route d.addr d.len 0)) (mem z (heads W n (prefixes ds))) h)
    (λ h. mem_skip W n z (route d.addr d.len 0) (prefixes ds) (prefixes_cut W n z k ds h)))

-- a removal adds none
pub heads_cut : (W k : ℕ) (cs : List Candidate) → Every Good cs → HeadsWithin W (winners cs) (winners (cut key k cs))
heads_cut W k cs p n z e =
    heads-prefixes W n z cs p
    ∙ prefixes_cut W n z k cs (sym (heads-prefixes W n z (cut key k cs) (every_cut key Good k cs p)) ∙ e)

pub need_cut : (W k : ℕ) (cs : List Candidate) → Every Good cs → need W (winners (cut key k cs)) ≤ need W (winners cs)
need_cut W k cs p = need_le W (winners cs) (winners (cut key k cs)) (heads_cut W k cs p) (W / 8 - 1)

-- ---- room for one candidate more

-- the winners with a route of its prefix, as room is asked
pub asked : (W : ℕ) (c : Candidate) (cs : List Candidate) (h : ℕ) → 0 < h → Good c → Every Good cs
    → need W (insert (route c.addr c.len h) (winners cs)) ≡ need W (winners (put key c cs))
asked W c cs h s g p =
    need_same W (winners (put key c cs)) (insert (route c.addr c.len h) (winners cs))
    (λ n z e. heads-put W n z c cs g p ∙ sym (own n z) ∙ e)
    (λ n z e. own n z ∙ sym (heads-put W n z c cs g p) ∙ e)
    (W / 8 - 1)
  where
    own : (n z : ℕ)
        → mem z (heads W n (insert (route c.addr c.len h) (winners cs)))
        ≡ (has_head W n z (route c.addr c.len 0) || mem z (heads W n (winners cs)))
    own n z =
        heads-insert W n z (route c.addr c.len h) (winners cs) (record { pos = s; short = g.short }) (winners_good cs p)
        ∙ mem-heads W n z (route c.addr c.len h) (winners cs)
        ∙ ap (λ (b : Bool). b || mem z (heads W n (winners cs))) (head_hop W n z c.addr c.len h 0)

-- a held prefix has its heads already: its route put in again changes nothing
held_head : (W n z a l : ℕ) (rs : List Route) → From 0 rs → l < 256 → All sorted.Good rs → 0 < hop_at rs (a * 256 + l)
    → has_head W n z (route a l 0) ≡ true → mem z (heads W n rs) ≡ true
held_head W n z a l rs o s p h e =
    ap (λ (ss : List Route). mem z (heads W n ss)) (sym (insert-held r rs o p g refl))
    ∙ heads-insert W n z r rs g p
    ∙ mem-heads W n z r rs
    ∙ or_left (has_head W n z r) (mem z (heads W n rs)) (head_hop W n z a l (hop_at rs (a * 256 + l)) 0 ∙ e)
  where
    r : Route
    r = route a l (hop_at rs (a * 256 + l))

    g : sorted.Good r
    g = record { pos = h; short = s }

-- a candidate more of a held prefix needs no more arrays
pub need-held : (W : ℕ) (c : Candidate) (cs : List Candidate) → Good c → Every Good cs → winning cs (prefix_key c) ≢ 0
    → need W (winners (put key c cs)) ≡ need W (winners cs)
need-held W c cs g p h =
    need_same W (winners cs) (winners (put key c cs))
    (λ n z e. or_case (has_head W n z (route c.addr c.len 0)) (mem z (heads W n (winners cs)))
    (sym (heads-put W n z c cs g p) ∙ e)
    (λ t. held_head W n z c.addr c.len (winners cs) (winners_from cs) g.short (winners_good cs p)
    (rw (winners_hop cs (prefix_key c)) (omega arith)) t)
    (λ t. t))
    (λ n z e. heads-put W n z c cs g p ∙ or_right (has_head W n z (route c.addr c.len 0)) (mem z (heads W n (winners cs))) e)
    (W / 8 - 1)
