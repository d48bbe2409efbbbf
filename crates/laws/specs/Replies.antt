-- Replies read back from their bytes: those that fit are read back as they were, and what a list says to a lookup fits.
-- Assumes nothing.
--
--     replies   done 1 4     refused 7   found 2 22 22   none 8
--     bytes     16 0 1 0 4   19 7        17 0 2 22 22    18 8      the kind of each says where the next begins
use Rattle.std.specs.Prelude.{◌≡◌, refl, Bool, true, false, List, [], ◌∷◌, ◌++◌, ℕ, ◌+◌, ◌≤◌, ◌<◌, ltb, eqb, length, get_or}
use Rattle.std.proofs.Common.{ap, ap₂, ◌∙◌, true≢false, append_assoc, arith, length-append, get_or-append-add, ltb-false}
use Rattle.std.proofs.lemmas.Bool.{false≢true}
use Rattle.routes.specs.Route.{Route, All, bad_hop}
use Rattle.routes.specs.Match.{Match, matches, or_longer, longest}
use Rattle.routes.specs.Match as match
use Rattle.routes.specs.Answers.{Reply, done, found, none, refused, refuse, is_done, matched}
use Rattle.routes.specs.Bytes.{reply_bytes, replies_bytes, ReplyFits, RepliesFit, reply_size, replies_at}
use Rattle.logic.specs.Cases.{bool}
use Rattle.laws.specs.Encoded.{reply_back}

-- ---- replies that fit are read back

size_back : (pre : List ℕ) (y : Reply) (ys : List ℕ)
    → reply_size (get_or (pre ++ (reply_bytes y ++ ys)) (length pre) 0) ≡ length (reply_bytes y)
size_back pre y ys =
    let bs : List ℕ = reply_bytes y ++ ys in
    let e : length pre ≡ length pre + 0 = omega arith in
    ap reply_size (ap (λ (i : ℕ). get_or (pre ++ bs) i 0) e ∙ get_or-append-add pre bs 0 0) ∙ go y
  where
    go : (y : Reply) → reply_size (get_or (reply_bytes y ++ ys) 0 0) ≡ length (reply_bytes y)
    go (done h c) = refl
    go (found h l q) = refl
    go (none q) = refl
    go (refused n) = refl

-- wherever they stand, and whatever follows them
pub replies_back : (pre : List ℕ) (ys : List Reply) (rest : List ℕ) → RepliesFit ys
    → replies_at (length ys) (pre ++ (replies_bytes ys ++ rest)) (length pre) ≡ ys
replies_back pre [] rest f = refl
replies_back pre (y ∷ ys) rest f =
    let bs : List ℕ = replies_bytes ys ++ rest in
    let e : pre ++ ((reply_bytes y ++ replies_bytes ys) ++ rest) ≡ pre ++ (reply_bytes y ++ bs) = simp append_assoc in
    let d : (pre ++ reply_bytes y) ++ bs ≡ pre ++ (reply_bytes y ++ bs) = append_assoc pre (reply_bytes y) bs in
    let l : length (pre ++ reply_bytes y) ≡ length pre + length (reply_bytes y) = length-append pre (reply_bytes y) in
    rw (e, size_back pre y bs)
    (ap₂ ◌∷◌ (reply_back pre y bs f.0) (rw (d, l) at (replies_back (pre ++ reply_bytes y) ys rest f.1)))

-- ---- parts of answers that fit

-- hops and lengths that fit a reply: those of every route that was accepted
pub record Low (W : ℕ) (r : Route) : Type 0 where
  pub len : r.len ≤ W
  pub hop : r.hop ≤ 65535

-- a test that was passed
pub passed : (n : ℕ) (b : Bool) (y : Reply) → is_done (refuse n b y) ≡ true → (b ≡ false) × (is_done y ≡ true)
passed n true y e = absurd (false≢true e)
passed n false y e = (refl, e)

module _ (W : ℕ) (w : W < 256) where
  module _ (q : ℕ) (b : q ≤ W) where
    longer-fits : (r : Route) (m : Match) → Low W r → ReplyFits (matched m q) → ReplyFits (matched (or_longer r m) q)
    longer-fits r match.none p f = (omega (arith, p.hop), omega (arith, p.len, w), omega (arith, b, w))
    longer-fits r (match.found h l) p f =
        bool (ltb r.len l) (λ e. rw e f)
        (λ e. rw e (omega (arith, p.hop), omega (arith, p.len, w), omega (arith, b, w)))

    pub match_fits : (a : ℕ) (rs : List Route) → All (Low W) rs → ReplyFits (matched (longest W a rs) q)
    match_fits a [] p = omega (arith, b, w)
    match_fits a (r ∷ rs) p =
        let f = match_fits a rs p.1 in
        bool (matches W a r) (λ e. rw e (longer-fits r (longest W a rs) p.0 f)) (λ e. rw e f)

  pub refuse-fits : (n : ℕ) (b : Bool) (y : Reply) → n < 256 → (b ≡ false → ReplyFits y) → ReplyFits (refuse n b y)
  refuse-fits n true y h f = h
  refuse-fits n false y h f = f refl

  -- a hop that is not refused
  pub hop_low : (h : ℕ) → bad_hop h ≡ false → h ≤ 65535
  hop_low h e = ltb-false 65535 h (bool (eqb h 0) (λ d. absurd (true≢false (rw d at e))) (λ d. rw d at e))
