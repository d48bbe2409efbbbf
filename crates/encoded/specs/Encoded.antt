-- The run of a feed that encodes records: their replies, one after the other. Assumes nothing.
use Rattle.std.specs.Prelude.{◌≡◌, refl, false, List, [], ◌∷◌, ◌++◌, ℕ, suc, ◌+◌, ◌-◌, ◌*◌, ◌≤◌, ◌<◌, length, get_or}
use Rattle.std.proofs.Common.{sym, ap, ◌∙◌, append_assoc, append-nil, add-zero, arith, length-append}
use Rattle.numbers.specs.Digits.{one, two, digits}
use Rattle.numbers.specs.Number.{number_at}
use Rattle.numbers.specs.Back.{digits-length}
use Rattle.numbers.proofs.Back.{number_back}
use Rattle.routes.specs.Family.{Family, v4, v6, levels, width, role_of, is_unknown}
use Rattle.routes.specs.Answers.{Reply, is_done, is_refused, count}
use Rattle.routes.specs.Bytes.{reply_bytes, replies_bytes}
use Rattle.laws.specs.Families.{role_back}
use Rattle.laws.specs.Encoded.{byte, two_back, one_back, reply_short}
use Rattle.candidates.specs.Candidate.{Candidate}
use Rattle.candidates.specs.Answers.{reply, replies, next, leaves}
use Rattle.candidates.specs.Bytes.{Sent, announces, withdraws, looks, announces_for, withdraws_for, means, meanings, role}
use Rattle.candidates.specs.Bytes.{tail_bytes, address_of, kind, sent_bytes, all_bytes, TailFits, Fits, AllFit}
use Rattle.candidates.specs.Runs.{State, size, sent_of, sent_at, role_at, take, finish, halts, taken, runs, fresh, run}
use Rattle.encoded.specs.Turns.{tally-count, clear_halts, halts_0, runs_on, runs_stop, runs_end}

-- ---- bytes read back

-- what follows an address, from where this ends
module _ (F : Family) (pre : List ℕ) (i : ℕ) (j : ℕ) (e : j ≡ length pre) where
  -- a byte after the hop, the one after that, and a byte after the length
  far_back : (l h f : ℕ) (ys : List ℕ) → f < 256 → get_or (pre ++ (one l ++ (two h ++ (one f ++ ys)))) (j + 3) 0 ≡ f
  far_back l h f ys b = byte pre (one l ++ (two h ++ (one f ++ ys))) (j + 3) 3 (omega arith) ∙ omega arith

  last_back : (l h f p : ℕ) (ys : List ℕ) → p < 256 → get_or (pre ++ (one l ++ (two h ++ (one f ++ (one p ++ ys))))) (j + 4) 0 ≡ p
  last_back l h f p ys b = byte pre (one l ++ (two h ++ (one f ++ (one p ++ ys)))) (j + 4) 4 (omega arith) ∙ omega arith

  next_back : (l f : ℕ) (ys : List ℕ) → f < 256 → get_or (pre ++ (one l ++ (one f ++ ys))) (j + 1) 0 ≡ f
  next_back l f ys b = byte pre (one l ++ (one f ++ ys)) (j + 1) 1 (omega arith) ∙ omega arith

  tail_back : (x : Sent) (ys : List ℕ) → TailFits x → number_at (levels F) (pre ++ (tail_bytes x ++ ys)) i ≡ address_of x
      → sent_of F (pre ++ (tail_bytes x ++ ys)) i j (role x) ≡ x
  tail_back (announces a l h) ys f q =
      λ n. announces (q n) (one_back pre j e l (two h ++ ys) f.0 n) (two_back pre j e l h ys f.1 n)
  tail_back (withdraws a l) ys f q = λ n. withdraws (q n) (one_back pre j e l ys f n)
  tail_back (looks a) ys f q = ap looks q
  tail_back (announces_for a l h g p) ys f q =
      λ n. announces_for (q n)
      (one_back pre j e l (two h ++ (one g ++ (one p ++ ys))) f.0 n)
      (two_back pre j e l h (one g ++ (one p ++ ys)) f.1 n)
      (far_back l h g (one p ++ ys) f.2 n)
      (last_back l h g p ys f.3 n)
  tail_back (withdraws_for a l g) ys f q =
      λ n. withdraws_for (q n) (one_back pre j e l (one g ++ ys) f.0 n) (next_back l g ys f.1 n)

module _ (F : Family) (pre : List ℕ) (i : ℕ) (e : i ≡ length pre) where
  -- each record decodes to itself, wherever it stands
  pub sent_back : (x : Sent) (ys : List ℕ) → Fits F x → sent_at F (pre ++ (sent_bytes F x ++ ys)) i (role x) ≡ x
  sent_back x ys f =
      let a : List ℕ = digits (levels F) (address_of x) in
      let one : List ℕ = pre ++ (kind F x ∷ []) in
      let all : List ℕ = one ++ a in
      let m : length one ≡ length pre + 1 = length-append pre (kind F x ∷ []) in
      let n : length all ≡ length one + levels F = length-append one a ∙ ap (λ (k : ℕ). length one + k) (digits-length _ _) in
      let p : one ++ (a ++ (tail_bytes x ++ ys)) ≡ pre ++ (sent_bytes F x ++ ys) = simp append_assoc in
      let q : all ++ (tail_bytes x ++ ys) ≡ pre ++ (sent_bytes F x ++ ys) = simp append_assoc in
      let b : number_at (levels F) (pre ++ (sent_bytes F x ++ ys)) (i + 1) ≡ address_of x =
      rw p at (number_back one (tail_bytes x ++ ys) (i + 1) (levels F) (address_of x) (omega arith) f.address) in
      rw q at (tail_back F all (i + 1) (i + 1 + levels F) (omega arith) x ys f.tail (rw q b))

  kind_back : (x : Sent) (ys : List ℕ) → get_or (pre ++ (sent_bytes F x ++ ys)) i 0 ≡ kind F x
  kind_back x ys = byte pre (sent_bytes F x ++ ys) i 0 (omega arith)

  role_there : (x : Sent) (ys : List ℕ) → Fits F x → role_at F (pre ++ (sent_bytes F x ++ ys)) i ≡ role x
  role_there x ys f = ap (role_of F) (kind_back x ys) ∙ role_back F (role x) f.kind

pub size_back : (F : Family) (x : Sent) → size F (role x) ≡ length (sent_bytes F x)
size_back F x =
    of x ∙ omega (arith, length-append (digits (levels F) (address_of x)) (tail_bytes x), digits-length (levels F) (address_of x))
  where
    of : (x : Sent) → size F (role x) ≡ suc (levels F + length (tail_bytes x))
    of (announces a l h) = omega arith
    of (withdraws a l) = omega arith
    of (looks a) = omega arith
    of (announces_for a l h f p) = omega arith
    of (withdraws_for a l f) = omega arith

pub known-role : (x : Sent) → is_unknown (role x) ≡ false
known-role (announces a l h) = refl
known-role (withdraws a l) = refl
known-role (looks a) = refl
known-role (announces_for a l h f p) = refl
known-role (withdraws_for a l f) = refl

-- none is an end
pub kind_some : (F : Family) (x : Sent) → 1 ≤ kind F x
kind_some v4 (announces a l h) = omega arith
kind_some v4 (withdraws a l) = omega arith
kind_some v4 (looks a) = omega arith
kind_some v4 (announces_for a l h f p) = omega arith
kind_some v4 (withdraws_for a l f) = omega arith
kind_some v6 (announces a l h) = omega arith
kind_some v6 (withdraws a l) = omega arith
kind_some v6 (looks a) = omega arith
kind_some v6 (announces_for a l h f p) = omega arith
kind_some v6 (withdraws_for a l f) = omega arith

-- ---- a turn on an encoded record

module _ (F : Family) (A : ℕ) (pre : List ℕ) (x : Sent) (ys : List ℕ) (room : ℕ) (s : State)
    (f : Fits F x) (e : s.consumed ≡ length pre) (h : length s.replies + 5 ≤ room) where
  abbrev pub feed : List ℕ
  feed = pre ++ (sent_bytes F x ++ ys)

  pub k : get_or feed s.consumed 0 ≡ kind F x
  k = kind_back F pre s.consumed e x ys

  pub o : role_at F feed s.consumed ≡ role x
  o = role_there F pre s.consumed e x ys f

  pub l : length feed ≡ length pre + (length (sent_bytes F x) + length ys)
  l = length-append pre (sent_bytes F x ++ ys) ∙ ap (λ (n : ℕ). length pre + n) (length-append (sent_bytes F x) ys)

  pub turn-taken : taken F A feed s ≡ take F A s (length (sent_bytes F x)) (means x)
  turn-taken = rw (o, size_back F x, sent_back F pre s.consumed e x ys f)

module _ (F : Family) where
  -- ---- all of them

  abbrev pub takes : ℕ → State → List Sent → State
  takes A s [] = s
  takes A s (x ∷ xs) = takes A (take F A s (length (sent_bytes F x)) (means x)) xs

  -- ---- what they come to

  abbrev pub ended : ℕ → State → List Sent → State
  ended A s xs =
      record {
        list = leaves (width F) A s.list (meanings xs);
        consumed = s.consumed + length (all_bytes F xs);
        replies = s.replies ++ replies_bytes (replies (width F) A s.list (meanings xs));
        accepted = s.accepted + count is_done (replies (width F) A s.list (meanings xs));
        refused = s.refused + count is_refused (replies (width F) A s.list (meanings xs));
      }

  pub takes_ended : (A : ℕ) (xs : List Sent) (s : State) → takes A s xs ≡ ended A s xs
  takes_ended A [] s = λ i. record {
    list = s.list;
    consumed = sym (add-zero s.consumed) i;
    replies = sym (append-nil s.replies) i;
    accepted = sym (add-zero s.accepted) i;
    refused = sym (add-zero s.refused) i;
  }
  takes_ended A (x ∷ xs) s =
      takes_ended A xs (take F A s (length (sent_bytes F x)) (means x)) ∙
      (λ i. record {
        list = leaves (width F) A (next (width F) A s.list (means x)) (meanings xs);
        consumed = c i;
        replies = append_assoc s.replies (reply_bytes y) (replies_bytes ys) i;
        accepted = tally-count (is_done y) s.accepted (count is_done ys) i;
        refused = tally-count (is_refused y) s.refused (count is_refused ys) i;
      })
    where
      y : Reply
      y = reply (width F) A s.list (means x)

      ys : List Reply
      ys = replies (width F) A (next (width F) A s.list (means x)) (meanings xs)

      c : s.consumed + length (sent_bytes F x) + length (all_bytes F xs) ≡ s.consumed + length (sent_bytes F x ++ all_bytes F xs)
      c = omega (arith, length-append (sent_bytes F x) (all_bytes F xs))

  pub enough : (xs : List Sent) → length xs ≤ length (all_bytes F xs)
  enough [] = omega arith
  enough (x ∷ xs) = omega (arith, length-append (sent_bytes F x) (all_bytes F xs), enough xs)
