-- The run of a feed that encodes records: their replies, one after the other. Assumes nothing.
use Rattle.std.specs.Prelude.{◌≡◌, refl, false, List, [], ◌∷◌, ◌++◌, ℕ, suc, ◌+◌, ◌-◌, ◌*◌, ◌≤◌, ◌<◌, length, get_or}
use Rattle.std.proofs.Common.{sym, ap, ◌∙◌, append_assoc, append-nil, add-zero, arith, length-append}
use Rattle.numbers.specs.Digits.{one, two, digits}
use Rattle.numbers.specs.Number.{number_at}
use Rattle.numbers.specs.Back.{digits-length}
use Rattle.numbers.proofs.Back.{number_back}
use Rattle.routes.specs.Family.{Family, v4, v6, levels, width, role_of, is_unknown}
use Rattle.routes.specs.Answers.{Reply, is_done, is_refused, count}
use Rattle.routes.specs.Bytes.{reply_bytes, replies_bytes}
use Rattle.laws.specs.Families.{role_back}
use Rattle.laws.specs.Encoded.{byte, two_back, one_back, reply_short}
use Rattle.candidates.specs.Candidate.{Candidate}
use Rattle.candidates.specs.Answers.{reply, replies, next, leaves}
use Rattle.candidates.specs.Bytes.{Sent, announces, withdraws, looks, announces_for, withdraws_for, means, meanings, role}
use Rattle.candidates.specs.Bytes.{tail_bytes, address_of, kind, sent_bytes, all_bytes, TailFits, Fits, AllFit}
use Rattle.candidates.specs.Runs.{State, size, sent_of, sent_at, role_at, take, finish, halts, taken, runs, fresh, run}
use Rattle.encoded.specs.Turns.{tally-count, clear_halts, halts_0, runs_on, runs_stop, runs_end}
use Rattle.encoded.specs.Encoded.{size_back, known-role, kind_some, k, o, l, turn-taken, takes, ended, takes_ended, enough}

module _ (F : Family) (A : ℕ) (pre : List ℕ) (x : Sent) (ys : List ℕ) (room : ℕ) (s : State)
    (f : Fits F x) (e : s.consumed ≡ length pre) (h : length s.replies + 5 ≤ room) where
  abbrev feed : List ℕ
  feed = pre ++ (sent_bytes F x ++ ys)

  turn_clear : halts F feed room s.consumed (length s.replies) ≡ 5
  turn_clear =
      clear_halts F feed room s.consumed (length s.replies) (record {
        known = ap is_unknown (o F A pre x ys room s f e h) ∙ known-role x;
        body = rw ((o F A pre x ys room s f e h), size_back F x) (omega (arith, (l F A pre x ys room s f e h)));
        more = omega (arith, (k F A pre x ys room s f e h), kind_some F x);
        free = h;
      })

module _ (F : Family) where
  runs-records : (n A : ℕ) (xs : List Sent) (pre ys : List ℕ) (room : ℕ) (s : State) → AllFit F xs → s.consumed ≡ length pre
      → length s.replies + 5 * length xs ≤ room
      → runs F (length xs + n) A (pre ++ (all_bytes F xs ++ ys)) room s
      ≡ runs F n A (pre ++ (all_bytes F xs ++ ys)) room ((takes F) A s xs)
  runs-records n A [] pre ys room s f e h = let z : 0 + n ≡ n = omega arith in rw z
  runs-records n A (x ∷ xs) pre ys room s f e h =
      let b : List ℕ = sent_bytes F x in
      let bs : List ℕ = all_bytes F xs in
      let z : suc (length xs) + n ≡ suc (length xs + n) = omega arith in
      let i : (pre ++ b) ++ (bs ++ ys) ≡ pre ++ ((b ++ bs) ++ ys) = simp append_assoc in
      let t : State = take F A s (length b) (means x) in
      let l : length t.replies ≡ length s.replies + length (reply_bytes (reply (width F) A s.list (means x))) =
      length-append s.replies _ in
      let q : length (pre ++ b) ≡ length pre + length b = length-append pre b in
      let j : pre ++ ((b ++ bs) ++ ys) ≡ pre ++ (b ++ (bs ++ ys)) = simp append_assoc in
      let p = turn_clear F A pre x (bs ++ ys) room s f.0 e (omega arith) in
      let r = turn-taken F A pre x (bs ++ ys) room s f.0 e (omega arith) in
      rw (z, j)
      (runs_on F (length xs + n) A (pre ++ (b ++ (bs ++ ys))) room s p
      ∙ ap (λ (t : State). runs F (length xs + n) A (pre ++ (b ++ (bs ++ ys))) room t) r
      ∙ rw (i ∙ j) at (runs-records n A xs (pre ++ b) ys room t f.1 (omega arith)
      (omega (arith, reply_short (reply (width F) A s.list (means x))))))

  -- a feed of records alone: each is answered as by the list, and the run stops for want of a byte
  pub run-records : (A : ℕ) (cs : List Candidate) (xs : List Sent) (room : ℕ) → AllFit F xs → 5 * length xs ≤ room
      → run F A cs (all_bytes F xs) room ≡ record { stop = 1; end = (ended F) A (fresh cs) xs }
  run-records A cs xs room f h =
      let bs : List ℕ = all_bytes F xs in
      let e : length bs ≡ length xs + (length bs - length xs) = omega (arith, (enough F) xs) in
      let g : bs ++ [] ≡ bs = append-nil bs in
      ap (λ (n : ℕ). runs F n A bs room (fresh cs)) e
      ∙ (rw g at (runs-records (length bs - length xs) A xs [] [] room (fresh cs) f refl (omega arith)))
      ∙ ap (λ (s : State). runs F (length bs - length xs) A bs room s) ((takes_ended F) A xs (fresh cs))
      ∙ runs_end F (length bs - length xs) A bs room ((ended F) A (fresh cs) xs) (omega arith)

  -- with an end, and whatever follows it
  pub run-ended : (A : ℕ) (cs : List Candidate) (xs : List Sent) (ys : List ℕ) (room : ℕ) → AllFit F xs → 5 * length xs ≤ room
      → run F A cs (all_bytes F xs ++ (0 ∷ ys)) room ≡ record { stop = 0; end = finish ((ended F) A (fresh cs) xs) }
  run-ended A cs xs ys room f h =
      let n : ℕ = length (all_bytes F xs) in
      let l : length bs ≡ n + suc (length ys) = length-append (all_bytes F xs) (0 ∷ ys) in
      let e : length bs ≡ length xs + suc (length bs - length xs - 1) = omega (arith, (enough F) xs) in
      let k : get_or bs (0 + n) 0 ≡ 0 = byte (all_bytes F xs) (0 ∷ ys) (0 + n) 0 (omega arith) in
      ap (λ (n : ℕ). runs F n A bs room (fresh cs)) e
      ∙ runs-records (suc (length bs - length xs - 1)) A xs [] (0 ∷ ys) room (fresh cs) f refl (omega arith)
      ∙ ap (λ (s : State). runs F (suc (length bs - length xs - 1)) A bs room s) ((takes_ended F) A xs (fresh cs))
      ∙ runs_stop F (length bs - length xs - 1) A bs room ((ended F) A (fresh cs) xs) 0
      (halts_0 F bs room (0 + n) (length ((ended F) A (fresh cs) xs).replies) (omega arith) k) (λ q. omega arith)
    where
      bs : List ℕ
      bs = all_bytes F xs ++ (0 ∷ ys)
