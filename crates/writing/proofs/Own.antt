-- What the functions that put a prefix's own records down are asked, and what they leave, over plain variables. Assumes nothing.
use mathlib.Core.Path.{◌≡◌, refl, sym, ap, ◌∙◌}
use mathlib.Core.Logic.{◌≢◌}
use mathlib.Core.Bool.{true}
use mathlib.Core.List.{List, [], ◌∷◌, ◌++◌, append-nil}
use Prim.Native.Nat.{ℕ, zero, suc, ◌+◌, ◌-◌, ◌*◌, ◌^◌, ◌≤◌, ◌<◌}
use native.Mathlib.Omega.{arith}
use lib.ListN.{length, get_or, set, drop, length-append, drop_of_length-le}
use lib.Seq.{sets, drop-cons}
use borrow.Rule.Slice.PartMut.{put_mid}
use Rattle.std.proofs.lemmas.List.Edits.{sets-eq}
use Rattle.std.proofs.Common.{append_assoc}
use Rattle.std.proofs.lemmas.Grind.{common_steps}
use Rattle.numbers.specs.Wrote.{Wrote, wrote_none, wrote_two}
use Rattle.numbers.specs.Digits.{one, two, digits}
use Rattle.numbers.proofs.Back.{number_digits}
use Rattle.numbers.specs.Number.{AreBytes}
use Rattle.routes.specs.Family.{levels, announcing_for, kind_of}
use Rattle.candidates.specs.Bytes.{announces_for, sent_bytes}
use Rattle.encoded.specs.Encoded.{size_back}
use Rattle.address.specs.Parts.{filled, filled-length, filled-bytes}
use Rattle.slots.specs.Word.{preference_in, hop_in}
use Rattle.slots.specs.Slot.{free_slot_b, free_slot_reflects}
use Rattle.slots.specs.Page.{words_at}
use Rattle.gather.specs.Gather.{meant, listed, of_feeds}
use Rattle.writing.specs.Records.{bytes_of, bytes-append}
use Rattle.writing.specs.Prefix.{reach, prefix_of, leads-number}
use Rattle.words.specs.Empty.{slot_none}
use Rattle.writing.specs.Asked.{family_of, bytes_word, bytes_feeds, bytes_own, Puts, PutsSlot}

-- ---- put_all: the part that is copied to

pub put_part : (b : List ℕ) (at k : ℕ) (xs ys : List ℕ) → ys ≡ xs → length xs ≡ k → at + k ≤ length b
    → put_mid at k b ys ≡ sets b at xs
put_part b at k xs ys e f h =
    let g : at + length xs ≤ length b = omega (arith, f, h) in
    rw (e, sets-eq xs b at g, append_assoc, f) (grind (arith, common_steps))

-- ---- put_bytes: what is left to be copied is the whole

module _ (b h : List ℕ) (at : ℕ) (c : List ℕ) (i : ℕ) (inv : sets c (at + i) (drop i h) ≡ sets b at h) where
  pub copy_turn : i < length h → (y : ℕ) → y ≡ get_or h i 0
      → sets (set c (at + i) y) (at + (i + 1)) (drop (i + 1) h) ≡ sets b at h
  copy_turn l y e =
      let f : at + (i + 1) ≡ suc (at + i) = omega arith in
      let g : i + 1 ≡ suc i = omega arith in
      rw (f, g, e) (rw (drop-cons h i 0 l) at inv)

  pub copy_done : (n : ℕ) → length h ≡ n → n ≤ i → Wrote b at h (at + n) c
  copy_done n e l =
      record { place = rw e; list = rw (drop_of_length-le h {i = i} (omega arith)) at inv }

-- ---- put

word_none : (bits : ℕ) (a : List ℕ) (feed word : ℕ) → word ≡ 0 → bytes_word bits a feed word ≡ []
unfolding bytes_word bytes_of
word_none bits a feed word e = rw e

word_some : (bits : ℕ) (a : List ℕ) (feed word : ℕ) → word ≢ 0
    → bytes_word bits a feed word
    ≡ sent_bytes (family_of a)
    (announces_for (prefix_of a bits * 2 ^ bits) (8 * length a - bits) (hop_in word) feed (preference_in word))
unfolding bytes_word bytes_of
word_some bits a feed zero n = absurd (n refl)
word_some bits a feed (suc w) n =
    let x = announces_for (prefix_of a bits * 2 ^ bits) (8 * length a - bits) (hop_in (suc w)) feed (preference_in (suc w)) in
    append-nil (sent_bytes (family_of a) x)

module _ {feed word bits : ℕ} {a b : List ℕ} {at : ℕ} (p : Puts feed word a bits b at) where
  pub put_none : word ≡ 0 → Wrote b at (bytes_word bits a feed word) at b
  put_none e = rw (word_none bits a feed word e) (wrote_none b at)

  pub put_room : word ≢ 0 → at + (length a + 6) ≤ length b
  put_room n =
      let x = announces_for (prefix_of a bits * 2 ^ bits) (8 * length a - bits) (hop_in word) feed (preference_in word) in
      omega (arith, p.room, p.family, ap length (word_some bits a feed word n), size_back (family_of a) x)

  abbrev M : ℕ
  M = reach (length a) bits

  -- behind the address there is room for the rest, and no more
  pub put_end : word ≢ 0 → {p q : ℕ} → p ≡ at + 1 → q ≡ p + length (filled M a) → q + 5 ≤ length b
  put_end n f e = omega (arith, put_room n, filled-length a M (omega arith))

  -- what stands behind the address
  abbrev Tail : List ℕ
  Tail = one (8 * length a - bits) ++ (two (hop_in word) ++ (one feed ++ one (preference_in word)))

  abbrev Kind : ℕ
  Kind = kind_of (family_of a) announcing_for

  word_bytes : AreBytes a → word ≢ 0 → bytes_word bits a feed word ≡ Kind ∷ (filled M a ++ Tail)
  word_bytes ok n =
      let m : M ≤ length a = omega arith in
      let n' = levels (family_of a) in
      let e = number_digits n' (filled M a) (filled-length a M m ∙ sym p.family) (filled-bytes a M m ok) in
      let f : digits n' (prefix_of a bits * 2 ^ bits) ≡ filled M a = ap (digits n') (sym (leads-number p.leads)) ∙ e in
      word_some bits a feed word n ∙ ap (λ (xs : List ℕ). Kind ∷ (xs ++ Tail)) f

  -- kind, address and the rest, one after the other
  pub put_some : AreBytes a → word ≢ 0 → {k : ℕ} → k ≡ Kind → {c d e rest : List ℕ} {p q r : ℕ} → Wrote b at (k ∷ []) p c
      → Wrote c p (filled M a) q d → rest ≡ Tail → Wrote d q rest r e → Wrote b at (bytes_word bits a feed word) r e
  put_some ok n ek w x et y = rw (word_bytes ok n, ← ek, ← et) (wrote_two w (wrote_two x y))

-- ---- put_feeds and put_slot

-- the records of the feeds from f on are that of f, then those from the next on
feeds_more : (bits : ℕ) (a : List ℕ) (g : ℕ → ℕ) (f n : ℕ)
    → bytes_feeds bits a g f (suc n) ≡ bytes_word bits a f (g f) ++ bytes_feeds bits a g (suc f) n
unfolding bytes_feeds bytes_word of_feeds
feeds_more bits a g f n =
    let v = prefix_of a bits in
    let l = 8 * length a - bits in
    bytes-append (family_of a) (listed (meant bits v l f (g f))) (of_feeds g bits v l (suc f) n)

feeds_done : (bits : ℕ) (a : List ℕ) (g : ℕ → ℕ) (f : ℕ) → bytes_feeds bits a g f 0 ≡ []
unfolding bytes_feeds of_feeds bytes_of
feeds_done bits a g f = refl

-- before the turn of the feed f, with the place p in the buffer c: what is written from there on makes the whole
pub record Left (ws : List ℕ) (slot : ℕ) (a : List ℕ) (bits : ℕ) (b : List ℕ) (at : ℕ) (c : List ℕ) (p f : ℕ) : Type 0 where
  pub some : 1 ≤ f
  pub most : f ≤ 5
  pub long : length c ≡ length b
  pub room : p + length (bytes_feeds bits a (words_at ws slot) f (5 - f)) ≤ length b
  pub whole : (q : ℕ) (e : List ℕ) → Wrote c p (bytes_feeds bits a (words_at ws slot) f (5 - f)) q e
      → Wrote b at (bytes_own bits a (words_at ws slot)) q e

module _ {ws : List ℕ} {slot : ℕ} {a : List ℕ} {bits : ℕ} {b : List ℕ} {at : ℕ} (s : PutsSlot ws slot a bits b at) where
  abbrev g : ℕ → ℕ
  g = words_at ws slot

  module _ {c : List ℕ} {p f : ℕ} (l : Left ws slot a bits b at c p f) where
    pub left_done : 4 < f → Wrote b at (bytes_own bits a g) p c
    left_done h =
        let e : 5 - f ≡ 0 = omega (arith, l.most) in
        l.whole p c (rw (e, feeds_done bits a g f) (wrote_none c p))

    module _ (h : f < 5) where
      next : bytes_feeds bits a g f (5 - f) ≡ bytes_word bits a f (g f) ++ bytes_feeds bits a g (f + 1) (5 - (f + 1))
      next =
          let e : 5 - f ≡ suc (5 - (f + 1)) = omega arith in
          let n : f + 1 ≡ suc f = omega arith in
          rw (e, n) (feeds_more bits a g f (5 - suc f))

      pub ask-word : (w : ℕ) → w ≡ g f → Puts f w a bits c p
      ask-word w e = record {
        family = s.family;
        leads = s.leads;
        room = rw e (omega (
          arith,
          l.room,
          l.long,
          ap length next,
          length-append (bytes_word bits a f (g f)) (bytes_feeds bits a g (f + 1) (5 - (f + 1))),
        ));
      }

      pub left-turn : (w : ℕ) → w ≡ g f → (q : ℕ) (d : List ℕ) → length d ≡ length c → Wrote c p (bytes_word bits a f w) q d
          → Left ws slot a bits b at d q (f + 1)
      left-turn w e q d k t =
          let u : Wrote c p (bytes_word bits a f (g f)) q d = rw (← e) t in
          record {
            some = omega arith;
            most = omega arith;
            long = k ∙ l.long;
            room = omega (
              arith,
              l.room,
              u.place,
              ap length next,
              length-append (bytes_word bits a f (g f)) (bytes_feeds bits a g (f + 1) (5 - (f + 1))),
            );
            whole = λ r i z. l.whole r i (rw next (wrote_two u z));
          }

  pub slot_free : true ≡ free_slot_b g → Wrote b at (bytes_own bits a g) at b
  unfolding bytes_feeds bytes_of
  slot_free e =
      rw (slot_none g ((free_slot_reflects g).to (sym e)) bits (prefix_of a bits) (8 * length a - bits)) (wrote_none b at)
