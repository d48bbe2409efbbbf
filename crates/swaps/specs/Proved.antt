-- The three moves, proved: an update's answer hangs on its own candidate and on room, and room is a matter of heads, which a
-- withdrawal only takes away and two announcements add in either order. Assumes nothing.
use Rattle.std.specs.Prelude.{◌≡◌, refl, ◌≢◌, Bool, true, false, cond, List, ℕ, ◌-◌, ◌/◌, ◌≤◌, ◌<◌}
use Rattle.std.proofs.Common.{sym, ap, ap₂, ◌∙◌, arith}
use Rattle.std.proofs.Math.Option.{Option}
use Rattle.routes.specs.Route.{route}
use Rattle.routes.specs.Room.{mem, heads, need}
use Rattle.routes.specs.Answers.{is_done}
use Rattle.logic.specs.Cases.{bool, same}
use Rattle.logic.specs.Bools.{or_left, or_right, or_case}
use Rattle.laws.specs.Room.{has_head, HeadsWithin, need_le}
use Rattle.candidates.specs.Keyed.{Ordered, find, put, Every}
use Rattle.candidates.specs.Candidate.{Candidate, candidate, place, key, hop_of}
use Rattle.candidates.specs.Winners.{winners}
use Rattle.candidates.specs.Answers.{Update, announce, withdraw, sound, target, answer, after, plain, replies}
use Rattle.rivals.specs.Maps.{ext, every_put}
use Rattle.rivals.specs.Won.{Good, are_good}
use Rattle.rivals.specs.Need.{heads-put, heads_cut}
use Rattle.rivals.specs.Updates.{at, newly, same_done, done_sound, sound-target, sound_good, after_other, after_same}
use Rattle.rivals.specs.Updates.{after_ordered, after_good, unsound_after, unsound_answer, unsound_plain, plainly}
use Rattle.rivals.specs.Updates.{Roomy, answer-plain}
use Rattle.rivals.proofs.Updates.{after-fits, done_room}
use Rattle.swaps.specs.Moves.{Table, Swapped}

-- fields of a record apart
same_target : (c d : Candidate) → c.addr ≡ d.addr → c.len ≡ d.len → c.feed ≡ d.feed → c.pref ≡ d.pref → c.hop ≡ d.hop
    → c ≡ d
same_target c d a l f p h = λ i. record { addr = a i; len = l i; feed = f i; pref = p i; hop = h i }

bare : (u : Update) → ((target u).pref ≡ 0) × ((target u).hop ≡ 0)
bare (announce a l h f p) = (refl, refl)
bare (withdraw a l f) = (refl, refl)

module _ (W : ℕ) (w : W < 256) (A : ℕ) where
  -- a list that updates may have left on a table
  pub record Holds (cs : List Candidate) : Type 0 where
    pub ordered : Ordered key 0 cs
    pub good : Every Good cs
    pub fits : need W (winners cs) ≤ A

  pub table_holds : (cs : List Candidate) → Table W A cs → Holds cs
  table_holds cs t = record { ordered = t.list.sorted; good = are_good W w cs t.list; fits = t.fits }

  pub after_holds : (cs : List Candidate) (u : Update) → Holds cs → Holds (after W A cs u)
  after_holds cs u t =
      record {
        ordered = after_ordered W A cs u t.ordered;
        good = after_good W w A cs u t.good;
        fits = after-fits W w A cs u t.good t.fits;
      }

  -- different candidates have different keys
  different : (u v : Update) → target u ≢ target v → sound W u ≡ true → sound W v ≡ true → at u ≢ at v
  different u v n p q e =
      let x = sound-target W u p in
      let y = sound-target W v q in
      n (same_target (target u) (target v) (omega arith) (omega arith) (omega arith)
      ((bare u).0 ∙ sym (bare v).0)
      ((bare u).1 ∙ sym (bare v).1))

  -- ---- if each is accepted or not as in the other order, the lists agree

  module _ (cs : List Candidate) (u v : Update) (t : Holds cs) (n : target u ≢ target v)
      (du : is_done (answer W A cs u) ≡ is_done (answer W A (after W A cs v) u))
      (dv : is_done (answer W A (after W A cs u) v) ≡ is_done (answer W A cs v)) where
    both-sound : sound W u ≡ true → sound W v ≡ true → after W A (after W A cs u) v ≡ after W A (after W A cs v) u
    both-sound p q =
        ext key 0 (after W A (after W A cs u) v) (after W A (after W A cs v) u)
        (after_holds (after W A cs u) v tu).ordered (after_holds (after W A cs v) u tv).ordered
        (λ k. same (at u) k
        (λ e _. rw (← e)
        (after_other W A (after W A cs u) v (at u) (λ z. m (sym z)) ∙ after_same W A cs u t.ordered
        ∙ ap₂ (λ (b : Bool) (x : Option Candidate). cond b (newly u) x) du (sym (after_other W A cs v (at u) (λ z. m (sym z))))
        ∙ sym (after_same W A (after W A cs v) u tv.ordered)))
        (λ i _. same (at v) k
        (λ e _. rw (← e)
        (after_same W A (after W A cs u) v tu.ordered
        ∙ ap₂ (λ (b : Bool) (x : Option Candidate). cond b (newly v) x) dv (after_other W A cs u (at v) m)
        ∙ sym (after_same W A cs v t.ordered) ∙ sym (after_other W A (after W A cs v) u (at v) m)))
        (λ o _.
        after_other W A (after W A cs u) v k o
        ∙ after_other W A cs u k i
        ∙ sym (after_other W A (after W A cs v) u k i ∙ after_other W A cs v k o))))
      where
        m : at u ≢ at v
        m = different u v n p q

        tu : Holds (after W A cs u)
        tu = after_holds cs u t

        tv : Holds (after W A cs v)
        tv = after_holds cs v t

    swap_list : after W A (after W A cs u) v ≡ after W A (after W A cs v) u
    swap_list =
        bool (sound W u)
        (λ p. bool (sound W v)
        (λ q. both-sound p q)
        (λ q.
        unsound_after W A (after W A cs u) v q
        ∙ ap (λ (ds : List Candidate). after W A ds u) (sym (unsound_after W A cs v q))))
        (λ p.
        ap (λ (ds : List Candidate). after W A ds v) (unsound_after W A cs u p)
        ∙ sym (unsound_after W A (after W A cs v) u p))

  swapped : (cs : List Candidate) (u v : Update) → Holds cs → target u ≢ target v
      → plain (answer W A cs u) ≡ plain (answer W A (after W A cs v) u)
      → plain (answer W A (after W A cs u) v) ≡ plain (answer W A cs v) → Swapped W A cs u v
  swapped cs u v t n p q =
      record {
        one = p;
        other = q;
        one_done = du;
        other_done = dv;
        list = l;
        later = λ xs. ap (λ (ds : List Candidate). replies W A ds xs) l;
      }
    where
      du : is_done (answer W A cs u) ≡ is_done (answer W A (after W A cs v) u)
      du = same_done (answer W A cs u) (answer W A (after W A cs v) u) p

      dv : is_done (answer W A (after W A cs u) v) ≡ is_done (answer W A cs v)
      dv = same_done (answer W A (after W A cs u) v) (answer W A cs v) q

      l : after W A (after W A cs u) v ≡ after W A (after W A cs v) u
      l = swap_list cs u v t n du dv

  -- ---- where there is room on both lists, an update is answered alike before and after another one

  alike : (cs : List Candidate) (u v : Update) → Holds cs → target v ≢ target u → Roomy W A cs u → Roomy W A (after W A cs v) u
      → plain (answer W A cs u) ≡ plain (answer W A (after W A cs v) u)
  alike cs u v t n r s =
      answer-plain W w A cs u t.good r
      ∙ bool (sound W u)
      (λ p. ap (λ (x : Option Candidate). plainly W (hop_of x) u) (sym (unmoved p)))
      (λ p. unsound_plain W _ _ u p)
      ∙ sym (answer-plain W w A (after W A cs v) u (after_holds cs v t).good s)
    where
      unmoved : sound W u ≡ true → find key (after W A cs v) (at u) ≡ find key cs (at u)
      unmoved p =
          bool (sound W v)
          (λ q. after_other W A cs v (at u) (different v u n q p))
          (λ q. ap (λ (ds : List Candidate). find key ds (at u)) (unsound_after W A cs v q))

  -- two withdrawals swap freely
  pub swap_withdrawals : (cs : List Candidate) (a l f b m g : ℕ) → Holds cs → target (withdraw a l f) ≢ target (withdraw b m g)
      → Swapped W A cs (withdraw a l f) (withdraw b m g)
  swap_withdrawals cs a l f b m g t n =
      swapped cs (withdraw a l f) (withdraw b m g) t n
      (alike cs (withdraw a l f) (withdraw b m g) t (λ z. n (sym z)) tt tt)
      (sym (alike cs (withdraw b m g) (withdraw a l f) t n tt tt))

  -- ---- heads

  within_put : (c : Candidate) (cs ds : List Candidate) → Good c → Every Good cs → Every Good ds
      → HeadsWithin W (winners cs) (winners ds) → HeadsWithin W (winners (put key c cs)) (winners (put key c ds))
  within_put c cs ds g p q u n z e =
      heads-put W n z c cs g p
      ∙ or_case (has_head W n z (route c.addr c.len 0)) (mem z (heads W n (winners ds))) (sym (heads-put W n z c ds g q) ∙ e)
      (λ t. or_left (has_head W n z (route c.addr c.len 0)) (mem z (heads W n (winners cs))) t)
      (λ t. or_right (has_head W n z (route c.addr c.len 0)) (mem z (heads W n (winners cs))) (u n z t))

  within_more : (c : Candidate) (cs : List Candidate) → Good c → Every Good cs
      → HeadsWithin W (winners (put key c cs)) (winners cs)
  within_more c cs g p n z e =
      heads-put W n z c cs g p ∙ or_right (has_head W n z (route c.addr c.len 0)) (mem z (heads W n (winners cs))) e

  -- the order of two makes no difference
  within_cross : (c d : Candidate) (cs : List Candidate) → Good c → Good d → Every Good cs
      → HeadsWithin W (winners (put key d (put key c cs))) (winners (put key c (put key d cs)))
  within_cross c d cs g h p n z e =
      or_case (has_head W n z (route c.addr c.len 0)) (mem z (heads W n (winners (put key d cs))))
      (sym (heads-put W n z c (put key d cs) g (every_put key Good d cs h p)) ∙ e)
      (λ t. within_more d (put key c cs) h (every_put key Good c cs g p) n z
      (heads-put W n z c cs g p ∙ or_left (has_head W n z (route c.addr c.len 0)) (mem z (heads W n (winners cs))) t))
      (λ t. within_put d (put key c cs) cs h (every_put key Good c cs g p) p (within_more c cs g p) n z t)

  less : (cs ds : List Candidate) → HeadsWithin W (winners cs) (winners ds) → need W (winners cs) ≤ A → need W (winners ds) ≤ A
  less cs ds u h = let i = need_le W (winners cs) (winners ds) u (W / 8 - 1) in omega arith

  -- an announcement for which there is room and a withdrawal
  pub swap_with_room : (cs : List Candidate) (a l h f p b m g : ℕ) → Holds cs
      → target (announce a l h f p) ≢ target (withdraw b m g) → Roomy W A cs (announce a l h f p)
      → Swapped W A cs (announce a l h f p) (withdraw b m g)
  swap_with_room cs a l h f p b m g t n room =
      swapped cs (announce a l h f p) (withdraw b m g) t n
      (alike cs (announce a l h f p) (withdraw b m g) t (λ z. n (sym z)) room
      (λ s. less (put key c cs) (put key c ds) (fewer s) (room s)))
      (sym (alike cs (withdraw b m g) (announce a l h f p) t n tt tt))
    where
      c : Candidate
      c = candidate a l f p h

      ds : List Candidate
      ds = after W A cs (withdraw b m g)

      fewer : sound W (announce a l h f p) ≡ true
          → HeadsWithin W (winners (put key (candidate a l f p h) cs))
          (winners (put key (candidate a l f p h) (after W A cs (withdraw b m g))))
      fewer s =
          within_put c cs ds (sound_good W w a l h f p s) t.good (after_holds cs (withdraw b m g) t).good
          (bool (is_done (answer W A cs (withdraw b m g)))
          (λ e. rw e (heads_cut W (place b m g) cs t.good))
          (λ e. rw e (λ n z q. q)))

  -- a withdrawal moved ahead of an accepted announcement leaves it accepted
  pub swap_ahead : (cs : List Candidate) (a l h f p b m g : ℕ) → Holds cs → target (announce a l h f p) ≢ target (withdraw b m g)
      → is_done (answer W A cs (announce a l h f p)) ≡ true → Swapped W A cs (announce a l h f p) (withdraw b m g)
  swap_ahead cs a l h f p b m g t n d =
      swap_with_room cs a l h f p b m g t n (λ s. done_room W w A cs a l h f p t.good t.fits d)

  -- two announcements both accepted in one order are both accepted in the other
  pub swap_announcements : (cs : List Candidate) (a l h f p b m i g q : ℕ) → Holds cs
      → target (announce a l h f p) ≢ target (announce b m i g q)
      → is_done (answer W A cs (announce a l h f p)) ≡ true
      → is_done (answer W A (after W A cs (announce a l h f p)) (announce b m i g q)) ≡ true
      → Swapped W A cs (announce a l h f p) (announce b m i g q)
  swap_announcements cs a l h f p b m i g q t n d e =
      swapped cs (announce a l h f p) (announce b m i g q) t n
      (alike cs (announce a l h f p) (announce b m i g q) t (λ z. n (sym z))
      (λ s. done_room W w A cs a l h f p t.good t.fits d) (λ s. rw es crossed))
      (sym later)
    where
      x : Candidate
      x = candidate a l f p h

      y : Candidate
      y = candidate b m g q i

      gx : Good (candidate a l f p h)
      gx = sound_good W w a l h f p (done_sound W A cs (announce a l h f p) d)

      gy : Good (candidate b m g q i)
      gy = sound_good W w b m i g q (done_sound W A (after W A cs (announce a l h f p)) (announce b m i g q) e)

      ex : after W A cs (announce a l h f p) ≡ put key (candidate a l f p h) cs
      ex = rw d

      tx : Holds (after W A cs (announce a l h f p))
      tx = after_holds cs (announce a l h f p) t

      px : Every Good (put key (candidate a l f p h) cs)
      px = every_put key Good x cs gx t.good

      both : need W (winners (put key (candidate b m g q i) (put key (candidate a l f p h) cs))) ≤ A
      both = rw ex at (done_room W w A (after W A cs (announce a l h f p)) b m i g q tx.good tx.fits e)

      alone : need W (winners (put key (candidate b m g q i) cs)) ≤ A
      alone =
          less (put key y (put key x cs)) (put key y cs)
          (within_put y (put key x cs) cs gy px t.good (within_more x cs gx t.good)) both

      later : plain (answer W A cs (announce b m i g q))
          ≡ plain (answer W A (after W A cs (announce a l h f p)) (announce b m i g q))
      later = alike cs (announce b m i g q) (announce a l h f p) t n (λ s. alone) (λ s. rw ex both)

      es : after W A cs (announce b m i g q) ≡ put key (candidate b m g q i) cs
      es =
          rw (same_done (answer W A cs (announce b m i g q))
          (answer W A (after W A cs (announce a l h f p)) (announce b m i g q)) later ∙ e)

      crossed : need W (winners (put key (candidate a l f p h) (put key (candidate b m g q i) cs))) ≤ A
      crossed = less (put key y (put key x cs)) (put key x (put key y cs)) (within_cross x y cs gx gy t.good) both

  -- beside the three: an update that is malformed, or of a bad number, names no candidate and swaps with any
  pub swap_unsound : (cs : List Candidate) (u v : Update) → sound W u ≡ false → Swapped W A cs u v
  swap_unsound cs u v p =
      record {
        one = ap plain e;
        other = ap (λ (ds : List Candidate). plain (answer W A ds v)) (unsound_after W A cs u p);
        one_done = ap is_done e;
        other_done = ap (λ (ds : List Candidate). is_done (answer W A ds v)) (unsound_after W A cs u p);
        list = l;
        later = λ xs. ap (λ (ds : List Candidate). replies W A ds xs) l;
      }
    where
      e : answer W A cs u ≡ answer W A (after W A cs v) u
      e = unsound_answer W A cs (after W A cs v) u p

      l : after W A (after W A cs u) v ≡ after W A (after W A cs v) u
      l = ap (λ (ds : List Candidate). after W A ds v) (unsound_after W A cs u p) ∙ sym (unsound_after W A (after W A cs v) u p)
