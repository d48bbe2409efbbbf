-- The faults of an update itself, each told after those that stand before it in document 01, and what an update without a fault
-- is. Assumes nothing.
use Rattle.std.specs.Prelude.{◌≡◌, ◌≢◌, false, cond, ℕ, ◌-◌, ◌*◌, ◌%◌, ◌^◌, ◌≤◌, ◌<◌, eqb}
use Rattle.std.proofs.Common.{true≢false, sym, ap, ◌∙◌, arith}
use Rattle.logic.specs.Cases.{bool, less, same}
use Rattle.sizes.specs.Sizes.{hop_bound}
use Rattle.routes.specs.Route.{too_long, stray, bad_hop}
use Rattle.routes.specs.Answers.{Reply, refused}
use Rattle.candidates.specs.Candidate.{bad_feed}
use Rattle.candidates.specs.Answers.{Update, announce, withdraw, faulty}
use Rattle.slots.specs.Word.{IsFeed}
use Rattle.address.specs.Address.{IsPrefix, prefix_fault}
use Rattle.refusals.specs.Number.{number, number_back, refusal_of}
use Rattle.refusals.specs.declared.Refusal.{Refusal}
use Rattle.refusals.specs.declared.Refusal.TheVariants.{Misfit}

-- the number of the first fault of an update itself, 0 where it has none
abbrev pub fault_of : ℕ → Update → ℕ
fault_of W (announce a l h f p) = cond (too_long W l) 3 (cond (stray W a l) 4 (cond (bad_hop h) 5 (cond (bad_feed f) 10 0)))
fault_of W (withdraw a l f) = cond (too_long W l) 3 (cond (stray W a l) 4 (cond (bad_feed f) 10 0))

-- 0 is the number of no refusal
pub number_some : (e : Refusal) → number e ≢ 0
number_some e z = let m : Misfit ≡ e = sym (ap refusal_of z) ∙ number_back e in absurd (omega (arith, ap number m, z))

-- 3, 4, 5, 10
pub faulty_by : (W : ℕ) (u : Update) (r : Reply) → faulty W u r ≡ cond (eqb (fault_of W u) 0) r (refused (fault_of W u))
faulty_by W (announce a l h f p) r =
    bool (too_long W l) (λ e. rw e)
    (λ e. rw e (bool (stray W a l) (λ y. rw y)
    (λ y. rw y (bool (bad_hop h) (λ g. rw g) (λ g. rw g (bool (bad_feed f) (λ z. rw z) (λ z. rw z)))))))
faulty_by W (withdraw a l f) r =
    bool (too_long W l) (λ e. rw e)
    (λ e. rw e (bool (stray W a l) (λ y. rw y) (λ y. rw y (bool (bad_feed f) (λ z. rw z) (λ z. rw z)))))

-- ---- the fault of a hop, of a feed, 0 where it has none

abbrev pub hop_fault : ℕ → ℕ
hop_fault h = cond (bad_hop h) 5 0

abbrev pub feed_fault : ℕ → ℕ
feed_fault f = cond (bad_feed f) 10 0

-- of an announcement: the prefix first, then the hop, then the feed
module _ (W a l h f p n : ℕ) where
  pub announce_prefix : n ≡ prefix_fault W a l → n ≢ 0 → n ≡ fault_of W (announce a l h f p)
  announce_prefix e z =
      bool (too_long W l) (λ t. rw t (rw t at e))
      (λ t. bool (stray W a l) (λ y. rw (t, y) (rw (t, y) at e)) (λ y. absurd (z (rw (t, y) at e))))

  past_prefix : prefix_fault W a l ≡ 0 → n ≡ cond (bad_hop h) 5 (feed_fault f) → n ≡ fault_of W (announce a l h f p)
  past_prefix e q =
      bool (too_long W l) (λ t. absurd (omega (arith, rw t at e)))
      (λ t. bool (stray W a l) (λ y. absurd (omega (arith, rw (t, y) at e))) (λ y. rw (t, y) q))

  pub announce_hop : prefix_fault W a l ≡ 0 → n ≡ hop_fault h → n ≢ 0 → n ≡ fault_of W (announce a l h f p)
  announce_hop e q z = past_prefix e (bool (bad_hop h) (λ t. rw t (rw t at q)) (λ t. absurd (z (rw t at q))))

  pub announce_feed : prefix_fault W a l ≡ 0 → hop_fault h ≡ 0 → n ≡ feed_fault f → n ≡ fault_of W (announce a l h f p)
  announce_feed e y q = past_prefix e (bool (bad_hop h) (λ t. absurd (omega (arith, rw t at y))) (λ t. rw t q))

-- of a withdrawal: the prefix first, then the feed
module _ (W a l f n : ℕ) where
  pub withdraw_prefix : n ≡ prefix_fault W a l → n ≢ 0 → n ≡ fault_of W (withdraw a l f)
  withdraw_prefix e z =
      bool (too_long W l) (λ t. rw t (rw t at e))
      (λ t. bool (stray W a l) (λ y. rw (t, y) (rw (t, y) at e)) (λ y. absurd (z (rw (t, y) at e))))

  pub withdraw_feed : prefix_fault W a l ≡ 0 → n ≡ feed_fault f → n ≡ fault_of W (withdraw a l f)
  withdraw_feed e q =
      bool (too_long W l) (λ t. absurd (omega (arith, rw t at e)))
      (λ t. bool (stray W a l) (λ y. absurd (omega (arith, rw (t, y) at e))) (λ y. rw (t, y) q))

-- ---- no fault, and what that says

hop_good : (h : ℕ) → bad_hop h ≡ false → (1 ≤ h) × (h < hop_bound)
hop_good h e =
    same h 0 (λ _ t. absurd (true≢false (rw t at e)))
    (λ n t. less 65535 h (λ _ g. absurd (true≢false (rw (t, g) at e))) (λ w _. (omega arith, omega arith)))

feed_good : (f : ℕ) → bad_feed f ≡ false → IsFeed f
feed_good f e =
    same f 0 (λ _ t. absurd (true≢false (rw t at e)))
    (λ n t. less 4 f (λ _ g. absurd (true≢false (rw (t, g) at e))) (λ w _. record { low = omega arith; high = omega arith }))

-- of an announcement
pub record SoundRoute (L a l h f : ℕ) : Type 0 where
  pub prefix : IsPrefix L a l
  pub low : 1 ≤ h
  pub high : h < hop_bound
  pub feed : IsFeed f

pub sound-route : (L a l h f p : ℕ) → fault_of (8 * L) (announce a l h f p) ≡ 0 → SoundRoute L a l h f
sound-route L a l h f p e =
    less (8 * L) l (λ _ t. absurd (omega (arith, rw t at e)))
    (λ w t. same (a % 2 ^ (8 * L - l)) 0
    (λ q y. bool (bad_hop h) (λ g. absurd (omega (arith, rw (t, y, g) at e)))
    (λ g. bool (bad_feed f) (λ z. absurd (omega (arith, rw (t, y, g, z) at e)))
    (λ z. (let b = hop_good h g in
    record { prefix = record { fits = w; clean = q }; low = b.0; high = b.1; feed = feed_good f z }))))
    (λ _ y. absurd (omega (arith, rw (t, y) at e))))

-- of a withdrawal
pub sound-prefix : (L a l f : ℕ) → fault_of (8 * L) (withdraw a l f) ≡ 0 → IsPrefix L a l × IsFeed f
sound-prefix L a l f e =
    less (8 * L) l (λ _ t. absurd (omega (arith, rw t at e)))
    (λ h t. same (a % 2 ^ (8 * L - l)) 0
    (λ q y. bool (bad_feed f) (λ z. absurd (omega (arith, rw (t, y, z) at e)))
    (λ z. (record { fits = h; clean = q }, feed_good f z)))
    (λ _ y. absurd (omega (arith, rw (t, y) at e))))
