-- What storing a feed's word in a slot promises. Assumes nothing.
use Rattle.std.specs.Prelude.{◌≡◌, List, ℕ, ◌+◌, ◌≤◌, length}
use Rattle.std.proofs.Common.{ap, ◌∙◌}
use Rattle.sizes.specs.Sizes.{slot_words}
use Rattle.slots.specs.Word.{IsFeed, hop_in}
use Rattle.slots.specs.Winner.{winner_of, won_hop, winner_same}
use Rattle.slots.specs.Slot.{with_word}
use Rattle.slots.specs.Page.{words_at, page_with, set_words}
use Rattle.slots.specs.declared.slot.Hops.{Hops}

-- of the page ws, now vs, whose slot at i had feed f's word set to w
pub record HasStored (ws vs : List ℕ) (i f w : ℕ) (r : Hops) : Type 0 where
  pub page : vs ≡ page_with ws i f w
  pub before : r.before ≡ won_hop (words_at ws i)
  pub after : r.after ≡ won_hop (with_word (words_at ws i) f w)

-- the hop that is read after the store
pub after_stored : (ws vs : List ℕ) (i f w : ℕ) → i + slot_words ≤ length ws → IsFeed f → vs ≡ page_with ws i f w
    → won_hop (words_at vs i) ≡ won_hop (with_word (words_at ws i) f w)
after_stored ws vs i f w h p e =
    ap hop_in (ap (λ (us : List ℕ). winner_of (words_at us i)) e
    ∙ winner_same (words_at (page_with ws i f w) i) (with_word (words_at ws i) f w) (set_words ws i f w h p))
