-- The winners after an update are settled at its prefix. Assumes nothing.
use Rattle.std.specs.Prelude.{◌≡◌, List, ℕ, ◌+◌, ◌*◌, ◌<◌}
use Rattle.std.proofs.Common.{ap}
use Rattle.candidates.specs.Keyed.{put, cut, Every}
use Rattle.candidates.specs.Candidate.{Candidate, prefix_key, place, key, hop_of}
use Rattle.candidates.specs.Winners.{winning, winners}
use Rattle.rivals.specs.Maps.{every_put, every_cut}
use Rattle.rivals.specs.Won.{Good, put-best, cut_best, settle, winners-settle}

module _ (c : Candidate) (cs : List Candidate) (g : Good c) (p : Every Good cs) where
  pub winners-settled : winners (put key c cs) ≡ settle c.addr c.len (winning (put key c cs) (prefix_key c)) (winners cs)
  winners-settled =
      winners-settle cs (put key c cs) c.addr c.len g.short p (every_put key Good c cs g p)
      (λ k n. ap hop_of (put-best c cs k g p n))

-- a candidate cut: its prefix's route is removed, or replaced by the one that wins then
pub winners_cut : (a l f : ℕ) (cs : List Candidate) → f < 8 → l < 256 → Every Good cs
    → winners (cut key (place a l f) cs) ≡ settle a l (winning (cut key (place a l f) cs) (a * 256 + l)) (winners cs)
winners_cut a l f cs h s p =
    winners-settle cs (cut key (place a l f) cs) a l s p (every_cut key Good (place a l f) cs p)
    (λ k n. ap hop_of (cut_best a l f cs k h p n))
