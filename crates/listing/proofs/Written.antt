-- The bytes that hold a list are exactly those of a list written out, whatever room it needs: routes as records of kind 1, or
-- candidates as records of kind 4, of which they are the winners. Assumes nothing.
use Rattle.std.specs.Prelude.{◌≡◌, refl}
use Rattle.std.proofs.Common.{sym, ◌∙◌, ⊎_elim}
use Rattle.std.proofs.Math.Path.{ap}
use Rattle.std.proofs.Math.Bool.{true, false}
use mathlib.Core.List.{List, [], ◌∷◌}
use Prim.Native.Nat.{ℕ}
use Rattle.routes.specs.Family.{v4}
use Rattle.routes.specs.Route.{Route}
use Rattle.routes.specs.Route as routes
use Rattle.candidates.specs.Keyed.{Every}
use Rattle.candidates.specs.Candidate.{Candidate, IsList}
use Rattle.candidates.specs.Winners.{winners}
use Rattle.candidates.specs.Bytes.{written}
use Rattle.candidates.specs.Bytes.{written_plainly}
use Rattle.rivals.specs.Won.{winners_list}
use Rattle.listing.specs.Listed.{fours}
use Rattle.listing.specs.Listed.{candidates_in, listed, listed_in}
use Rattle.listing.specs.Records.{Bytes, whole_list}
use Rattle.listing.specs.Plain.{OfKind, plain, plain-kind, plain-routes, plain_list, winners-plain}
use Rattle.listing.specs.Written.{Ranked, WrittenOut, written_as, as_fours, as_ones, listed_as, listed_list, listed_whole}
use Rattle.listing.specs.Written.{out_bytes}

-- candidates written out are listed as their winners. Where there is none, the bytes are those of no route
pub written_listed : (cs : List Candidate) → IsList 32 cs → listed_in (written v4 cs) ≡ listed (winners cs)
written_listed [] l = listed_as false [] l tt refl
written_listed (c ∷ cs) l = ap listed_in (sym (as_fours (c ∷ cs))) ∙ listed_as true (c ∷ cs) l (all (c ∷ cs)) refl
  where
    all : (cs : List Candidate) → Every (OfKind true) cs
    all [] = tt
    all (c ∷ cs) = (tt, all cs)

-- and routes written out as themselves
pub written-plain : (rs : List Route) → routes.IsList 32 rs → listed_in (written_plainly rs) ≡ listed rs
written-plain rs l =
    let w : winners (plain rs) ≡ rs = winners-plain 0 (plain rs) (plain_list rs l).sorted (plain-kind rs) ∙ plain-routes rs in
    let b : written_as false (plain rs) ≡ written_plainly rs =
    as_ones (plain rs) ∙ ap written_plainly (plain-routes rs) in
    ap listed_in (sym b) ∙ listed_as false (plain rs) (plain_list rs l) (plain-kind rs) (kind rs) ∙ ap listed w
  where
    kind : (rs : List Route) → fours (written_as false (plain rs)) ≡ false
    kind [] = refl
    kind (r ∷ rs) = refl

pub out_listed : (bs : List ℕ) (rs : List Route) → WrittenOut bs rs → listed_in bs ≡ listed rs
out_listed bs rs w =
    ⊎_elim
    (λ (e : bs ≡ written_plainly rs). ap listed_in e ∙ written-plain rs w.list)
    (λ (r : Ranked bs rs).
    ap listed_in r.bytes ∙ written_listed r.candidates r.list ∙ ap listed (sym r.won))
    w.bytes

-- the same bytes are no other list's
pub written_one : (bs : List ℕ) (rs ss : List Route) → WrittenOut bs rs → WrittenOut bs ss → rs ≡ ss
written_one bs rs ss w x = let a = out_listed bs rs w in let b = out_listed bs ss x in cc

module _ (bs : List ℕ) (b : Bytes bs) where
  pub listed_out : (rs : List Route) → listed_in bs ≡ listed rs → WrittenOut bs rs
  listed_out rs e =
      let w = listed_whole bs rs e in
      let l = whole_list bs b w in
      rw (← (listed_list bs rs e)) (record {
        list = winners_list 32 (candidates_in bs) l;
        bytes = out_bytes bs b w l;
      })
