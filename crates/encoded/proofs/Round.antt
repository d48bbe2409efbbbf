-- Candidates written out and fed to a cleared table of the same room give that list again. Assumes nothing.
use Rattle.std.specs.Prelude.{◌≡◌, refl, true, false, List, [], ◌∷◌, ◌++◌, ℕ, suc, ◌+◌, ◌-◌, ◌*◌, ◌/◌, ◌≤◌, ◌<◌, length}
use Rattle.std.proofs.Common.{sym, ap, ◌∙◌, append_assoc, append-nil, mul-suc, arith, length-append, le-ltb, ne_eqb}
use Rattle.std.proofs.lemmas.Bool.{false≢true}
use Rattle.routes.specs.Family.{Family, v4, v6, levels, width, announcing_for, kind_of}
use Rattle.routes.specs.Route.{route}
use Rattle.routes.specs.Room.{need}
use Rattle.routes.specs.Answers.{Reply, done, found, none, refused, is_done, is_refused, count}
use Rattle.routes.specs.Bytes.{replies_bytes}
use Rattle.laws.specs.Families.{width_low}
use Rattle.laws.specs.Room.{heads_first, need_le}
use Rattle.candidates.specs.Keyed.{Ordered, put, Every}
use Rattle.candidates.specs.Candidate.{Candidate, key, IsCandidate, IsList}
use Rattle.candidates.specs.Winners.{winners, prefixes}
use Rattle.candidates.specs.Answers.{Update, announce, sound, answer, after, replies, leaves}
use Rattle.candidates.specs.Bytes.{Sent, announces_for, meanings, sent_bytes, all_bytes, AllFit, announced, written}
use Rattle.candidates.specs.Runs.{run}
use Rattle.candidates.specs.Seen.{bytes_for}
use Rattle.rivals.specs.Maps.{every_map}
use Rattle.rivals.specs.Append.{Inside, inside_le, inside_weaken, inside-append}
use Rattle.rivals.specs.Won.{Good, is_good}
use Rattle.rivals.specs.Need.{need-prefixes}
use Rattle.rivals.specs.Updates.{faulty-sound, plain_done, answer-plain}
use Rattle.encoded.specs.Encoded.{size_back}
use Rattle.encoded.proofs.Encoded.{run-ended}
use Rattle.encoded.specs.Round.{Loaded, load, as_many, fit, bytes_long}

module _ (W : ℕ) (w : W < 256) (A : ℕ) where
  pub loaded : (cs : List Candidate) → IsList W cs → need W (winners cs) ≤ A → (Loaded W w A) [] cs
  loaded cs l h =
      (load W w A) 0 [] cs (omega arith) l.sorted l.candidates (every_map (IsCandidate W) Good (is_good W w) cs l.candidates) h

module _ (F : Family) where
  -- candidates written out and fed, with reply room enough, to a cleared table of the same room give that list again
  pub round_trip : (A : ℕ) (cs : List Candidate) (room : ℕ) → IsList (width F) cs → need (width F) (winners cs) ≤ A
      → 5 * length cs ≤ room
      → run F A [] (written F cs) room ≡ record {
        stop = 0;
        end = record {
          list = cs;
          consumed = bytes_for F (length cs);
          replies = replies_bytes (replies (width F) A [] (meanings (announced cs)));
          accepted = length cs;
          refused = 0;
        };
      }
  round_trip A cs room l h g =
      run-ended F A [] (announced cs) [] room ((fit F) cs l.candidates) (rw (as_many cs) g)
      ∙ (λ i. record {
        stop = 0;
        end = record {
          list = q.list i;
          consumed = c i;
          replies = replies_bytes (replies (width F) A [] (meanings (announced cs)));
          accepted = a i;
          refused = b i;
        };
      })
    where
      q : Loaded (width F) (width_low F) A [] cs
      q = loaded (width F) (width_low F) A cs l h

      c : 0 + length (all_bytes F (announced cs)) + 1 ≡ bytes_for F (length cs)
      c = omega (arith, (bytes_long F) cs)

      a : 0 + count is_done (replies (width F) A [] (meanings (announced cs))) ≡ length cs
      a = omega (arith, q.accepted)

      b : 0 + count is_refused (replies (width F) A [] (meanings (announced cs))) ≡ 0
      b = omega (arith, q.refused)
