-- The searches of the cases, computed.
use mathlib.Core.Path.{◌≡◌, refl, ap, ap₂, ◌∙◌}
use mathlib.Core.List.{◌∷◌}
use Prim.Native.Nat.{ℕ}
use lib.Ieee.{size}
use lib.ListN.{length}
use Rattle.integers.specs.Lists.{all_within}
use Rattle.stage.specs.Answers.{Outcome}
use Rattle.stage.specs.Settings.{Settings}
use Rattle.stage.specs.Planes.{Planes}
use Rattle.stage.specs.Filter.{filtered, mean}
use Rattle.stage.specs.Transform.{lengths, transformed}
use Rattle.stage.specs.Logarithm.{L}
use Rattle.stage.specs.Estimate.{med, prediction, residual, counted, counted_index, occurrences, histogram, total, log_sum, estimate_of_counts, plane_estimate, picture_estimate}
use Rattle.stage.specs.Search.{Estimated, Lent, choices_estimate, counters_fit, scratch_fits, cleared_scratch, cleared_counters, search_call, search_in_place}
use Rattle.stage.specs.Case.{search}
use Rattle.stage.specs.SearchCases.{search_cases, in_place_search_cases, SearchCasesHold}
use Rattle.stage.proofs.SharedSearch.{leader, shared_round, shared_rounds, shared_with, same_search}

module _ (s : Settings) (r : ℕ) (m : Lent) (o : Outcome Estimated Lent) where
  searches : (p : Planes) → (let l = m.scratch in shared_with s p (scratch_fits s (lengths l.trials) (length l.counters)) (cleared_scratch l) r m) ≡ o
      → search (search_call s p r m) ≡ search o
  unfolding search_call
  searches p e = ap search (same_search s p _ _ r m ∙ e)

  searches_in_place : (let l = m.scratch in shared_with s l.trials (counters_fit s (length l.counters)) (cleared_counters l) r m) ≡ o
      → search (search_in_place s r m) ≡ search o
  unfolding search_in_place
  searches_in_place e = ap search (same_search s _ _ _ r m ∙ e)

pub search_cases_hold : SearchCasesHold
unfolding search_cases in_place_search_cases transformed filtered mean all_within med prediction residual counted counted_index occurrences histogram L size total log_sum estimate_of_counts plane_estimate picture_estimate choices_estimate leader shared_round shared_rounds shared_with
search_cases_hold = (
  ap₂ ◌∷◌ (searches _ _ _ _ _ refl)
      (ap₂ ◌∷◌ (searches _ _ _ _ _ refl) (ap₂ ◌∷◌ (searches _ _ _ _ _ refl) (ap₂ ◌∷◌ (searches _ _ _ _ _ refl) refl))),
  ap₂ ◌∷◌ (searches_in_place _ _ _ _ refl) (ap₂ ◌∷◌ (searches_in_place _ _ _ _ refl) refl),
)
