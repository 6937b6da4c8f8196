-- What the two calls in place promise.
use Rattle.std.specs.Prelude.{◌≡◌, List, ℕ, Result}
use Rattle.stage.specs.declared.Settings.{Settings}
use Rattle.stage.specs.declared.Estimated.{Estimated}
use Rattle.stage.specs.declared.Refusal.{Refusal}
use Rattle.stage.specs.Answers.{outcome_of}
use Rattle.stage.specs.Search.{Scratch, Lent, estimate_in_place, search_in_place}

-- Lent m, the call answers r and leaves l. The picture's planes are m's trial planes.
abbrev pub EstimateGives : Settings → List ℕ → Scratch → Result Estimated Refusal → Scratch → Type 0
EstimateGives s φ m r l = outcome_of r l ≡ estimate_in_place s φ m

abbrev pub SearchGives : Settings → ℕ → Lent → Result Estimated Refusal → Lent → Type 0
SearchGives s rounds m r l = outcome_of r l ≡ search_in_place s rounds m
