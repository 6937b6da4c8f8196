-- What the two calls test and what they promise.
use Rattle.std.specs.Prelude.{◌≡◌, List, [], ◌∷◌, ◌++◌, ℕ, Bool, Result}
use Rattle.stage.specs.declared.Settings.{Settings}
use Rattle.stage.specs.declared.Bands.TheVariants.{One}
use Rattle.stage.specs.declared.Estimated.{Estimated}
use Rattle.stage.specs.declared.Refusal.{Refusal}
use Rattle.stage.specs.Answers.{Test, ◌else◌, outcome_of}
use Rattle.stage.specs.Planes.{Planes}
use Rattle.stage.specs.Transform.{choices_fit, lengths, is_picture}
use Rattle.stage.specs.Search.{Scratch, Lent, scratch_tests, estimate_call, search_call}
use Rattle.stage.specs.Search as stage

-- what is lent to be written
abbrev pub scratch_of : Planes → List ℕ → Scratch
scratch_of t counters = record { trials = t; counters = counters }

abbrev pub lent : List ℕ → Planes → List ℕ → Lent
lent φ t counters = record { choices = φ; scratch = scratch_of t counters }

-- All tests of an estimate, and of a search that is lent n choices; `fits` says whether the scratch does.
abbrev pub estimate_tests : Settings → List ℕ → Planes → (fits : Bool) → List Test
estimate_tests s φ p fits = scratch_tests s (choices_fit One s φ) (lengths p) fits ++ (is_picture s p else 11) ∷ []

abbrev pub search_tests : Settings → (rounds n : ℕ) → Planes → (fits : Bool) → List Test
search_tests s rounds n p fits = stage.search_tests s p fits rounds n ++ (is_picture s p else 11) ∷ []

-- The promises: lent m with picture p, the call answers r and leaves l.
abbrev pub EstimateGives : Settings → List ℕ → Planes → Scratch → Result Estimated Refusal → Scratch → Type 0
EstimateGives s φ p m r l = outcome_of r l ≡ estimate_call s p φ m

abbrev pub SearchGives : Settings → ℕ → Planes → Lent → Result Estimated Refusal → Lent → Type 0
SearchGives s rounds p m r l = outcome_of r l ≡ search_call s p rounds m
