-- What is proved of null steps, those whose places are all null (02, request 1). σ is what the steps run with, x a step.
use Rattle.std.specs.Prelude.{◌≡◌, Bool, true, false, not, ◌&&◌, List, [], ◌∷◌, ℕ, ◌≤◌, ◌<◌, T, length, replicate}
use Rattle.stage.specs.Settings.{Settings, Form, Plain, Bands, depths_suit, bands_suit, Allowed}
use Rattle.stage.specs.Planes.{Planes, get}
use Rattle.stage.specs.Steps.{Setup, Step, Lifting, add, subtract, negate, all_null, reversed, step, run, undo, steps}
use Rattle.stage.specs.Transform.{choice_count, setup, transformed, untransformed, Picture, forward, inverse}
use Rattle.stage.specs.Demand3.{GoesTo, accepted}

-- "a step whose places are all null leaves its plane unchanged, both ways", in every setup that skips null steps
abbrev pub NullStepsSkipped : Type 0
NullStepsSkipped =
    (σ : Setup) (x : Step) (p : Planes) → T σ.skips → ((i : ℕ) → i < length (get p x.plane) → T (all_null σ x.term i))
    → (step σ x p ≡ p) × (step σ (reversed x) p ≡ p)

-- "Artists store masks with every filter null and expect untouched planes": every picture goes to itself, under each of the four
-- transforms in both forms and all bands, and back.
abbrev pub nulls : Bands → Settings → List ℕ
nulls β s = replicate (choice_count β s) 12

pub record Untouched (κ : Form) (β : Bands) (s : Settings) (p : Planes) : Type 0 where
  pub goes : GoesTo κ β s (nulls β s) p p
  pub there : forward κ β s (nulls β s) p ≡ accepted p
  pub back : inverse κ β s (nulls β s) p ≡ accepted p

abbrev pub NullsLeavePictures : Type 0
NullsLeavePictures =
    (κ : Form) (β : Bands) (s : Settings) (p : Planes) → Allowed s → T (depths_suit κ s.depths) → T (bands_suit β s.height) → Picture s p
    → Untouched κ β s p

-- Only a step that negates differs by its skip: another null step would add or subtract 0.
abbrev pub negates : Lifting → Bool
negates add = false
negates subtract = false
negates negate = true

-- no step that negates is null
abbrev pub NoNullNegation : Setup → List Step → Type 0
NoNullNegation σ [] = Unit {0}
NoNullNegation σ (x ∷ l) = ((i : ℕ) → T (not (negates x.lifting && all_null σ x.term i))) × NoNullNegation σ l

-- the same run with no step skipped: the steps of 01 by itself
abbrev pub unskipped : Setup → Setup
unskipped σ = record { width = σ.width; height = σ.height; filter = σ.filter; skips = false; keep = σ.keep }

pub record SameUnskipped (β : Bands) (s : Settings) (φ : List ℕ) (p : Planes) : Type 0 where
  pub there : transformed Plain β s φ p ≡ run (unskipped (setup Plain β s φ)) (steps s.transform) p
  pub back : untransformed Plain β s φ p ≡ undo (unskipped (setup Plain β s φ)) (steps s.transform) p

-- So planes stored before steps were skipped come back as they did, unless a step that negated them was null: always those of RCT and
-- YCoCg-R, which have no such step.
abbrev pub SkipsMatterOnlyInNegation : Type 0
SkipsMatterOnlyInNegation =
    (β : Bands) (s : Settings) (φ : List ℕ) (p : Planes) → NoNullNegation (setup Plain β s φ) (steps s.transform) → SameUnskipped β s φ p

abbrev pub FirstTwoUnaffected : Type 0
FirstTwoUnaffected = (β : Bands) (s : Settings) (φ : List ℕ) (p : Planes) → s.transform ≤ 1 → SameUnskipped β s φ p

-- In every case the inverse, lent the planes that a picture p went to without a skip, leaves p or refuses: never another picture.
abbrev pub NoOtherPicture : Type 0
NoOtherPicture =
    (β : Bands) (s : Settings) (φ : List ℕ) (p r : Planes) → Picture s p → inverse Plain β s φ (run (unskipped (setup Plain β s φ)) (steps s.transform) p) ≡ accepted r → r ≡ p
