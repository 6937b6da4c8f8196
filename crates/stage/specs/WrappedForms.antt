-- 02, request 9, "planes that never widen": what is proved of the wrapped forms beside demand 3. n is a number of steps.
use Rattle.std.specs.Prelude.{◌≡◌, ◌↔◌, List, ℕ, T, take, drop}
use Rattle.stage.specs.Answers.{refused}
use Rattle.stage.specs.Settings.{Settings, Form, Wrapped, Bands, depths_suit}
use Rattle.stage.specs.Planes.{Planes}
use Rattle.stage.specs.Steps.{steps, run, undo}
use Rattle.stage.specs.Ranges.{sample_ranges, InRanges, KeepsRanges}
use Rattle.stage.specs.Transform.{Fit, setup, transformed, untransformed, HasSize, Picture, forward, inverse}
use Rattle.stage.specs.Demand3.{GoesTo}

-- "Here every three planes of 0 to M come from exactly one picture." Three such planes are themselves a picture.
pub record FromOnePicture (β : Bands) (s : Settings) (φ : List ℕ) (q : Planes) : Type 0 where
  pub picture : Planes
  pub goes : GoesTo Wrapped β s φ picture q
  pub only : (p : Planes) → GoesTo Wrapped β s φ p q → p ≡ picture

abbrev pub WrappedFromOnePicture : Type 0
WrappedFromOnePicture =
    (β : Bands) (s : Settings) (φ : List ℕ) → T (depths_suit Wrapped s.depths) → (q : Planes) → Picture s q → FromOnePicture β s φ q

-- Running the steps and undoing them cancel, both ways, on all planes of 0 to M.
abbrev pub WrappedStepsCancel : Type 0
WrappedStepsCancel =
    (β : Bands) (s : Settings) (φ : List ℕ) (p : Planes) → T (depths_suit Wrapped s.depths) → InRanges (sample_ranges s) p
    → (untransformed Wrapped β s φ (transformed Wrapped β s φ p) ≡ p) × (transformed Wrapped β s φ (untransformed Wrapped β s φ p) ≡ p)

-- "11 for a sample outside 0 to M, either way": for that alone, once the settings pass, and the planes are as they were.
pub record OutsideRefused (β : Bands) (s : Settings) (φ : List ℕ) (p : Planes) : Type 0 where
  pub there : (forward Wrapped β s φ p ≡ record { reply = refused 11; memory = p }) ↔ (InRanges (sample_ranges s) p → ⊥)
  pub back : (inverse Wrapped β s φ p ≡ record { reply = refused 11; memory = p }) ↔ (InRanges (sample_ranges s) p → ⊥)

abbrev pub WrappedRefusesOutside : Type 0
WrappedRefusesOutside =
    (β : Bands) (s : Settings) (φ : List ℕ) → Fit Wrapped β s φ → (p : Planes) → HasSize s p → OutsideRefused β s φ p

-- No plane ever widens: samples stay within 0 to M after each step, on the way there and back.
pub record StaysWithin (β : Bands) (s : Settings) (φ : List ℕ) (n : ℕ) (p : Planes) : Type 0 where
  pub there : InRanges (sample_ranges s) (run (setup Wrapped β s φ) (take n (steps s.transform)) p)
  pub back : InRanges (sample_ranges s) (undo (setup Wrapped β s φ) (drop n (steps s.transform)) p)

abbrev pub WrappedNeverWidens : Type 0
WrappedNeverWidens =
    (β : Bands) (s : Settings) (φ : List ℕ) (n : ℕ) (p : Planes) → T (depths_suit Wrapped s.depths) → InRanges (sample_ranges s) p → StaysWithin β s φ n p

-- Both forms keep ranges, so they have what is proved of every setup that does: the numbers met and the window sums.
abbrev pub FormsKeepRanges : Type 0
FormsKeepRanges =
    (κ : Form) (β : Bands) (s : Settings) (φ : List ℕ) → T (depths_suit κ s.depths) → KeepsRanges (sample_ranges s) (setup κ β s φ)
