-- What the code of the steps asks of the planes, and what it leaves.
use Rattle.std.specs.Prelude.{◌≡◌, Bool, not, List, ℕ, ◌+◌, ◌*◌, ◌≤◌, ◌<◌, T, ℤ, length, take}
use Rattle.integers.specs.Lists.{AllIn, Changed}
use Rattle.integers.specs.Slices.{slice}
use Rattle.stage.specs.declared.Settings.{Settings}
use Rattle.stage.specs.declared.Form.{Form}
use Rattle.stage.specs.declared.Bands.{Bands}
use Rattle.stage.specs.declared.Plane.{Plane}
use Rattle.stage.specs.Settings.{bands_suit, pixels}
use Rattle.stage.specs.Planes.{Planes, get, same_plane}
use Rattle.stage.specs.Steps.{steps, places, step, run, undo}
use Rattle.stage.specs.Ranges.{ranges, sample_ranges, InRanges}
use Rattle.stage.specs.Transform.{HasSize, choices_fit, setup}
use Rattle.lifting.specs.Passes.{step_at, reversed_if}

-- planes of the picture's size with samples within ±2^19
pub record Ready (s : Settings) (p : Planes) : Type 0 where
  pub size : HasSize s p
  pub small : (c : Plane) → AllIn 524288 524288 (get p c)

-- rows from .. to − 1 by the pass of place k under filter f
pub record PassReady (s : Settings) (k f from to : ℕ) (p : Planes) : Type 0 where
  pub place : k < places (steps s.transform)
  pub depth : s.depths.c1 ≤ 16
  pub filter : f ≤ 12
  pub order : from ≤ to
  pub rows : to ≤ s.height
  pub planes : Ready s p

-- rows from .. to − 1 of plane c by a quarter of planes a and b under filters f and g
pub record QuarterReady (s : Settings) (f g from to : ℕ) (a b c : List ℤ) : Type 0 where
  pub depth : s.depths.c1 ≤ 16
  pub first_filter : f ≤ 12
  pub second_filter : g ≤ 12
  pub order : from ≤ to
  pub rows : to ≤ s.height
  pub first_size : length a ≡ pixels s
  pub second_size : length b ≡ pixels s
  pub changed_size : length c ≡ pixels s
  pub first : AllIn 524288 524288 a
  pub second : AllIn 524288 524288 b
  pub changed : AllIn 524288 524288 c

-- Rows from .. to − 1 of plane c are changed by f, all else is as before.
pub record RowsChanged (f : ℕ → ℤ → ℤ) (c : Plane) (s : Settings) (from to : ℕ) (p q : Planes) : Type 0 where
  pub rows : Changed f (from * s.width) (to * s.width) (get p c) (get q c)
  pub others : (d : Plane) → T (not (same_plane d c)) → get q d ≡ get p d

-- steps from .. to − 1 of a transform, with bands and choices that fit
pub record StepsFit (β : Bands) (s : Settings) (φ : List ℕ) (from to : ℕ) : Type 0 where
  pub transform : s.transform ≤ 3
  pub order : from ≤ to
  pub last : to ≤ length (steps s.transform)
  pub depth : s.depths.c1 ≤ 16
  pub bands : T (bands_suit β s.height)
  pub choices : T (choices_fit β s φ)

-- step k, or back: planes that are ready before it and after it, and so while it runs
pub record StepReady (κ : Form) (β : Bands) (s : Settings) (φ : List ℕ) (k : ℕ) (back : Bool) (p : Planes) : Type 0 where
  pub fit : StepsFit β s φ k (k + 1)
  pub before : Ready s p
  pub after : Ready s (step (setup κ β s φ) (reversed_if back (step_at s.transform k)) p)

-- steps from .. to − 1, and back: planes that are ready before each and after the last
pub record RunReady (κ : Form) (β : Bands) (s : Settings) (φ : List ℕ) (from to : ℕ) (p : Planes) : Type 0 where
  pub fit : StepsFit β s φ from to
  pub ready : (k : ℕ) → from ≤ k → k ≤ to → Ready s (run (setup κ β s φ) (slice (steps s.transform) from k) p)

pub record UndoReady (κ : Form) (β : Bands) (s : Settings) (φ : List ℕ) (from to : ℕ) (p : Planes) : Type 0 where
  pub fit : StepsFit β s φ from to
  pub ready : (k : ℕ) → from ≤ k → k ≤ to → Ready s (undo (setup κ β s φ) (slice (steps s.transform) k to) p)

-- Planes as a picture's are before step k: of its size, and within the ranges that its samples have after k steps.
pub record AtStep (s : Settings) (k : ℕ) (p : Planes) : Type 0 where
  pub size : HasSize s p
  pub inside : InRanges (ranges (take k (steps s.transform)) (sample_ranges s)) p
