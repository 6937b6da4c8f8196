use mathlib.Core.Path.{◌≡◌}
use Prim.Native.Nat.{◌≤◌}
use Rattle.integers.specs.Slices.{slice}
use Rattle.stage.specs.Planes.{samples_mut, SameReferences}
use Rattle.stage.specs.Steps.{steps, undo}
use Rattle.stage.specs.Transform.{setup}
use Rattle.lifting.proofs.steps.undo_steps.Given as goal

abbrev pub invariant-loop-k : goal.invariant-loop-k
invariant-loop-k l = (l.from ≤ l.k) × (samples_mut l.planes ≡ undo (setup l.plan.form l.plan.bands l.plan.settings l.choices) (slice (steps l.plan.settings.transform) l.k l.to) (samples_mut l.initial.planes)) × SameReferences l.initial.planes l.planes
