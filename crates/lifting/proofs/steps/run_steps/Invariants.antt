use mathlib.Core.Path.{◌≡◌}
use Rattle.integers.specs.Slices.{slice}
use Rattle.stage.specs.Planes.{samples_mut, SameReferences}
use Rattle.stage.specs.Steps.{steps, run}
use Rattle.stage.specs.Transform.{setup}
use Rattle.lifting.proofs.steps.run_steps.Given as goal

abbrev pub invariant-loop-k : goal.invariant-loop-k
invariant-loop-k l = (samples_mut l.planes ≡ run (setup l.plan.form l.plan.bands l.plan.settings l.choices) (slice (steps l.plan.settings.transform) l.from l.k) (samples_mut l.initial.planes)) × SameReferences l.initial.planes l.planes
