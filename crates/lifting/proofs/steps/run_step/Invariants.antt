use Prim.Native.Nat.{◌-◌, ◌≤◌}
use Rattle.stage.specs.Planes.{samples_mut, SameReferences}
use Rattle.lifting.specs.Passes.{step_at, reversed_if}
use Rattle.lifting.specs.BandRows.{rows_before, StepRows}
use Rattle.lifting.proofs.steps.run_step.Given as goal

abbrev pub invariant-loop-plan : goal.invariant-loop-plan
invariant-loop-plan l = (l.band ≤ l.plan.settings.height) × StepRows l.plan.form l.plan.bands l.plan.settings l.choices (reversed_if l.back (step_at l.plan.settings.transform l.k)) 0 (rows_before l.plan.bands l.plan.settings.height l.band) (samples_mut l.initial.planes) (samples_mut l.planes) × SameReferences l.initial.planes l.planes

abbrev pub decreases-loop-plan : goal.decreases-loop-plan
decreases-loop-plan l = l.plan.settings.height - l.band
