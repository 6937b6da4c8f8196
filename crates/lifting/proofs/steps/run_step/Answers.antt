use borrow.Author.Rules.{rules}
use mathlib.Core.Path.{◌≡◌}
use Prim.Native.Nat.{ℕ, ◌<◌}
use native.Mathlib.Omega.{arith}
use Rattle.stage.specs.Planes.{Planes}
use Rattle.lifting.specs.Passes.{step_at, reversed_if}
use mathlib.Core.Bool.{Bool}
use mathlib.Core.List.{List}
use Rattle.stage.specs.declared.Settings.{Settings}
use Rattle.stage.specs.declared.Form.{Form}
use Rattle.stage.specs.declared.Bands.{Bands}
use Rattle.lifting.specs.Steps.{StepReady}
use Rattle.lifting.specs.BandRows.{rows_before, BandReady, StepRows}
use Rattle.lifting.proofs.BandRows.{band_most, rows_order}
use Rattle.lifting.proofs.StepRows.{step_apart, rows_none, rows_more, rows_ready, rows_done}
use Rattle.lifting.proofs.steps.run_step.Goals as goal

-- the next band
ready : {κ : Form} {β : Bands} {s : Settings} {φ : List ℕ} {k : ℕ} {back : Bool} {y : ℕ} (b : ℕ) {p q : Planes} → StepReady κ β s φ k back p
    → StepRows κ β s φ (reversed_if back (step_at s.transform k)) 0 (rows_before β s.height b) p q → y ≡ rows_before β s.height b → y < s.height → BandReady β s φ k b q
ready b r u e h = record { fit = r.fit; begins = omega arith; planes = rows_ready u (omega arith) r.before r.after }

pub loop-plan-init : goal.loop-plan-init
loop-plan-init c = (omega arith, rows_none _ (omega arith), search rules)

pub rows_before-requires : goal.rows_before-requires
rows_before-requires c = c.loop-plan.invariant.0

pub lift_band-requires : goal.lift_band-requires
lift_band-requires c = ready c.loop-plan.band c.requires c.loop-plan.invariant.1 c.rows_before.ensures c.loop-plan-test.true

pub overflow_add-band : goal.overflow_add-band
overflow_add-band c =
    let m = band_most (ready c.loop-plan.band c.requires c.loop-plan.invariant.1 c.rows_before.ensures c.loop-plan-test.true) in
    search rules

pub loop-plan-smaller : goal.loop-plan-smaller
loop-plan-smaller c =
    let m = band_most (ready c.loop-plan.band c.requires c.loop-plan.invariant.1 c.rows_before.ensures c.loop-plan-test.true) in
    search rules

pub loop-plan-preserved : goal.loop-plan-preserved
loop-plan-preserved c =
    let m = ready c.loop-plan.band c.requires c.loop-plan.invariant.1 c.rows_before.ensures c.loop-plan-test.true in
    (omega (arith, band_most m), rows_more c.loop-plan.invariant.1 (step_apart c.args.plan.settings.transform c.args.k c.args.back (omega (arith, c.requires.fit.last))) (rows_order m) c.lift_band.ensures.rows, search rules)

pub returns-clause-made : goal.returns-clause-made
returns-clause-made c = rows_done c.loop-plan.invariant.1 (omega (arith, c.rows_before.ensures, c.loop-plan-test.false)) c.requires.before.size
