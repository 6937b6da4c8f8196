use mathlib.Core.Path.{◌≡◌}
use mathlib.Core.List.{List}
use Prim.Native.Nat.{ℕ}
use lib.ListN.{length}
use Rattle.integers.specs.Slices.{slice}
use Rattle.stage.specs.declared.Settings.{Settings}
use Rattle.stage.specs.declared.Form.TheVariants.{Plain}
use Rattle.stage.specs.declared.Bands.TheVariants.{One}
use Rattle.stage.specs.Planes.{Planes, samples_mut}
use Rattle.stage.specs.Steps.{steps, run}
use Rattle.stage.specs.Transform.{setup}
use Rattle.lifting.specs.Steps.{AtStep}
use Rattle.lifting.proofs.Readiness.{at_next, ready_run}
use Rattle.trials.specs.Trials.{ChoicesReady}
use Rattle.trials.proofs.TrialSteps.{steps_fit, run_all, trial_sum, countable}
use Rattle.trials.proofs.trial.Trial.finished_estimate.Goals as goal

-- the planes with all steps run
finished : {s : Settings} {k b n : ℕ} {q r : Planes} {φ l : List ℕ} → ChoicesReady s k b q φ l → n ≡ length (steps s.transform)
    → r ≡ run (setup Plain One s φ) (slice (steps s.transform) k n) q → AtStep s n r
finished {n} {φ} p e ran = at_next Plain One tt p.trial.planes n φ _ (steps_fit p e).order ran

pub run_steps-requires : goal.run_steps-requires
run_steps-requires c =
    let p = c.requires in
    rw c.from.ensures (ready_run p.trial.allowed.depth_most Plain One tt (steps_fit p c.step_count-to.ensures) p.trial.planes)

pub part_estimate-requires : goal.part_estimate-requires
part_estimate-requires c =
    let p = c.requires.trial in
    let ran = rw c.from.ensures at c.run_steps.ensures.made in
    record { allowed = p.allowed; planes = rw c.shared.ensures (countable p.allowed (finished c.requires c.step_count-to.ensures ran)); counters = p.counters }

pub returns-clause-found : goal.returns-clause-found
returns-clause-found c =
    let a = c.args in
    let p = c.requires in
    let q = samples_mut a.self.now.planes.now in
    let ran = rw c.from.ensures at c.run_steps.ensures.made in
    let part = rw c.shared.ensures at c.part_estimate.ensures.answer.value in
    record {
      estimate = trial_sum a.self.now.settings a.step c.step_count-to.result a.choices.now q _ c.step_count-to.ensures ran c.changed-set.ensures p.base.value part;
      planes = run_all a.self.now.settings a.step c.step_count-to.result a.choices.now q c.step_count-to.ensures ran;
      counters = c.part_estimate.ensures.counters;
    }
