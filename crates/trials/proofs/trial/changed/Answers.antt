use Rattle.stage.specs.Steps.{steps}
use Rattle.trials.proofs.TrialSteps.{changed_is}
use Rattle.trials.proofs.trial.changed.Goals as goal

pub returns : goal.returns
returns c =
    let s = c.args in
    changed_is (steps s.transform) s.step _ _ _ c.last_change.ensures c.last_change-2.ensures c.last_change-3.ensures
