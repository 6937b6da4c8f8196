use Rattle.stage.specs.Planes.{samples_mut}
use Rattle.trials.proofs.TrialSteps.{steps_fit, ready_back, planes_back}
use Rattle.trials.proofs.trial.Trial.estimate.Goals as goal

pub undo_steps-requires : goal.undo_steps-requires
undo_steps-requires c =
    let p = c.requires in
    let n = c.step_count-to.ensures in
    rw c.from.ensures (ready_back (steps_fit p n) n (samples_mut c.args.self.now.planes.now) c.finished_estimate-e.ensures.found.planes p.trial.allowed.depth_most p.trial.planes)

pub returns-clause-found : goal.returns-clause-found
returns-clause-found c =
    let f = c.finished_estimate-e.ensures.found in
    let n = c.step_count-to.ensures in
    record {
      estimate = f.estimate;
      planes = planes_back (steps_fit c.requires n) n (samples_mut c.args.self.now.planes.now) f.planes (rw c.from.ensures at c.undo_steps.ensures.made);
      counters = f.counters;
    }
