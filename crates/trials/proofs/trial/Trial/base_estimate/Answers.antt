use Rattle.trials.proofs.TrialSteps.{countable}
use Rattle.trials.proofs.trial.Trial.base_estimate.Goals as goal

pub part_estimate-requires : goal.part_estimate-requires
part_estimate-requires c = let p = c.requires in rw c.shared.ensures (record { allowed = p.allowed; planes = countable p.allowed p.planes; counters = p.counters })
