use Rattle.stage.specs.Planes.{samples_mut}
use Rattle.trials.specs.Trials.{SameTrial}
use Rattle.trials.proofs.Filters.{Trying}
use Rattle.trials.proofs.trial.Trial.choose.Given as goal

abbrev pub invariant-loop-filter : goal.invariant-loop-filter
invariant-loop-filter l = record {
  same : SameTrial l.initial.self l.self;
  trying : Trying l.fn.self.settings l.at l.filter (samples_mut l.fn.self.planes.now) (samples_mut l.self.planes.now) l.initial.choices l.choices l.self.counters.now l.best;
}
