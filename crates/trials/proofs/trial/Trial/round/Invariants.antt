use Rattle.stage.specs.Planes.{samples_mut}
use Rattle.trials.specs.Trials.{SameTrial}
use Rattle.trials.proofs.Rounds.{AtPlace}
use Rattle.trials.proofs.trial.Trial.round.Given as goal

abbrev pub invariant-loop-place : goal.invariant-loop-place
invariant-loop-place l = record {
  same : SameTrial l.initial.self l.self;
  at : AtPlace l.initial.self.settings (samples_mut l.initial.self.planes.now) l.place l.from (samples_mut l.self.planes.now) l.initial.choices l.choices l.e l.self.counters.now;
}
