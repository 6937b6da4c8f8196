use Rattle.stage.specs.Planes.{samples_mut}
use Rattle.trials.specs.Trials.{SameTrial}
use Rattle.trials.proofs.Rounds.{AfterRounds}
use Rattle.trials.proofs.trial.Trial.rounds.Given as goal

abbrev pub invariant-loop-i : goal.invariant-loop-i
invariant-loop-i l = record {
  same : SameTrial l.initial.self l.self;
  after : AfterRounds l.initial.self.settings (samples_mut l.initial.self.planes.now) l.i l.initial.choices l.e (samples_mut l.self.planes.now) l.choices l.self.counters.now;
}
