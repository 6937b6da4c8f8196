use borrow.Author.Rules.{rules}
use Rattle.stage.specs.Planes.{samples_mut}
use Rattle.trials.proofs.Rounds.{first_round, next_round}
use Rattle.trials.proofs.trial.Trial.rounds.Goals as goal

pub loop-i-init : goal.loop-i-init
loop-i-init c =
    let a = c.args in
    let p = c.requires in
    record { same = search rules; after = first_round a.self.now.settings (samples_mut a.self.now.planes.now) a.choices.now a.estimate a.self.now.counters.now p.choices p.estimate p.trial.counters }

pub loop-i-preserved : goal.loop-i-preserved
loop-i-preserved c =
    let a = c.args in
    record {
      same = search rules;
      after = next_round a.self.now.settings (samples_mut a.self.now.planes.now) c.loop-i.i a.choices.now c.loop-i.invariant.after (rw c.loop-i.invariant.same.settings at c.round-e.ensures.done);
    }
