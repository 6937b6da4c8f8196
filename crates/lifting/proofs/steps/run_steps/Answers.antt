use borrow.Author.Rules.{rules}
use Rattle.lifting.proofs.Turns.{run_none, run_ready, run_turn}
use Rattle.lifting.proofs.steps.run_steps.Goals as goal

pub loop-k-init : goal.loop-k-init
loop-k-init c = (run_none c.requires, search rules)

pub run_step-requires : goal.run_step-requires
run_step-requires c = run_ready c.requires c.loop-k.k _ c.loop-k.auto.k c.loop-k-test.true c.loop-k.invariant.0

pub loop-k-preserved : goal.loop-k-preserved
loop-k-preserved c = (run_turn c.requires c.loop-k.k _ c.loop-k.auto.k c.loop-k-test.true c.loop-k.invariant.0 _ c.run_step.ensures.made, search rules)
