use borrow.Author.Rules.{rules}
use mathlib.Core.Path.{◌≡◌}
use Prim.Native.Nat.{suc, ◌-◌, ◌≤◌, ◌<◌}
use native.Mathlib.Omega.{arith}
use Rattle.lifting.proofs.Turns.{undo_none, undo_ready, undo_turn}
use Rattle.lifting.proofs.steps.undo_steps.Goals as goal

pub loop-k-init : goal.loop-k-init
loop-k-init c = (c.requires.fit.order, undo_none c.requires, search rules)

-- the turn's step is k − 1
pub run_step-requires : goal.run_step-requires
run_step-requires c =
    let one : c.loop-k.k ≡ suc (c.loop-k.k - 1) = omega arith in
    let low : c.args.from ≤ c.loop-k.k - 1 = omega arith in
    let high : c.loop-k.k - 1 < c.args.to = omega arith in
    undo_ready c.requires (c.loop-k.k - 1) _ low high c.loop-k.k one c.loop-k.invariant.1

pub loop-k-preserved : goal.loop-k-preserved
loop-k-preserved c =
    let one : c.loop-k.k ≡ suc (c.loop-k.k - 1) = omega arith in
    let low : c.args.from ≤ c.loop-k.k - 1 = omega arith in
    let high : c.loop-k.k - 1 < c.args.to = omega arith in
    (low, undo_turn c.requires (c.loop-k.k - 1) _ low high c.loop-k.k one c.loop-k.invariant.1 _ c.run_step.ensures.made, search rules)
