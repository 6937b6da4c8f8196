use Rattle.std.proofs.Common.{◌*◌}
use Rattle.stage.specs.Filter.{mean}
use Rattle.kernel.specs.Lifting.{Lifted}
use Rattle.kernel.proofs.lift_means.Given as goal

abbrev pub invariant-loop-y : goal.invariant-loop-y
invariant-loop-y l = Lifted l.pass (mean l.width l.height l.centre.weight l.a) (l.from * l.width) (l.y * l.width) l.initial.c l.c
