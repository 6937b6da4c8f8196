use Rattle.kernel.proofs.Segments.{Progress}
use Rattle.kernel.proofs.segment.lift_each.Given as goal

abbrev pub invariant-loop-i : goal.invariant-loop-i
invariant-loop-i g l = Progress l.pass (g.W.Window.value l.window l.a) l.from l.to l.i l.initial.c l.c
