use Rattle.std.proofs.Common.{rules}
use Rattle.kernel.proofs.Segments.{applied_is, progress_none, progress_in, progress_set, progress_all}
use Rattle.kernel.proofs.segment.lift_each.Goals as goal

pub loop-i-init : goal.loop-i-init
loop-i-init g c = progress_none c.requires.order

pub apply-requires : goal.apply-requires
apply-requires g c = let x = progress_in c.loop-i.invariant c.requires.changed c.loop-i-test.true in search rules

pub loop-i-preserved : goal.loop-i-preserved
loop-i-preserved g c =
    let x = progress_in c.loop-i.invariant c.requires.changed c.loop-i-test.true in
    let h = applied_is _ x c.at.ensures c.apply.ensures in
    progress_set c.loop-i.invariant c.loop-i-test.true c.requires.end (search rules)

pub shape_of-c : goal.shape_of-c
shape_of-c g c = c.loop-i.invariant.done.long

pub returns : goal.returns
returns g c = progress_all c.loop-i.invariant c.loop-i-test.false
