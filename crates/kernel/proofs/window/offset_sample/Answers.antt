use Rattle.std.proofs.Common.{to_z-of_z, rules}
use Rattle.integers.specs.Lists.{at}
use Rattle.kernel.proofs.Offsets.{OffsetSample, offset_sample}
use Rattle.kernel.proofs.window.offset_sample.Goals as goal
use Rattle.kernel.proofs.window.offset_sample.Goals.{Start}

known : (c : Start) → OffsetSample (at c.args.plane.now c.args.i)
known c = offset_sample _ (c.requires.samples.each c.args.i)

pub overflow_add-result : goal.overflow_add-result
overflow_add-result c = let k = known c.before in search rules

pub overflow_cast-result : goal.overflow_cast-result
overflow_cast-result c = let k = known c.before in search rules

pub returns : goal.returns
returns c = let k = known c.before in simp (to_z-of_z, k.own, k.sum) k.offset
