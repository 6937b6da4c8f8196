use Rattle.std.proofs.Common.{arith, ap}
use Rattle.integers.specs.Lists.{at}
use Rattle.kernel.specs.Window.{one_if}
use Rattle.kernel.proofs.Offsets.{offset_absent, offset_present, offset_as}
use Rattle.kernel.proofs.window.sample_if.Goals as goal

pub returns-then-present : goal.returns-then-present
returns-then-present c = offset_as (omega arith) (offset_present (ap one_if c.if-present.true) c.offset_sample.ensures)

pub returns-else-present : goal.returns-else-present
returns-else-present c = offset_as (omega arith) (offset_absent 1 (at c.args.plane.now c.args.i) (ap one_if c.if-present.false))
