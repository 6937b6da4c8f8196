use Rattle.std.proofs.Common.{◌+◌, ap}
use Rattle.kernel.specs.Window.{one_if, row_sum}
use Rattle.kernel.proofs.Offsets.{offset_absent, offset_present}
use Rattle.kernel.proofs.window.Border.row_sum_if.Goals as goal

pub returns-then-present : goal.returns-then-present
returns-then-present c = offset_present (ap one_if c.if-present.true) c.row_sum.ensures

pub returns-else-present : goal.returns-else-present
returns-else-present c =
    let s = c.args in
    let l = one_if s.self.left in
    let r = one_if s.self.right in
    offset_absent (l + 1 + r) (row_sum s.plane.now s.i l r) (ap one_if c.if-present.false)
