use Rattle.std.proofs.Common.{◌+◌, ◌-◌, ◌+ℤ◌, rules}
use Rattle.integers.specs.Parts.{In}
use Rattle.integers.specs.Lists.{at}
use Rattle.integers.proofs.Ranges.{in_add, in_sums}
use Rattle.kernel.specs.Window.{three_sum}
use Rattle.kernel.proofs.window.three_sum.Goals as goal
use Rattle.kernel.proofs.window.three_sum.Goals.{Start}

-- the three samples
record Known (s : Start) : Type 0 where
  left : In 524288 524288 (at s.args.plane.now (s.args.i - 1))
  own : In 524288 524288 (at s.args.plane.now s.args.i)
  right : In 524288 524288 (at s.args.plane.now (s.args.i + 1))
  two : In 1048576 1048576 (at s.args.plane.now (s.args.i - 1) +ℤ at s.args.plane.now s.args.i)
  three : In 1572864 1572864 (three_sum s.args.plane.now s.args.i)

known : (s : Start) → Known s
known s =
    let left = s.requires.samples.each (s.args.i - 1) in
    let own = s.requires.samples.each s.args.i in
    let right = s.requires.samples.each (s.args.i + 1) in
    record { left = left; own = own; right = right; two = in_add left own; three = in_add (in_add left own) right }

pub overflow_add-result : goal.overflow_add-result
overflow_add-result c = let k = known c.before.before in search (rules, in_sums)

pub overflow_add-result-3 : goal.overflow_add-result-3
overflow_add-result-3 c = let k = known c.before.before.before in search (rules, in_sums)

pub returns : goal.returns
returns c = let k = known c.before.before.before in search (rules, in_sums)
