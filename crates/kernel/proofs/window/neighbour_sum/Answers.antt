use Rattle.std.proofs.Common.{◌+◌, ◌-◌, ℤ, ◌+ℤ◌, ap, ap₂, arith, rules}
use Rattle.integers.specs.Parts.{In}
use Rattle.integers.specs.Lists.{at}
use Rattle.integers.proofs.Ranges.{in_add, in_sums}
use Rattle.kernel.specs.Window.{ValueIn, neighbour_sum}
use Rattle.kernel.proofs.window.neighbour_sum.Goals as goal
use Rattle.kernel.proofs.window.neighbour_sum.Goals.{After-three_sum, After-three_sum-2}

-- the row above and the samples on both sides
record Known (c : After-three_sum) : Type 0 where
  above : In 1572864 1572864 c.three_sum.result
  left : In 524288 524288 (at c.before.args.plane.now (c.before.args.i - 1))
  right : In 524288 524288 (at c.before.args.plane.now (c.before.args.i + 1))
  one : In 2097152 2097152 (c.three_sum.result +ℤ at c.before.args.plane.now (c.before.args.i - 1))
  two : In 2621440 2621440 (c.three_sum.result +ℤ at c.before.args.plane.now (c.before.args.i - 1) +ℤ at c.before.args.plane.now (c.before.args.i + 1))

known : (c : After-three_sum) → Known c
known c =
    let s = c.before in
    let above = c.three_sum.ensures.range in
    let left = s.requires.samples.each (s.args.i - 1) in
    let right = s.requires.samples.each (s.args.i + 1) in
    record { above = above; left = left; right = right; one = in_add above left; two = in_add (in_add above left) right }

pub overflow_add-result : goal.overflow_add-result
overflow_add-result c = let k = known c.before in search (rules, in_sums)

pub overflow_add-result-3 : goal.overflow_add-result-3
overflow_add-result-3 c = let k = known c.before.before in search (rules, in_sums)

pub three_sum-requires-2 : goal.three_sum-requires-2
three_sum-requires-2 c = record { inside = omega arith; samples = search rules }

pub overflow_add-result-4 : goal.overflow_add-result-4
overflow_add-result-4 c = let k = known c.before.before.before in let u = c.three_sum-2.ensures.range in search (rules, in_sums)

-- all eight
sum : (c : After-three_sum-2) →
    let t = c.before.before.before in
    let a = t.before.args.plane.now in
    let i = t.before.args.i in
    ValueIn 4194304 (neighbour_sum t.before.args.width a i) (t.three_sum.result +ℤ at a (i - 1) +ℤ at a (i + 1) +ℤ c.three_sum-2.result)
sum c =
    let t = c.before.before.before in
    let a = t.before.args.plane.now in
    let i = t.before.args.i in
    record {
      is = ap₂ ◌+ℤ◌ (ap (λ (z : ℤ). z +ℤ at a (i - 1) +ℤ at a (i + 1)) t.three_sum.ensures.is) c.three_sum-2.ensures.is;
      range = in_add (known t).two c.three_sum-2.ensures.range;
    }

pub returns : goal.returns
returns c = let k = known c.before.before.before in let u = c.three_sum-2.ensures.range in let v = sum c in search (rules, in_sums)
