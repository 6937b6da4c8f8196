use Rattle.std.proofs.Common.{◌/◌, ◌<◌, ◌≤◌, div-lt_iff_lt-mul, arith, rules}
use native.Mathlib.Nat.{mul-div-le, lt-mul-div-succ}
use Rattle.kernel.proofs.centre.reciprocal_of.Goals as goal
use Rattle.kernel.proofs.centre.reciprocal_of.Goals.{Start}

most : (c : Start) → 34359738368 / c.args.d < 3817748708
most c = (div-lt_iff_lt-mul {k = c.args.d} {x = 34359738368} {y = 3817748708} (omega arith)).1 (omega arith)

pub overflow_add-result : goal.overflow_add-result
overflow_add-result c = let m = most c in search rules

pub overflow_cast-result-2 : goal.overflow_cast-result-2
overflow_cast-result-2 c = let m = most c in search rules

pub returns : goal.returns
returns c =
    let d = c.args.d in
    let low = mul-div-le 34359738368 d in
    let positive : 1 ≤ d = omega arith in
    let high = lt-mul-div-succ 34359738368 positive in
    record { positive = positive; least = omega arith; most = omega arith }
