-- RCT's third step, with two filtered values, as two passes without loss; and the same back.
use Rattle.std.proofs.Common.{◌≡◌, ℤ, pos, ◌+ℤ◌, ◌-ℤ◌, ◌*ℤ◌, neg_ℤ, sym, arith}
use Rattle.integers.specs.Parts.{floor_div}
use Rattle.integers.proofs.Parts.{add_difference, neg_parts}
use Rattle.integers.proofs.Linear.{flat, count, eq_lin}
use Rattle.integers.proofs.FloorDivision.{floor_div_low, floor_div_high, floor_div_is, floor_div_out}
use Rattle.kernel.specs.Pass.{FourfoldAdd, FourfoldSubtract, QuarterAdd, QuarterSubtract, made}

-- a quarter subtracted is a quarter of the negative rounded up
quarter_up : (z : ℤ) → floor_div (neg_ℤ z +ℤ pos 3) 4 ≡ neg_ℤ (floor_div z 4)
quarter_up z =
    let low = floor_div_low z 4 (omega arith) in
    let high = floor_div_high z 4 (omega arith) in
    let negative = neg_parts z in
    let total = add_difference (neg_ℤ z) (pos 3) in
    let result = neg_parts (floor_div z 4) in
    sym (floor_div_is (neg_ℤ z +ℤ pos 3) 4 (neg_ℤ (floor_div z 4)) (omega arith) (omega arith) (omega arith))

-- C + (f + g) / 4
pub quarter_added : (c f g : ℤ) → made QuarterAdd (made FourfoldAdd c f) g ≡ c +ℤ floor_div (f +ℤ g) 4
unfolding made
quarter_added c f g =
    let e : pos 4 *ℤ c +ℤ f +ℤ g ≡ pos 4 *ℤ c +ℤ (f +ℤ g) = eq_lin (simp flat (simp count (omega arith))) in
    rw e (floor_div_out c (f +ℤ g) 4 (omega arith))

-- C − (f + g) / 4
pub quarter_subtracted : (c f g : ℤ) → made QuarterSubtract (made FourfoldSubtract c f) g ≡ c -ℤ floor_div (f +ℤ g) 4
unfolding made
quarter_subtracted c f g =
    let e : pos 4 *ℤ c -ℤ f -ℤ g +ℤ pos 3 ≡ pos 4 *ℤ c +ℤ (neg_ℤ (f +ℤ g) +ℤ pos 3) = eq_lin (simp flat (simp count (omega arith))) in
    rw (e, floor_div_out c (neg_ℤ (f +ℤ g) +ℤ pos 3) 4 (omega arith), quarter_up (f +ℤ g))
