-- floor_div z d is the one q with d q ≤ z < d q + d.
use mathlib.Core.Path.{◌≡◌, sym, ap}
use Prim.Native.Nat.{ℕ, suc, ◌+◌, ◌*◌, ◌≤◌, ◌<◌}
use native.Mathlib.Omega.{arith}
use native.Mathlib.Nat.{mul-div-le, lt-mul-div-succ, lt_of_mul-lt-mul_left, le_of_suc-le-suc}
use lib.IntN.{ℤ, pos, negsuc, ◌+ℤ◌, ◌*ℤ◌}
use Rattle.integers.specs.Parts.{pos_part, neg_part, floor_div}
use Rattle.integers.proofs.Parts.{add_difference, scale_parts, eq_parts}

pub floor_div_low : (z : ℤ) (d : ℕ) → 0 < d → d * pos_part (floor_div z d) + neg_part z ≤ pos_part z + d * neg_part (floor_div z d)
floor_div_low (pos n) d h = omega (arith, mul-div-le n d)
floor_div_low (negsuc n) d h = omega (arith, lt-mul-div-succ n h)

pub floor_div_high : (z : ℤ) (d : ℕ) → 0 < d → pos_part z + d * neg_part (floor_div z d) < d * pos_part (floor_div z d) + neg_part z + d
floor_div_high (pos n) d h = omega (arith, lt-mul-div-succ n h)
floor_div_high (negsuc n) d h = omega (arith, mul-div-le n d)

less_than_one_more : (d x y : ℕ) → d * x < d * y + d → x ≤ y
less_than_one_more d x y h = let k : d * x < d * suc y = omega arith in le_of_suc-le-suc (lt_of_mul-lt-mul_left d {m = x} {n = suc y} k)

pub floor_div_is : (z : ℤ) (d : ℕ) (q : ℤ) → 0 < d → d * pos_part q + neg_part z ≤ pos_part z + d * neg_part q → pos_part z + d * neg_part q < d * pos_part q + neg_part z + d → q ≡ floor_div z d
floor_div_is z d q h low high =
    let r = floor_div z d in
    let p = floor_div_low z d h in
    let s = floor_div_high z d h in
    let a = less_than_one_more d (pos_part q + neg_part r) (pos_part r + neg_part q) (omega arith) in
    let b = less_than_one_more d (pos_part r + neg_part q) (pos_part q + neg_part r) (omega arith) in
    eq_parts q r (omega arith)

-- a multiple of the divisor comes out
pub floor_div_out : (c z : ℤ) (d : ℕ) → 0 < d → floor_div (pos d *ℤ c +ℤ z) d ≡ c +ℤ floor_div z d
floor_div_out c z d h =
    let p = floor_div_low z d h in
    let q = floor_div_high z d h in
    let multiple = scale_parts d c in
    let total = add_difference (pos d *ℤ c) z in
    let result = ap (λ (n : ℕ). d * n) (add_difference c (floor_div z d)).sum in
    sym (floor_div_is (pos d *ℤ c +ℤ z) d (c +ℤ floor_div z d) h (omega arith) (omega arith))
