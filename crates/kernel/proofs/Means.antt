-- The rounded mean as a number and a division of what is left.
use Rattle.std.proofs.Common.{◌≡◌, ℕ, ◌*◌, ◌/◌, ◌≤◌, ℤ, pos, ◌+ℤ◌, ◌*ℤ◌, ap, arith}
use native.Mathlib.Nat.{mul-div-le, lt-mul-div-succ}
use Rattle.integers.specs.Parts.{pos_part, neg_part}
use Rattle.integers.proofs.Parts.{add_difference, scale_parts}
use Rattle.integers.proofs.FloorDivision.{floor_div_is}
use Rattle.stage.specs.Filter.{rounded_mean}

-- d v taken out of the sum z
pub mean_beside : {d : ℕ} (n : ℕ) (z v : ℤ) → 1 ≤ d → pos n +ℤ pos d *ℤ v ≡ z +ℤ pos (d / 2) → v +ℤ pos (n / d) ≡ rounded_mean z d
mean_beside {d} n z v h e =
    let q = n / d in
    let low = mul-div-le n d in
    let high = lt-mul-div-succ n h in
    let times = scale_parts d v in
    let left = add_difference (pos n) (pos d *ℤ v) in
    let right = add_difference z (pos (d / 2)) in
    let above = ap pos_part e in
    let below = ap neg_part e in
    let twice = scale_parts 2 z in
    let top = add_difference (pos 2 *ℤ z) (pos d) in
    let scaled = ap (λ (x : ℕ). d * x) (add_difference v (pos q)).sum in
    floor_div_is (pos 2 *ℤ z +ℤ pos d) (2 * d) (v +ℤ pos q) (omega arith) (omega arith) (omega arith)
