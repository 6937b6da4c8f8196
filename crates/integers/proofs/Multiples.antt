-- A natural multiple of a sum, of a negation and of a multiple.
use mathlib.Core.Path.{◌≡◌, ap}
use Prim.Native.Nat.{ℕ, suc, ◌*◌}
use native.Mathlib.Omega.{arith}
use native.Mathlib.Nat.{mul_assoc}
use lib.IntN.{ℤ, pos, negsuc, ◌+ℤ◌, ◌*ℤ◌, neg_ℤ, *ℤ_comm, *ℤ-negsuc}
use Rattle.integers.specs.Parts.{pos_part, neg_part}
use Rattle.integers.proofs.Parts.{add_difference, scale_parts, eq_parts, ext_parts, pos_part_neg, neg_part_neg}

pub pos_part_times : (k : ℕ) (x : ℤ) → pos_part (pos k *ℤ x) ≡ k * pos_part x
pos_part_times k x = (scale_parts k x).positive

pub neg_part_times : (k : ℕ) (x : ℤ) → neg_part (pos k *ℤ x) ≡ k * neg_part x
neg_part_times k x = (scale_parts k x).negative

pub ruleset scaled = (pos_part_times, neg_part_times, pos_part_neg, neg_part_neg, mul_assoc)

pub times_add : (k : ℕ) (x y : ℤ) → pos k *ℤ (x +ℤ y) ≡ (pos k *ℤ x) +ℤ (pos k *ℤ y)
times_add k x y =
    let p = ap (λ (n : ℕ). k * n) (add_difference x y).sum in
    let q = simp scaled at (add_difference (pos k *ℤ x) (pos k *ℤ y)).sum in
    eq_parts _ _ (simp scaled (omega arith))

pub times_neg : (k : ℕ) (x : ℤ) → pos k *ℤ neg_ℤ x ≡ neg_ℤ (pos k *ℤ x)
times_neg k x = ext_parts _ _ (simp scaled) (simp scaled)

pub times_times : (k m : ℕ) (x : ℤ) → pos k *ℤ (x *ℤ pos m) ≡ pos (k * m) *ℤ x
times_times k m x = rw (*ℤ_comm x (pos m)) (ext_parts _ _ (simp scaled) (simp scaled))

-- a factor below 0, on either side
pub right_neg : (x : ℤ) (m : ℕ) → x *ℤ negsuc m ≡ neg_ℤ (x *ℤ pos (suc m))
right_neg x m = *ℤ-negsuc x m

pub left_neg : (m : ℕ) (x : ℤ) → negsuc m *ℤ x ≡ neg_ℤ (x *ℤ pos (suc m))
left_neg m x = rw (*ℤ_comm (negsuc m) x) (right_neg x m)
