-- The natural parts of sums, negations, floors and multiples: they turn facts on whole numbers into facts on natural numbers, which `omega` proves.
use mathlib.Core.Path.{◌≡◌, refl, ap, sym, ◌∙◌}
use mathlib.Core.Bool.{Bool, true, false, cond}
use Prim.Native.Nat.{ℕ, zero, suc, ◌+◌, ◌*◌, ◌-◌, ◌/◌, ◌≤◌, ◌<◌, min}
use native.Mathlib.Nat.{mul-zero, div-eq_of_lt, add-div_right}
use native.Mathlib.Omega.{arith}
use lib.Dec.{ltb, ltb→lt, nltb→le}
use lib.IntN.{ℤ, pos, negsuc, nat_abs, neg_ℤ, sub_ℕ, ◌+ℤ◌, ◌*ℤ◌}
use lib.Signed.{mag}
use Rattle.integers.specs.Parts.{pos_part, neg_part, floor_div}

-- z = u − d
pub record Difference (z : ℤ) (u d : ℕ) : Type 0 where
  pub sum : pos_part z + d ≡ neg_part z + u
  pub one : min (pos_part z) (neg_part z) ≡ 0

sub_case : (a b : ℕ) (c : Bool) → ltb a b ≡ c → Difference (cond c (negsuc (b - suc a)) (pos (a - b))) a b
sub_case a b true e = let h : a < b = ltb→lt a b (rw e tt) in omega arith
sub_case a b false e = let h : b ≤ a = nltb→le a b (rw e tt) in omega arith

pub sub_difference : (a b : ℕ) → Difference (sub_ℕ a b) a b
sub_difference a b = sub_case a b (ltb a b) refl

pub add_difference : (x y : ℤ) → Difference (x +ℤ y) (pos_part x + pos_part y) (neg_part x + neg_part y)
add_difference (pos a) (pos b) = omega arith
add_difference (pos a) (negsuc b) = let h = sub_difference a (suc b) in omega arith
add_difference (negsuc a) (pos b) = let h = sub_difference b (suc a) in omega arith
add_difference (negsuc a) (negsuc b) = omega arith

-- the same by truncated differences, as equations for `simp`
pub pos_part_add : (x y : ℤ) → pos_part (x +ℤ y) ≡ (pos_part x + pos_part y) - (neg_part x + neg_part y)
pos_part_add x y = let h = add_difference x y in omega arith

pub neg_part_add : (x y : ℤ) → neg_part (x +ℤ y) ≡ (neg_part x + neg_part y) - (pos_part x + pos_part y)
neg_part_add x y = let h = add_difference x y in omega arith

pub record HasParts (z : ℤ) (u d : ℕ) : Type 0 where
  pub positive : pos_part z ≡ u
  pub negative : neg_part z ≡ d

pub neg_parts : (z : ℤ) → HasParts (neg_ℤ z) (neg_part z) (pos_part z)
neg_parts (pos zero) = record { positive = refl; negative = refl }
neg_parts (pos (suc n)) = record { positive = refl; negative = refl }
neg_parts (negsuc n) = record { positive = refl; negative = refl }

pub pos_part_neg : (z : ℤ) → pos_part (neg_ℤ z) ≡ neg_part z
pos_part_neg z = (neg_parts z).positive

pub neg_part_neg : (z : ℤ) → neg_part (neg_ℤ z) ≡ pos_part z
neg_part_neg z = (neg_parts z).negative

pub scale_parts : (m : ℕ) (z : ℤ) → HasParts (pos m *ℤ z) (m * pos_part z) (m * neg_part z)
scale_parts m (pos n) = record { positive = refl; negative = sym (mul-zero m) }
scale_parts m (negsuc n) =
    let h = neg_parts (pos (m * suc n)) in
    record { positive = h.positive ∙ sym (mul-zero m); negative = h.negative }

pub floor_div_parts : (d : ℕ) (z : ℤ) → HasParts (floor_div z (suc d)) (pos_part z / suc d) ((neg_part z + d) / suc d)
floor_div_parts d (pos n) = record { positive = refl; negative = sym (div-eq_of_lt {n = 0 + d} {m = suc d} (omega arith)) }
floor_div_parts d (negsuc n) =
    let e : suc n + d ≡ n + suc d = omega arith in
    record {
      positive = sym (div-eq_of_lt {n = 0} {m = suc d} (omega arith));
      negative = sym (rw (e, add-div_right n {k = suc d} (omega arith)) (omega arith));
    }

pub one_part : (z : ℤ) → min (pos_part z) (neg_part z) ≡ 0
one_part (pos n) = omega arith
one_part (negsuc n) = omega arith

pub mag_parts : (z : ℤ) → mag z ≡ pos_part z + (neg_part z - 1)
mag_parts (pos n) = omega arith
mag_parts (negsuc n) = omega arith

pub nat_abs_parts : (z : ℤ) → nat_abs z ≡ pos_part z + neg_part z
nat_abs_parts (pos n) = omega arith
nat_abs_parts (negsuc n) = omega arith

pub ruleset parts = (mag_parts, pos_part_add, neg_part_add, pos_part_neg, neg_part_neg)

-- numbers whose parts differ by the same are equal
pub eq_parts : (x y : ℤ) → pos_part x + neg_part y ≡ pos_part y + neg_part x → x ≡ y
eq_parts (pos a) (pos b) e = ap pos (omega arith)
eq_parts (pos a) (negsuc b) e = absurd (omega arith)
eq_parts (negsuc a) (pos b) e = absurd (omega arith)
eq_parts (negsuc a) (negsuc b) e = ap negsuc (omega arith)

pub ext_parts : (x y : ℤ) → pos_part x ≡ pos_part y → neg_part x ≡ neg_part y → x ≡ y
ext_parts x y p n = eq_parts x y (omega arith)
