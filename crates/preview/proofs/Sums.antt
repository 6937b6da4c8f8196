-- Sums and differences of floats that are whole numbers of quarters are exact while they stay below 2^53 quarters.
use mathlib.Core.Path.{◌≡◌, refl, ap, subst, ◌∙◌}
use mathlib.Core.Bool.{Bool, true, false, cond, not, ◌&&◌}
use Prim.Native.Nat.{ℕ, ◌+◌, ◌*◌, ◌-◌, ◌^◌, ◌≤◌, ◌<◌}
use native.Mathlib.Nat.{mul-pos, le_of_mul-le-mul_right, le_of_lt}
use native.Mathlib.Omega.{arith}
use lib.Dec.{T, ltb, ltb→lt, nltb→le}
use lib.IntN.{ℤ, neg_ℤ, ◌+ℤ◌, ◌-ℤ◌}
use lib.Ieee.{Float, nan, inf, fin, binary64, up, down, round, sum, add, sub, neg}
use lib.Ieee.Fits.{down_pos}
use Rattle.integers.proofs.Linear.{eq_lin, flat, count}
use Rattle.preview.specs.Quarters.{signed}
use Rattle.preview.proofs.Exact.{Finite, Four, rounded, again}

signed_add : (s : Bool) (v w : ℕ) → signed s (v + w) ≡ signed s v +ℤ signed s w
signed_add false v w = eq_lin (simp flat (simp count (omega arith)))
signed_add true v w = eq_lin (simp flat (simp count (omega arith)))

-- a difference by the larger of two
signed_left : (s : Bool) (v w : ℕ) → w ≤ v → signed s (v - w) ≡ signed s v +ℤ signed (not s) w
signed_left false v w h = eq_lin (simp flat (simp count (omega arith)))
signed_left true v w h = eq_lin (simp flat (simp count (omega arith)))

signed_right : (s : Bool) (v w : ℕ) → v ≤ w → signed (not s) (w - v) ≡ signed s v +ℤ signed (not s) w
signed_right false v w h = eq_lin (simp flat (simp count (omega arith)))
signed_right true v w h = eq_lin (simp flat (simp count (omega arith)))

whole_of : (v w : ℕ) → w ≤ v → (v - w) + w ≡ v
whole_of v w o = omega arith

-- a / c and b / c that are v and w quarters, with their signs
module _ (a b c v w : ℕ) (p : 0 < c) (small : v + w < 2 ^ 53) (h : 4 * a ≡ v * c) (k : 4 * b ≡ w * c) where
  below : a ≤ b → v ≤ w
  below l = le_of_mul-le-mul_right {m = v} {n = w} {k = c} (omega arith) p

  above : b ≤ a → w ≤ v
  above l = le_of_mul-le-mul_right {m = w} {n = v} {k = c} (omega arith) p

  -- the difference, by the larger
  less_left : (s : Bool) → b ≤ a → Four (v + w) (round binary64 s (a - b) c) (signed s v +ℤ signed (not s) w)
  less_left s l =
      let o = above l in
      again (omega arith) (signed_left s v w o)
      (rounded s (a - b) c (v - w) p (omega arith) (omega (arith, ap (λ (z : ℕ). z * c) (whole_of v w o))))

  less_right : (s : Bool) → a ≤ b → Four (v + w) (round binary64 (not s) (b - a) c) (signed s v +ℤ signed (not s) w)
  less_right s l =
      let o = below l in
      again (omega arith) (signed_right s v w o)
      (rounded (not s) (b - a) c (w - v) p (omega arith) (omega (arith, ap (λ (z : ℕ). z * c) (whole_of w v o))))

  -- where both are the same size, the zero may have either sign
  left_or_zero : (s q : Bool) → b ≤ a → (T (not q) → a ≤ b) → Four (v + w) (round binary64 (s && q) (a - b) c) (signed s v +ℤ signed (not s) w)
  left_or_zero false q l n = less_left false l
  left_or_zero true true l n = less_left true l
  left_or_zero true false l n =
      let e : b - a ≡ a - b = omega (arith, n tt) in
      subst (λ (z : ℕ). Four (v + w) (round binary64 false z c) (signed true v +ℤ signed false w)) e (less_right true (n tt))

  by_larger : (s q q' : Bool) → (T q → a < b) → (T (not q) → b ≤ a) → (T (not q') → a ≤ b)
      → Four (v + w) (cond q (round binary64 (not s) (b - a) c) (round binary64 (s && q') (a - b) c)) (signed s v +ℤ signed (not s) w)
  by_larger s true q' y n n' = less_right s (le_of_lt (y tt))
  by_larger s false q' y n n' = left_or_zero s q' (n tt) n'

  alike : (s : Bool) → Four (v + w) (round binary64 s (a + b) c) (signed s v +ℤ signed s w)
  alike s = again (omega arith) (signed_add s v w) (rounded s (a + b) c (v + w) p small (omega arith))

  pub sum_is : (s t : Bool) → Four (v + w) (sum binary64 s a t b c) (signed s v +ℤ signed t w)
  unfolding sum
  sum_is false false = alike false
  sum_is true true = alike true
  sum_is false true = by_larger false (ltb a b) (ltb b a) (ltb→lt _ _) (nltb→le _ _) (nltb→le _ _)
  sum_is true false = by_larger true (ltb a b) (ltb b a) (ltb→lt _ _) (nltb→le _ _) (nltb→le _ _)

crossed : (M D v E : ℕ) → 4 * M ≡ v * D → 4 * (M * E) ≡ v * (D * E)
crossed M D v E h = omega (arith, ap (λ (z : ℕ). z * E) h)

crossed' : (M D v E : ℕ) → 4 * M ≡ v * D → 4 * (M * E) ≡ v * (E * D)
crossed' M D v E h = omega (arith, ap (λ (z : ℕ). z * E) h)

sum_of : (k l : ℕ) (x y : Float) (z w : ℤ) → k + l < 2 ^ 53 → Finite k x z → Finite l y w → Four (k + l) (add binary64 x y) (z +ℤ w)
unfolding add
sum_of k l nan y z w small h j = absurd h
sum_of k l (inf r) y z w small h j = absurd h
sum_of k l (fin s m e) nan z w small h j = absurd j
sum_of k l (fin s m e) (inf r) z w small h j = absurd j
sum_of k l (fin s m e) (fin t n d) z w small h j =
    again (omega (arith, h.small, j.small)) (ap (λ (u : ℤ). u +ℤ signed t j.size) h.number ∙ ap (λ (u : ℤ). z +ℤ u) j.number)
    (sum_is (m * up e * down d) (n * up d * down e) (down e * down d) h.size j.size (mul-pos (down_pos e) (down_pos d)) (omega (arith, h.small, j.small))
    (crossed (m * up e) (down e) h.size (down d) h.is)
    (crossed' (n * up d) (down d) j.size (down e) j.is)
    s t)

signed_not : (s : Bool) (n : ℕ) → signed (not s) n ≡ neg_ℤ (signed s n)
signed_not false n = refl
signed_not true n = eq_lin (simp flat (simp count (omega arith)))

negated : (k : ℕ) (x : Float) (z : ℤ) → Finite k x z → Finite k (neg x) (neg_ℤ z)
unfolding neg
negated k nan z h = absurd h
negated k (inf r) z h = absurd h
negated k (fin s m e) z h = record { size = h.size; small = h.small; is = h.is; number = signed_not s h.size ∙ ap neg_ℤ h.number }

module _ {k l : ℕ} {x y : Float} {z w : ℤ} (small : k + l < 2 ^ 53) (h : Four k x z) (j : Four l y w) where
  pub add_is : Four (k + l) (add binary64 x y) (z +ℤ w)
  add_is = sum_of k l x y z w small h.exact j.exact

  pub sub_is : Four (k + l) (sub binary64 x y) (z -ℤ w)
  unfolding sub
  sub_is = sum_of k l x (neg y) z (neg_ℤ w) small h.exact (negated l y w j.exact)
