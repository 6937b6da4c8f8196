-- Floats compared as numbers: equal to a float of known quarters are the floats that have the same.
use mathlib.Core.Path.{◌≡◌, refl, sym, ap, ◌∙◌}
use mathlib.Core.Bool.{Bool, true, false, beq, ◌||◌}
use Prim.Native.Nat.{ℕ, ◌*◌, ◌<◌}
use native.Mathlib.Nat.{eq_of_mul-eq-mul_right}
use native.Mathlib.Omega.{arith}
use lib.Dec.{T, eqb, eqb→eq}
use lib.IntN.{ℤ, nat_abs}
use lib.Ieee.{Float, nan, inf, fin, up, down, eq}
use lib.Ieee.Fits.{down_pos, and_i, and_l, and_r, eq→eqb}
use Rattle.preview.specs.Quarters.{just, signed, four_times}
use Rattle.preview.specs.Theorems.{ComparedAsNumbers}
use Rattle.preview.proofs.Exact.{Finite, signed_size, known, four}
use Rattle.preview.proofs.Cuts.{none_below}

-- two fractions of the same number of quarters are the same
same_fraction : (a d b e n : ℕ) → 4 * a ≡ n * d → 4 * b ≡ n * e → a * e ≡ b * d
same_fraction a d b e n h j = omega (arith, ap (λ (z : ℕ). z * e) h, ap (λ (z : ℕ). z * d) j)

same_size : (s t : Bool) (n j : ℕ) {z : ℤ} → signed s n ≡ z → signed t j ≡ z → n ≡ j
same_size s t n j h g = sym (signed_size s n) ∙ ap nat_abs (h ∙ sym g) ∙ signed_size t j

-- only 0 may have either sign
nought : (n a d e : ℕ) → 4 * a ≡ n * d → n ≡ 0 → a * e ≡ 0
nought n a d e h z = let o : a ≡ 0 = omega (arith, ap (λ (i : ℕ). i * d) z) in omega (arith, ap (λ (i : ℕ). i * e) o)

signs : (s t : Bool) (n a d e : ℕ) → 4 * a ≡ n * d → signed s n ≡ signed t n → T (beq s t || eqb (a * e) 0)
signs false false n a d e h g = tt
signs true true n a d e h g = tt
signs false true n a d e h g = eq→eqb (nought n a d e h (none_below n (sym g)))
signs true false n a d e h g = eq→eqb (nought n a d e h (none_below n g))

same_equal : (k : ℕ) (x y : Float) (z : ℤ) → Finite k x z → Finite k y z → T (eq x y)
unfolding eq
same_equal k nan y z h j = absurd h
same_equal k (inf r) y z h j = absurd h
same_equal k (fin s m e) nan z h j = absurd j
same_equal k (fin s m e) (inf r) z h j = absurd j
same_equal k (fin s m e) (fin t n d) z h j =
    let q = same_size s t h.size j.size h.number j.number in
    and_i (eqb (m * up e * down d) (n * up d * down e)) (beq s t || eqb (m * up e * down d) 0)
    (eq→eqb (same_fraction (m * up e) (down e) (n * up d) (down d) h.size h.is (rw q j.is)))
    (signs s t h.size (m * up e) (down e) (down d) h.is (h.number ∙ sym (rw q j.number)))

-- the number of b / e is that of a / d, where these are the same
fraction_of : (a d b e n : ℕ) → 0 < e → a * e ≡ b * d → 4 * b ≡ n * e → 4 * a ≡ n * d
fraction_of a d b e n p h j = eq_of_mul-eq-mul_right e p (4 * a) (n * d) (omega (arith, ap (λ (z : ℕ). 4 * z) h, ap (λ (z : ℕ). z * d) j))

no_size : (n a d e : ℕ) → 0 < d → 0 < e → 4 * a ≡ n * d → a * e ≡ 0 → n ≡ 0
no_size n a d e p q h z = let o : a ≡ 0 = eq_of_mul-eq-mul_right e q a 0 (omega arith) in eq_of_mul-eq-mul_right d p n 0 (omega arith)

sign_of : (s t : Bool) (n a d e : ℕ) → 0 < d → 0 < e → 4 * a ≡ n * d → T (beq s t || eqb (a * e) 0) → signed s n ≡ signed t n
sign_of false false n a d e p q h g = refl
sign_of true true n a d e p q h g = refl
sign_of false true n a d e p q h g = rw (no_size n a d e p q h (eqb→eq (a * e) 0 g)) refl
sign_of true false n a d e p q h g = rw (no_size n a d e p q h (eqb→eq (a * e) 0 g)) refl

equal_same : (k : ℕ) (x y : Float) (z : ℤ) → T (eq x y) → Finite k y z → Finite k x z
unfolding eq
equal_same k nan nan z g j = absurd g
equal_same k nan (inf r) z g j = absurd g
equal_same k (inf s) nan z g j = absurd g
equal_same k (inf s) (inf r) z g j = absurd j
equal_same k (fin s m e) nan z g j = absurd g
equal_same k (fin s m e) (inf r) z g j = absurd g
equal_same k nan (fin t n d) z g j = absurd g
equal_same k (inf s) (fin t n d) z g j = absurd g
equal_same k (fin s m e) (fin t n d) z g j =
    let A = m * up e * down d in
    let B = n * up d * down e in
    let i = fraction_of (m * up e) (down e) (n * up d) (down d) j.size (down_pos d) (eqb→eq A B (and_l (eqb A B) (beq s t || eqb A 0) g)) j.is in
    record {
      size = j.size;
      small = j.small;
      is = i;
      number = sign_of s t j.size (m * up e) (down e) (down d) (down_pos e) (down_pos d) i (and_r (eqb A B) (beq s t || eqb A 0) g) ∙ j.number;
    }

pub compared_as_numbers : ComparedAsNumbers
compared_as_numbers x y z h =
    let j = four {k = nat_abs z} {x = y} {z = z} (omega arith) h in (
      (λ g. known (record { exact = equal_same (nat_abs z) x y z g j.exact })),
      (λ g. same_equal (nat_abs z) x y z (four {k = nat_abs z} {x = x} {z = z} (omega arith) g).exact j.exact),
    )

pub itself : (x : Float) (z : ℤ) → four_times x ≡ just z → T (eq x x)
itself x z h = (compared_as_numbers x x z h).1 h
