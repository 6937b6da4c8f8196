-- Floats that are whole numbers of quarters: what four times a float is, and that such a number below 2^53 quarters is not rounded.
use mathlib.Core.Path.{◌≡◌, refl, sym, ap, ◌∙◌}
use mathlib.Core.Bool.{Bool, true, false, cond}
use Prim.Native.Nat.{ℕ, ◌*◌, ◌/◌, ◌%◌, ◌^◌, ◌≤◌, ◌<◌}
use native.Mathlib.Nat.{mul-lt-mul_of_pos_right, lt_of_lt_of_le, mul-div_cancel, mul-mod_left, eq_of_mul-eq-mul_right, div-add-mod'}
use native.Mathlib.Omega.{arith}
use lib.Dec.{T, eqb, eqb→eq, lit≤}
use lib.Pow.{pow_pos}
use lib.IntN.{ℤ, pos, neg_ℤ, nat_abs}
use lib.Ieee.{Float, nan, inf, fin, binary64, up, down, round}
use lib.Ieee.Exact.{HasValue, round_exact}
use lib.Ieee.Fits.{down_pos}
use Rattle.integers.proofs.Parts.{nat_abs_parts, pos_part_neg, neg_part_neg}
use Rattle.preview.specs.Quarters.{just, nothing, signed, four_times}

-- four times the fraction a / d, with the sign s, is the whole number z, and at most k in size
pub record Whole (k : ℕ) (s : Bool) (a d : ℕ) (z : ℤ) : Type 0 where
  pub size : ℕ
  pub small : size ≤ k
  pub is : 4 * a ≡ size * d
  pub number : signed s size ≡ z

abbrev pub Finite : ℕ → Float → ℤ → Type 0
Finite k (fin s m e) z = Whole k s (m * up e) (down e) z
Finite k nan z = ⊥
Finite k (inf s) z = ⊥

-- four times a float is z, and at most k in size
pub record Four (k : ℕ) (x : Float) (z : ℤ) : Type 0 where
  pub exact : Finite k x z

-- ---- rounding
of_value : (s : Bool) (x : Float) (a d n : ℕ) → 0 < d → 4 * a ≡ n * d → HasValue x s a d → Four n x (signed s n)
of_value s nan a d n p h w = absurd w
of_value s (inf r) a d n p h w = absurd w
of_value s (fin t m e) a d n p h w =
    record {
      exact =
          record {
            size = n;
            small = omega arith;
            is = eq_of_mul-eq-mul_right d p (4 * (m * up e)) (n * down e) (omega (arith, ap (λ (k : ℕ). 4 * k) w.1, ap (λ (k : ℕ). k * down e) h));
            number = ap (λ (q : Bool). signed q n) w.0;
          };
    }

scaled : (p a d n : ℕ) → 4 * a ≡ n * d → a * (4 * p) ≡ n * p * d
scaled p a d n h = omega (arith, ap (λ (k : ℕ). k * p) h)

-- a / d that is n quarters rounds to n quarters
pub rounded : (s : Bool) (a d n : ℕ) → 0 < d → n < 2 ^ 53 → 4 * a ≡ n * d → Four n (round binary64 s a d) (signed s n)
rounded s a d n p small h =
    of_value s (round binary64 s a d) a d n p h
    (round_exact binary64 s a d n 1072 p small
    (lt_of_lt_of_le (mul-lt-mul_of_pos_right small (pow_pos 1072)) (lit≤ {m = 2 ^ 53 * 2 ^ 1072} {n = 2 ^ 2098} tt))
    (scaled (2 ^ 1072) a d n h))

-- the same number, with a wider bound
wider : (k l : ℕ) (x : Float) (y z : ℤ) → k ≤ l → y ≡ z → Finite k x y → Finite l x z
wider k l nan y z le q w = absurd w
wider k l (inf r) y z le q w = absurd w
wider k l (fin s m e) y z le q w = record { size = w.size; small = omega (arith, w.small); is = w.is; number = w.number ∙ q }

pub again : {k l : ℕ} {x : Float} {y z : ℤ} → k ≤ l → y ≡ z → Four k x y → Four l x z
again {k} {l} {x} {y} {z} le q w = record { exact = wider k l x y z le q w.exact }

-- ---- the number that a float is
made : (k : ℕ) (x : Float) (z : ℤ) → Finite k x z → four_times x ≡ just z
unfolding four_times
made k nan z h = absurd h
made k (inf r) z h = absurd h
made k (fin s m e) z h =
    rw (h.is, mul-mod_left h.size (down e), mul-div_cancel h.size (down_pos e)) (ap just h.number)

pub known : {k : ℕ} {x : Float} {z : ℤ} → Four k x z → four_times x ≡ just z
known {k} {x} {z} h = made k x z h.exact

pub signed_size : (s : Bool) (n : ℕ) → nat_abs (signed s n) ≡ n
signed_size false n = refl
signed_size true n = rw (nat_abs_parts (neg_ℤ (pos n)), pos_part_neg, neg_part_neg) (omega arith)

chosen : {A : Type 0} (q : Bool) (a b : A) → cond q (just a) nothing ≡ just b → T q × (a ≡ b)
chosen true a b h = (tt, cc)
chosen false a b h = let z : ◌≡◌ {A = ℕ} 0 1 = cc in absurd (omega arith)

read : (k : ℕ) (x : Float) (z : ℤ) → nat_abs z ≤ k → four_times x ≡ just z → Finite k x z
unfolding four_times
read k nan z l h = let z : ◌≡◌ {A = ℕ} 0 1 = cc in absurd (omega arith)
read k (inf s) z l h = let z : ◌≡◌ {A = ℕ} 0 1 = cc in absurd (omega arith)
read k (fin s m e) z l h =
    let a = 4 * (m * up e) in
    let n = a / down e in
    let c = chosen (eqb (a % down e) 0) (signed s n) z h in
    let r = eqb→eq (a % down e) 0 c.0 in
    record {
      size = n;
      small = omega (arith, l, sym (signed_size s n) ∙ ap nat_abs c.1);
      is = omega (arith, r, div-add-mod' a (down e));
      number = c.1;
    }

pub four : {k : ℕ} {x : Float} {z : ℤ} → nat_abs z ≤ k → four_times x ≡ just z → Four k x z
four {k} {x} {z} l h = record { exact = read k x z l h }
