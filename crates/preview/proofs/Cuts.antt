-- A 16-bit whole number stands in the lowest bits of its float once 2^52 is added to that.
use mathlib.Core.Path.{◌≡◌, refl, sym, ap, subst, ◌∙◌}
use mathlib.Core.Bool.{Bool, true, false, cond, not, beq, ◌&&◌}
use Prim.Native.Nat.{ℕ, zero, suc, ◌+◌, ◌*◌, ◌-◌, ◌/◌, ◌%◌, ◌^◌, ◌≤◌, ◌<◌, compare}
use native.Mathlib.Nat.{eq_of_mul-eq-mul_right, mul-le-mul_right, mul-div_cancel, lt_of_lt_of_le, lt_irrefl}
use native.Mathlib.Omega.{arith}
use lib.Dec.{T, leb, leb→le, nleb→lt, ltb, lt→ltb, lit<, lit≤}
use lib.Pow.{pow_pos, pow-add, pow_mono, shl_lt}
use lib.IntN.{ℤ, pos, neg_ℤ, ◌*ℤ◌}
use lib.Ieee.{Float, nan, inf, fin, binary64, up, down, size, nearest, odd, units, round, sum, add, eq, is_nan, to_bits, top}
use lib.Ieee.Exact.{HasValue, round_exact}
use lib.Ieee.Digits.{size-lt, size-le}
use lib.Ieee.Fits.{down_pos}
use Rattle.integers.specs.Parts.{pos_part}
use Rattle.integers.proofs.Parts.{pos_part_neg}
use Rattle.preview.specs.Quarters.{signed}
use Rattle.preview.proofs.Exact.{Whole, Finite, Four}
use Rattle.preview.proofs.Fractions.{signed_part}

-- ---- the bits of a number of 2^52 to 2^53 − 1
-- it has 53 digits, and j more where it is shifted by j
size_shifted : (q j : ℕ) → 2 ^ 52 ≤ q → q < 2 ^ 53 → size (q * 2 ^ j) ≡ 53 + j
size_shifted q j l h =
    let most = size-le (q * 2 ^ j) (53 + j) (shl_lt 53 j h) in
    least (size (q * 2 ^ j)) most (size-lt (q * 2 ^ j))
  where
    least : (k : ℕ) → k ≤ 53 + j → q * 2 ^ j < 2 ^ k → k ≡ 53 + j
    least k m g = at_most (leb k (52 + j)) (leb→le k (52 + j)) (nleb→lt k (52 + j))
      where
        at_most : (b : Bool) → (T b → k ≤ 52 + j) → (T (not b) → 52 + j < k) → k ≡ 53 + j
        at_most true y n =
            absurd (lt_irrefl (q * 2 ^ j) (lt_of_lt_of_le (lt_of_lt_of_le g (pow_mono (y tt))) (subst (λ (x : ℕ). x ≤ q * 2 ^ j) (sym (pow-add 2 52 j)) (mul-le-mul_right (2 ^ j) l))))
        at_most false y n = omega (arith, n tt)

abbrev bits : Bool → ℕ → ℕ
bits s n = cond s (top binary64) 0 + (size n - 53) * 2 ^ 52 + n / 2 ^ (size n - 53)

bits_shifted : (q j : ℕ) → 2 ^ 52 ≤ q → q < 2 ^ 53 → bits false (q * 2 ^ j) ≡ j * 2 ^ 52 + q
bits_shifted q j l h =
    let e : size (q * 2 ^ j) - 53 ≡ j = omega (arith, size_shifted q j l h) in
    rw (e, mul-div_cancel q (pow_pos j)) (omega arith)

bits_are : (s : Bool) (m : ℕ) (e : ℤ) → to_bits binary64 (fin s m e) ≡ bits s (m * up e * 2 ^ 1074 / down e)
unfolding to_bits
bits_are s m e = refl

scaled : (p a d q : ℕ) → a ≡ q * d → a * p ≡ q * p * d
scaled p a d q h = omega (arith, ap (λ (z : ℕ). z * p) h)

once : (a p : ℕ) → a * p ≡ a * 1 * p
once a p = omega arith

-- a float that is q has q in its lowest 53 bits, but for the highest of them
value_bits : (x : Float) (q : ℕ) → 2 ^ 52 ≤ q → q < 2 ^ 53 → HasValue x false q 1 → to_bits binary64 x ≡ 1074 * 2 ^ 52 + q
value_bits nan q l h w = absurd w
value_bits (inf r) q l h w = absurd w
value_bits (fin s m e) q l h w =
    let v = scaled (2 ^ 1074) (m * up e * 1) (down e) q w.1 in
    bits_are s m e
    ∙ ap (λ (z : ℕ). bits s (z / down e)) (once (m * up e) (2 ^ 1074) ∙ v)
    ∙ ap (bits s) (mul-div_cancel (q * 2 ^ 1074) (down_pos e))
    ∙ ap (λ (t : Bool). bits t (q * 2 ^ 1074)) w.0
    ∙ bits_shifted q 1074 l h

-- ---- 2^52 added
-- q, as the fraction q × d / d, is not rounded
unit : (x : Float) (a d q : ℕ) → 0 < d → a ≡ q * d → HasValue x false a d → HasValue x false q 1
unit nan a d q p h w = absurd w
unit (inf r) a d q p h w = absurd w
unit (fin s m e) a d q p h w =
    (w.0, eq_of_mul-eq-mul_right d p (m * up e * 1) (q * down e) (omega (arith, w.1, ap (λ (z : ℕ). z * down e) h)))

exact : (a d q : ℕ) → 0 < d → q < 2 ^ 53 → a ≡ q * d → HasValue (round binary64 false a d) false q 1
exact a d q p small h =
    unit (round binary64 false a d) a d q p h
    (round_exact binary64 false a d q 1074 p small
    (lt_of_lt_of_le (shl_lt 53 1074 small) (lit≤ {m = 2 ^ 1127} {n = 2 ^ 2098} tt))
    (scaled (2 ^ 1074) a d q h))

abbrev pub high : Float
high = fin false 1 (pos 52)

of_number : (k n : ℕ) (s : Bool) (a d : ℕ) → Whole k s a d (pos 4 *ℤ pos n) → (a ≡ n * d) × (signed s n ≡ pos n)
of_number k n s a d h =
    let q = signed_part s 4 h.size (pos n) (lit< tt) h.number in
    (omega (arith, h.is, ap (λ (z : ℕ). z * d) q.0), q.1)

pub none_below : (n : ℕ) → neg_ℤ (pos n) ≡ pos n → n ≡ 0
none_below n h = sym (ap pos_part h) ∙ pos_part_neg (pos n)

chosen : (b : Bool) (x y : Float) (q : ℕ) → T b → HasValue x false q 1 → HasValue (cond b x y) false q 1
chosen true x y q t h = h
chosen false x y q t h = absurd t

module _ (k n : ℕ) (l : n < 65536) where
  added : (x : Float) → Finite k x (pos 4 *ℤ pos n) → HasValue (add binary64 x high) false (2 ^ 52 + n) 1
  unfolding add sum
  added nan h = absurd h
  added (inf r) h = absurd h
  added (fin false m e) h =
      let q = (of_number k n false (m * up e) (down e) h).0 in
      exact (m * up e * 1 + 1 * 2 ^ 52 * down e) (down e * 1) (2 ^ 52 + n) (omega (arith, down_pos e)) (omega arith) (omega (arith, q))
  added (fin true m e) h =
      let q = of_number k n true (m * up e) (down e) h in
      let z = none_below n q.1 in
      let o : m * up e ≡ 0 = omega (arith, q.0, ap (λ (i : ℕ). i * down e) z) in
      chosen (ltb (m * up e * 1) (1 * 2 ^ 52 * down e)) _ _ (2 ^ 52 + n)
      (lt→ltb (m * up e * 1) (1 * 2 ^ 52 * down e) (omega (arith, o, down_pos e)))
      (exact (1 * 2 ^ 52 * down e - m * up e * 1) (down e * 1) (2 ^ 52 + n) (omega (arith, down_pos e)) (omega arith) (omega (arith, o, z)))

pub low_bits : {k n : ℕ} {x : Float} → n < 65536 → Four k x (pos 4 *ℤ pos n) → to_bits binary64 (add binary64 x high) % 65536 ≡ n
low_bits {k} {n} {x} l h =
    ap (λ (b : ℕ). b % 65536) (value_bits (add binary64 x high) (2 ^ 52 + n) (omega arith) (omega arith) (added k n l x h.exact))
    ∙ omega arith

-- ---- only what is not a number stays so
odd_number : (d : ℕ) (s : Bool) (q k l : ℕ) → T (not (is_nan (odd d s q k l)))
unfolding odd is_nan
odd_number d s zero k l = tt
odd_number d s (suc q) k l = tt

pick_number : (b : Bool) (x y : Float) → T (not (is_nan x)) → T (not (is_nan y)) → T (not (is_nan (cond b x y)))
pick_number true x y h g = h
pick_number false x y h g = g

units_number : (s : Bool) (q k : ℕ) → T (not (is_nan (units binary64 s q k)))
unfolding units is_nan
units_number s q k = pick_number (ltb (q * 2 ^ k) (2 ^ 2098)) (odd 54 s q k 1074) (inf s) (odd_number 54 s q k 1074) tt

round_number : (s : Bool) (a d : ℕ) → T (not (is_nan (round binary64 s a d)))
unfolding round
round_number s a d =
    let n = a * 2 ^ 1074 in
    let k = size (n / d) - 53 in
    let u = d * 2 ^ k in
    units_number s (nearest (n / u) (compare (n % u * 2) u)) k

sum_of_numbers : (s t : Bool) (a b c : ℕ) → T (not (is_nan (sum binary64 s a t b c)))
unfolding sum
sum_of_numbers s t a b c =
    pick_number (beq s t) (round binary64 s (a + b) c) (cond (ltb a b) (round binary64 t (b - a) c) (round binary64 (s && ltb b a) (a - b) c)) (round_number s (a + b) c)
    (pick_number (ltb a b) (round binary64 t (b - a) c) (round binary64 (s && ltb b a) (a - b) c) (round_number t (b - a) c) (round_number (s && ltb b a) (a - b) c))

pub sum_number : (x : Float) → T (eq x x) → T (not (is_nan (add binary64 x high)))
unfolding add eq is_nan
sum_number nan h = absurd h
sum_number (inf s) h = tt
sum_number (fin s m e) h = sum_of_numbers s false (m * up e * 1) (1 * 2 ^ 52 * down e) (down e * 1)
