-- Whole numbers as floats, and halves and quarters of floats, are exact where they are whole numbers of quarters below 2^53.
use mathlib.Core.Path.{◌≡◌, refl, sym, ap, ◌∙◌}
use mathlib.Core.Bool.{Bool, true, false}
use Prim.Native.Nat.{ℕ, suc, ◌*◌, ◌^◌, ◌≤◌, ◌<◌}
use native.Mathlib.Nat.{eq_of_mul-eq-mul_right, mul-pos, le-mul_of_pos_right}
use native.Mathlib.Omega.{arith}
use lib.Dec.{lit<}
use lib.Pow.{pow_pos}
use lib.IntN.{ℤ, pos, negsuc, neg_ℤ, nat_abs, ◌*ℤ◌}
use lib.Ieee.{Float, nan, inf, fin, binary64, up, down, unlike, mul, of_int}
use lib.Ieee.Fits.{down_pos}
use Rattle.integers.specs.Parts.{pos_part, neg_part}
use Rattle.integers.proofs.Parts.{scale_parts, nat_abs_parts, eq_parts, pos_part_neg, neg_part_neg}
use Rattle.integers.proofs.Linear.{eq_lin, flat, count}
use Rattle.preview.specs.Quarters.{signed}
use Rattle.preview.proofs.Exact.{Finite, Four, rounded, again}

-- ---- one part in c = 2^(i + 1), of a number that is c times another
abbrev pub part : ℕ → Float
part i = fin false 1 (negsuc i)

pub signed_part : (s : Bool) (c n : ℕ) (w : ℤ) → 0 < c → signed s n ≡ pos c *ℤ w → (n ≡ nat_abs w * c) × (signed s (nat_abs w) ≡ w)
signed_part false c n w p h =
    let q = scale_parts c w in
    let u : n ≡ c * pos_part w = ap pos_part h ∙ q.positive in
    let z : neg_part w ≡ 0 = eq_of_mul-eq-mul_right c p (neg_part w) 0 (omega (arith, ap neg_part h ∙ q.negative)) in
    let j = nat_abs_parts w in
    (omega (arith, ap (λ (i : ℕ). i * c) j, ap (λ (i : ℕ). i * c) z), eq_parts (pos (nat_abs w)) w (omega arith))
signed_part true c n w p h =
    let q = scale_parts c w in
    let u : n ≡ c * neg_part w = sym (neg_part_neg (pos n)) ∙ ap neg_part h ∙ q.negative in
    let z : pos_part w ≡ 0 = eq_of_mul-eq-mul_right c p (pos_part w) 0 (omega (arith, sym (pos_part_neg (pos n)) ∙ ap pos_part h ∙ q.positive)) in
    let j = nat_abs_parts w in
    (omega (arith, ap (λ (i : ℕ). i * c) j, ap (λ (i : ℕ). i * c) z), eq_parts (neg_ℤ (pos (nat_abs w))) w (rw (pos_part_neg, neg_part_neg) (omega arith)))

unlike_false : (s : Bool) → unlike s false ≡ s
unlike_false false = refl
unlike_false true = refl

parted : (i k : ℕ) (x : Float) (w : ℤ) → k < 2 ^ 53 → Finite k x (pos (2 ^ suc i) *ℤ w) → Four k (mul binary64 x (part i)) w
unfolding mul
parted i k nan w small h = absurd h
parted i k (inf r) w small h = absurd h
parted i k (fin s m e) w small h =
    let c = 2 ^ suc i in
    let q = signed_part s c h.size w (pow_pos (suc i)) h.number in
    let l : nat_abs w ≤ h.size = omega (arith, q.0, le-mul_of_pos_right {m = c} (nat_abs w) (pow_pos (suc i))) in
    rw (unlike_false s)
    (again (omega (arith, l, h.small)) q.1
    (rounded s (m * up e * (1 * 1)) (down e * c) (nat_abs w) (mul-pos (down_pos e) (pow_pos (suc i))) (omega (arith, l, h.small))
    (divided (m * up e) (down e) h.size (nat_abs w) c h.is q.0)))
  where
    divided : (a d n j c : ℕ) → 4 * a ≡ n * d → n ≡ j * c → 4 * (a * (1 * 1)) ≡ j * (d * c)
    divided a d n j c h q = omega (arith, ap (λ (z : ℕ). z * d) q)

module _ {k : ℕ} {x : Float} {w : ℤ} (small : k < 2 ^ 53) where
  pub half_is : Four k x (pos 2 *ℤ w) → Four k (mul binary64 x (part 0)) w
  half_is h = parted 0 k x w small h.exact

  pub quarter_is : Four k x (pos 4 *ℤ w) → Four k (mul binary64 x (part 1)) w
  quarter_is h = parted 1 k x w small h.exact

-- ---- whole numbers as floats, and back
pub int_is : {k : ℕ} (z : ℤ) → 4 * k < 2 ^ 53 → nat_abs z ≤ k → Four (4 * k) (of_int binary64 z) (pos 4 *ℤ z)
unfolding of_int
int_is (pos n) small h = again (omega arith) (eq_lin (simp flat (simp count (omega arith)))) (rounded false n 1 (4 * n) (lit< tt) (omega arith) (omega arith))
int_is (negsuc n) small h = again (omega arith) (eq_lin (simp flat (simp count (omega arith)))) (rounded true (suc n) 1 (4 * suc n) (lit< tt) (omega arith) (omega arith))
