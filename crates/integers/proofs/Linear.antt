-- Linear facts on whole numbers, with any number of terms and literal multiples. Each goal is one line:
--   eq_lin (simp flat (simp count (omega arith)))     x ≡ y
--   in_lin (simp flat (simp count (omega arith)))     In l h z
--   fits_lin (simp flat (simp count (omega arith)))   SFits w z
-- and a range of a sum, for `omega`, is `simp count at (simp flat at (lin_in h))`.
use mathlib.Core.Path.{◌≡◌, refl}
use mathlib.Core.Logic.{◌↔◌}
use Prim.Native.Nat.{ℕ, ◌+◌, ◌-◌, ◌*◌, ◌≤◌, ◌^◌}
use native.Mathlib.Omega.{arith}
use native.Mathlib.Nat.{le_refl}
use lib.Pow.{ones_lt}
use lib.IntN.{ℤ, pos, ◌+ℤ◌, ◌*ℤ◌, neg_ℤ, +ℤ_assoc, neg_ℤ-+ℤ, neg_ℤ-neg_ℤ, *ℤ_comm}
use mir.Syntax.{Width}
use mir.Val.{SFits, hbits}
use Rattle.integers.specs.Parts.{pos_part, neg_part, In}
use Rattle.integers.proofs.Parts.{add_difference, one_part, eq_parts}
use Rattle.integers.proofs.Multiples.{scaled, times_add, times_neg, times_times, right_neg, left_neg}
use Rattle.integers.proofs.Ranges.{in_fits}

-- ---- a sum as a row of multiples: rest + k x, rest − k x, and 0
pub plus_times : ℕ → ℤ → ℤ → ℤ
plus_times k x rest = (pos k *ℤ x) +ℤ rest

pub minus_times : ℕ → ℤ → ℤ → ℤ
minus_times k x rest = neg_ℤ (pos k *ℤ x) +ℤ rest

pub empty_sum : ℤ
empty_sum = pos 0

-- x − y, shut, so that `flat` always has something to open
pub minus : ℤ → ℤ → ℤ
minus x y = plus_times 1 x (minus_times 1 y empty_sum)

pub minus_is : (x y : ℤ) → minus x y ≡ plus_times 1 x (minus_times 1 y empty_sum)
unfolding minus
minus_is x y = refl

pub plus_add : (k : ℕ) (x y rest : ℤ) → plus_times k (x +ℤ y) rest ≡ plus_times k x (plus_times k y rest)
unfolding plus_times
plus_add k x y rest = rw times_add (+ℤ_assoc (pos k *ℤ x) (pos k *ℤ y) rest)

pub plus_neg : (k : ℕ) (x rest : ℤ) → plus_times k (neg_ℤ x) rest ≡ minus_times k x rest
unfolding plus_times minus_times
plus_neg k x rest = rw times_neg

pub minus_add : (k : ℕ) (x y rest : ℤ) → minus_times k (x +ℤ y) rest ≡ minus_times k x (minus_times k y rest)
unfolding minus_times
minus_add k x y rest = rw (times_add, neg_ℤ-+ℤ) (+ℤ_assoc (neg_ℤ (pos k *ℤ x)) (neg_ℤ (pos k *ℤ y)) rest)

pub minus_neg : (k : ℕ) (x rest : ℤ) → minus_times k (neg_ℤ x) rest ≡ plus_times k x rest
unfolding plus_times minus_times
minus_neg k x rest = rw (times_neg, neg_ℤ-neg_ℤ)

pub plus_right : (k m : ℕ) (x rest : ℤ) → plus_times k (x *ℤ pos m) rest ≡ plus_times (k * m) x rest
unfolding plus_times
plus_right k m x rest = rw times_times

pub minus_right : (k m : ℕ) (x rest : ℤ) → minus_times k (x *ℤ pos m) rest ≡ minus_times (k * m) x rest
unfolding minus_times
minus_right k m x rest = rw times_times

pub plus_left : (k m : ℕ) (x rest : ℤ) → plus_times k (pos m *ℤ x) rest ≡ plus_times (k * m) x rest
plus_left k m x rest = rw (*ℤ_comm (pos m) x) (plus_right k m x rest)

pub minus_left : (k m : ℕ) (x rest : ℤ) → minus_times k (pos m *ℤ x) rest ≡ minus_times (k * m) x rest
minus_left k m x rest = rw (*ℤ_comm (pos m) x) (minus_right k m x rest)

pub ruleset flat = (minus_is, plus_add, plus_neg, minus_add, minus_neg, plus_right, minus_right, plus_left, minus_left, right_neg, left_neg)

-- ---- such a row in natural numbers: rest + p − n is at least −l
pub record AtLeast (l : ℕ) (rest : ℤ) (p n : ℕ) : Type 0 where
  pub bound : neg_part rest + n ≤ pos_part rest + p + l

pub least_plus : (l k : ℕ) (x rest : ℤ) (p n : ℕ) → AtLeast l (plus_times k x rest) p n ↔ AtLeast l rest (k * pos_part x + p) (k * neg_part x + n)
unfolding plus_times
least_plus l k x rest p n =
    let e = simp scaled at (add_difference (pos k *ℤ x) rest).sum in
    ((λ b. record { bound = omega arith }), (λ b. record { bound = omega arith }))

pub least_minus : (l k : ℕ) (x rest : ℤ) (p n : ℕ) → AtLeast l (minus_times k x rest) p n ↔ AtLeast l rest (k * neg_part x + p) (k * pos_part x + n)
unfolding minus_times
least_minus l k x rest p n =
    let e = simp scaled at (add_difference (neg_ℤ (pos k *ℤ x)) rest).sum in
    ((λ b. record { bound = omega arith }), (λ b. record { bound = omega arith }))

pub least_empty : (l p n : ℕ) → AtLeast l empty_sum p n ↔ (n ≤ p + l)
unfolding empty_sum
least_empty l p n = ((λ b. omega arith), (λ b. record { bound = omega arith }))

pub ruleset count = (least_plus, least_minus, least_empty)

-- ---- the goals
pub eq_lin : {x y : ℤ} → AtLeast 0 (minus x y) 0 0 × AtLeast 0 (minus y x) 0 0 → x ≡ y
unfolding minus
eq_lin {x} {y} b = let p = simp count at b.0 in let q = simp count at b.1 in eq_parts x y (omega arith)

pub in_lin : {l h : ℕ} {z : ℤ} → AtLeast l (minus z (pos 0)) 0 0 × AtLeast h (minus (pos 0) z) 0 0 → In l h z
unfolding minus
in_lin {l} {h} {z} b =
    let p = simp count at b.0 in
    let q = simp count at b.1 in
    let o = one_part z in
    omega arith

pub fits_lin : {w : Width} {z : ℤ} → AtLeast (2 ^ hbits w) (minus z (pos 0)) 0 0 × AtLeast (2 ^ hbits w - 1) (minus (pos 0) z) 0 0 → SFits w z
fits_lin {w} {z} b = let i : In (2 ^ hbits w) (2 ^ hbits w - 1) z = in_lin b in in_fits i (le_refl _) (ones_lt (hbits w))

-- ---- hypotheses
pub lin_in : {l h : ℕ} {z : ℤ} → In l h z → AtLeast l (minus z (pos 0)) 0 0 × AtLeast h (minus (pos 0) z) 0 0
unfolding minus
lin_in {l} {h} {z} x = simp count (omega arith)
