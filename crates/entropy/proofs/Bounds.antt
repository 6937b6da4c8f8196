-- A residual that occurs c times among n takes L n − L c, which differs by less than 1 from 64 × log(n / c). Such differences add up: over
-- the residuals of a plane, and over planes.
use mathlib.Core.Path.{◌≡◌, refl, sym}
use mathlib.Core.List.{List, [], ◌∷◌}
use Prim.Native.Nat.{ℕ, zero, suc, ◌+◌, ◌*◌, ◌-◌, ◌^◌, ◌≤◌, ◌<◌}
use native.Mathlib.Omega.{arith}
use native.Mathlib.Nat.{le_refl, le_of_lt, lt_of_lt_of_le, lt_of_le_of_lt, zero-add, add-zero, zero-mul, one-mul, mul-one, mul_assoc, mul-add, mul-mul-mul_comm, mul-le-mul_left, mul-lt-mul_of_pos_left, mul-lt-mul_of_pos_right, pow-zero, pow-suc, pow-succ'}
use lib.Pow.{pow_pos, pow-add}
use Rattle.stage.specs.Logarithm.{L}
use Rattle.stage.specs.Estimate.{total, log_sum, estimate_of_counts}
use Rattle.stage.proofs.Logarithm.{log_low, log_high, log_monotone}
use Rattle.stage.proofs.Histogram.{log_sum_bound}
use Rattle.entropy.specs.Entropy.{product, NearEntropy, CountsNear}

-- ---- one residual, by the two bounds of each logarithm
near_one : (n c : ℕ) → 1 ≤ c → c ≤ n → NearEntropy 1 n c (L n - L c)
near_one n c h k =
    let less : L c ≤ L n = log_monotone c n k in
    let up : L n - L c + suc (L c) ≡ 1 + L n = omega arith in
    let down : L n - L c + 1 + L c ≡ suc (L n) = omega arith in
    let high : 2 ^ (L n - L c) * c ^ 64 < 2 ^ 1 * 2 ^ L n =
    rw (← pow-add 2 1 (L n), ← up, pow-add 2 (L n - L c) (suc (L c))) (mul-lt-mul_of_pos_left (log_high c) (pow_pos (L n - L c))) in
    let low : n ^ 64 < 2 ^ (L n - L c + 1) * 2 ^ L c = rw (← pow-add 2 (L n - L c + 1) (L c), down) (log_high n) in
    record {
      high = lt_of_lt_of_le high (mul-le-mul_left (2 ^ 1) (log_low n (omega arith)));
      low = lt_of_lt_of_le low (mul-le-mul_left (2 ^ (L n - L c + 1)) (log_low c h));
    }

-- ---- the sum: each side of an inequality is a product
mul-pow : (a b k : ℕ) → (a * b) ^ k ≡ a ^ k * b ^ k
mul-pow a b zero = rw (pow-zero (a * b), pow-zero a, pow-zero b)
mul-pow a b (suc k) = rw (pow-suc (a * b) k, pow-suc a k, pow-suc b k, mul-pow a b k) (mul-mul-mul_comm (a ^ k) (b ^ k) a b)

mul_lt_mul : {a b c d : ℕ} → a < b → c < d → a * c < b * d
mul_lt_mul {a} {b} {c} {d} h k = lt_of_le_of_lt (mul-le-mul_left a (le_of_lt k)) (mul-lt-mul_of_pos_right h (omega arith))

estimate_side : (e f p q : ℕ) → 2 ^ (e + f) * (p * q) ^ 64 ≡ 2 ^ e * p ^ 64 * (2 ^ f * q ^ 64)
estimate_side e f p q = rw (pow-add 2 e f, mul-pow p q 64) (mul-mul-mul_comm (2 ^ e) (2 ^ f) (p ^ 64) (q ^ 64))

entropy_side : (m k n : ℕ) → n ^ (64 * (m + k)) ≡ n ^ (64 * m) * n ^ (64 * k)
entropy_side m k n = rw (mul-add 64 m k) (pow-add n (64 * m) (64 * k))

pub near_both : {m k n p q e f : ℕ} → NearEntropy m n p e → NearEntropy k n q f → NearEntropy (m + k) n (p * q) (e + f)
near_both {m} {k} {n} {p} {q} {e} {f} x y =
    let bound : 2 ^ (m + k) * n ^ (64 * (m + k)) ≡ 2 ^ m * n ^ (64 * m) * (2 ^ k * n ^ (64 * k)) =
    rw (pow-add 2 m k, entropy_side m k n) (mul-mul-mul_comm (2 ^ m) (2 ^ k) (n ^ (64 * m)) (n ^ (64 * k))) in
    let sum : e + f + (m + k) ≡ e + m + (f + k) = omega arith in
    record {
      high = rw (estimate_side e f p q, bound) (mul_lt_mul x.high y.high);
      low = rw (sum, estimate_side (e + m) (f + k) p q, entropy_side m k n) (mul_lt_mul x.low y.low);
    }

-- the same numbers, otherwise written
pub near_as : {m k n p q e f : ℕ} → m ≡ k → p ≡ q → e ≡ f → NearEntropy m n p e → NearEntropy k n q f
near_as a b c x = rw (a, b, c) at x

-- ---- the residuals of counts that add up to at most n
module _ (n : ℕ) where
  -- k more, of one that occurs c times
  near_more : {m p e : ℕ} (c k : ℕ) → k ≤ c → c ≤ n → NearEntropy m n p e → NearEntropy (m + k) n (p * c ^ k) (e + k * (L n - L c))
  near_more c zero h l x = simp (pow-zero, mul-one, zero-mul, add-zero) x
  near_more {p} c (suc k) h l x =
      near_as (omega arith) (rw (pow-suc c k) (mul_assoc p (c ^ k) c)) (omega arith) (near_both (near_more c k (omega arith) l x) (near_one n c (omega arith) l))

  split : (c : ℕ) → c ≤ n → c * (L n - L c) + c * L c ≡ c * L n
  split c h = let less : L n - L c + L c ≡ L n = omega (arith, log_monotone c n h) in rw (← mul-add c (L n - L c) (L c), less)

  -- those of more counts
  near_all : {m p d : ℕ} (l : List ℕ) (e : ℕ) → total l ≤ n → e + log_sum l ≡ d + total l * L n → NearEntropy m n p d
      → NearEntropy (m + total l) n (p * product l) e
  unfolding total log_sum product
  near_all {d} [] e h s x = let same : e ≡ d = omega arith in rw same (simp (mul-one, add-zero) x)
  near_all {m = m} {p = p} {d = d} (c ∷ l) e h s x =
      let k : c ≤ n = omega arith in
      let rest : e + log_sum l ≡ d + c * (L n - L c) + total l * L n = omega (arith, split c k) in
      near_as (omega arith) (mul_assoc p (c ^ c) (product l)) refl (near_all {m = m + c} {p = p * c ^ c} {d = d + c * (L n - L c)} l e (omega arith) rest (near_more c c (le_refl c) k x))

  -- the first residual, the others of its count, and the other counts
  near_some : (l : List ℕ) (e : ℕ) → total l ≤ n → 1 ≤ total l → e + log_sum l ≡ total l * L n → NearEntropy (total l) n (product l) e
  unfolding total log_sum product
  near_some [] e h k s = absurd (omega arith)
  near_some (zero ∷ l) e h k s = simp (pow-zero, one-mul, zero-add) (near_some l e (omega arith) (omega arith) (omega arith))
  near_some (suc c ∷ l) e h k s =
      let i : suc c ≤ n = omega arith in
      let first : NearEntropy (suc c) n (suc c ^ suc c) (suc c * (L n - L (suc c))) =
      near_as (omega arith) (sym (pow-succ' (suc c) c)) (omega arith) (near_more (suc c) c (omega arith) i (near_one n (suc c) (omega arith) i)) in
      near_all l e (omega arith) (omega (arith, split (suc c) i)) first

pub counts_near : CountsNear
unfolding estimate_of_counts
counts_near l h = near_some (total l) l (estimate_of_counts l) (le_refl (total l)) h (omega (arith, log_sum_bound l))
