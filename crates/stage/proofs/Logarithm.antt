-- The laws of L: it is the greatest of its kind, its two bounds, which only it has, its order, and its greatest value in the table.
use mathlib.Core.Path.{◌≡◌, refl}
use Prim.Native.Nat.{ℕ, suc, ◌-◌, ◌^◌, ◌≤◌, ◌<◌}
use native.Mathlib.Nat.{lt_of_lt_of_le, lt_of_le_of_lt, lt_of_not-le, not-le_of_lt, one-le-pow, pow-le-pow_left}
use native.Mathlib.Omega.{arith}
use lib.Pow.{pow_mono}
use lib.Ieee.{size}
use lib.Ieee.Digits.{size-lt, size_reaches, size-le}
use Rattle.stage.specs.Logarithm.{L, LogarithmGreatest, LogarithmRule, LogarithmMonotone}

-- a number that is not below 2 ^ j has more than j binary digits
reached : (a j : ℕ) → 2 ^ j ≤ a → j < size a
reached a j h = lt_of_not-le (λ (g : size a ≤ j). not-le_of_lt (lt_of_lt_of_le (size-lt a) (pow_mono g)) h)

pub log_low : (n : ℕ) → 1 ≤ n → 2 ^ L n ≤ n ^ 64
unfolding L
log_low n h =
    let p : 0 < size (n ^ 64) = reached (n ^ 64) 0 (one-le-pow 64 n h) in
    size_reaches (n ^ 64) (size (n ^ 64) - 1) (omega arith)

pub log_high : (n : ℕ) → n ^ 64 < 2 ^ suc (L n)
unfolding L
log_high n = lt_of_lt_of_le (size-lt (n ^ 64)) (pow_mono (omega arith))

pub log_greatest : (n x : ℕ) → 2 ^ x ≤ n ^ 64 → x ≤ L n
unfolding L
log_greatest n x low = omega (arith, reached (n ^ 64) x low)

pub log_is : (n x : ℕ) → 2 ^ x ≤ n ^ 64 → n ^ 64 < 2 ^ suc x → x ≡ L n
unfolding L
log_is n x low high = omega (arith, log_greatest n x low, size-le (n ^ 64) (suc x) high)

pub log_is_greatest : LogarithmGreatest
log_is_greatest n h = (log_low n h, log_greatest n)

pub log_rule : LogarithmRule
log_rule n h = (record { low = log_low n h; high = log_high n }, λ x b. log_is n x b.low b.high)

pub log_monotone : LogarithmMonotone
unfolding L
log_monotone m n h = omega (arith, size-le (m ^ 64) (size (n ^ 64)) (lt_of_le_of_lt (pow-le-pow_left h 64) (size-lt (n ^ 64))))

pub log_4096 : L 4096 ≡ 768
unfolding L size
log_4096 = refl

pub log_most : (n : ℕ) → n ≤ 4096 → L n ≤ 768
log_most n h = omega (arith, log_monotone n 4096 h, log_4096)
