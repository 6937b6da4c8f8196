-- Logarithms in sixty-fourths of a bit (01, "Estimate and search").
use Rattle.std.specs.Prelude.{◌≡◌, List, ℕ, suc, ◌-◌, ◌^◌, ◌≤◌, ◌<◌, get_or}
use Rattle.std.specs.Float.Ieee.{size}

-- 01's L(n), for n from 1: the greatest whole number with 2 ^ L n not above n ^ 64 (`LogarithmGreatest` below says so). It is the number
-- of binary digits of n ^ 64, less one: `size` counts the binary digits of a natural number, and no float is meant.
unfoldable pub L : ℕ → ℕ
L n = size (n ^ 64) - 1

-- 01's fixed table: a list of L 1 to L 4096 in order
pub record Logarithms (t : List ℕ) : Type 0 where
  pub each : (n : ℕ) → 1 ≤ n → n ≤ 4096 → get_or t (n - 1) 0 ≡ L n

-- 01's own words: L n is the greatest x with 2 ^ x not above n ^ 64
abbrev pub LogarithmGreatest : Type 0
LogarithmGreatest = (n : ℕ) → 1 ≤ n → (2 ^ L n ≤ n ^ 64) × ((x : ℕ) → 2 ^ x ≤ n ^ 64 → x ≤ L n)

-- n ^ 64 lies from 2 ^ x to below the next power of two
pub record PowerBound (n x : ℕ) : Type 0 where
  pub low : 2 ^ x ≤ n ^ 64
  pub high : n ^ 64 < 2 ^ suc x

-- the same as bounds that a test can compute: L n has both, and no other number has
abbrev pub LogarithmRule : Type 0
LogarithmRule = (n : ℕ) → 1 ≤ n → PowerBound n (L n) × ((x : ℕ) → PowerBound n x → x ≡ L n)

-- a greater number has no lower logarithm
abbrev pub LogarithmMonotone : Type 0
LogarithmMonotone = (m n : ℕ) → m ≤ n → L m ≤ L n
