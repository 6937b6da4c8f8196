-- Whole numbers by their natural parts, ranges that hold 0, floor division and what it leaves.
use Rattle.std.specs.Prelude.{Bool, ◌&&◌, ℕ, suc, ◌≤◌, leb, ℤ, pos, negsuc, ◌-ℤ◌, ◌*ℤ◌}
use Rattle.std.specs.Int.Signed.{shr_z}

-- z = pos_part z − neg_part z, and one of the two is 0
abbrev pub pos_part : ℤ → ℕ
pos_part (pos n) = n
pos_part (negsuc n) = 0

abbrev pub neg_part : ℤ → ℕ
neg_part (pos n) = 0
neg_part (negsuc n) = suc n

-- −below ≤ z ≤ above. Every range of this project holds 0, so two natural numbers say it.
pub record In (below above : ℕ) (z : ℤ) : Type 0 where
  pub low : neg_part z ≤ below
  pub high : pos_part z ≤ above

-- the same as a test
abbrev pub within : ℕ → ℕ → ℤ → Bool
within below above z = leb (neg_part z) below && leb (pos_part z) above

-- z / d rounded down, also below zero, for a positive d. A signed shift right by k is floor_div z (2 ^ k).
abbrev pub floor_div : ℤ → ℕ → ℤ
floor_div z d = shr_z z d

-- z modulo d, as 0 to d − 1: what floor division by d leaves of z
unfoldable pub floor_mod : ℤ → ℕ → ℤ
floor_mod z d = z -ℤ pos d *ℤ floor_div z d
