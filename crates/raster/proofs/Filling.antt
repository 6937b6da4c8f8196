-- A plane that a loop has filled with samples.
use mathlib.Core.List.{List}
use Prim.Native.Nat.{ℕ, ◌+◌, ◌*◌}
use lib.IntN.{ℤ, pos, ◌-ℤ◌}
use lib.ListN.{get_or}

-- what number k becomes
abbrev pub sample_at : (samples : List ℕ) (step offset below : ℕ) → ℕ → ℤ → ℤ
sample_at samples step offset below k z = pos (get_or samples (step * k + offset) 0) -ℤ pos below
