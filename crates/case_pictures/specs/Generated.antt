-- The generator of pictures.
use Rattle.std.specs.Prelude.{List, ◌≡◌, ℕ, zero, suc, ◌+◌, ◌*◌, ◌/◌, ◌%◌, ℤ, pos, length}
use Rattle.integers.specs.Lists.{map_indexed}

-- the generator's next number, modulo 2^32
abbrev pub next : ℕ → ℕ
next x = (x * 1664525 + 1013904223) % 4294967296

-- its number after n steps
unfoldable pub after : ℕ → ℕ → ℕ
after zero x = x
after (suc n) x = next (after n x)

-- the sample that a number gives
abbrev pub sample : ℕ → ℕ → ℤ
sample levels x = pos (x / 65536 % levels)

-- a plane's samples: that of index k from the number after k + 1 steps
abbrev pub generated : ℕ → ℕ → List ℤ → List ℤ
generated levels x plane = map_indexed (λ k z. sample levels (after (k + 1) x)) 0 plane

-- a plane that was filled from the number x on, and the generator's number behind it
pub record Filled (levels x : ℕ) (before plane : List ℤ) (r : ℕ) : Type 0 where
  pub number_is : r ≡ after (length before) x
  pub plane_is : plane ≡ generated levels x before
