-- Parts of planes that are long enough.
use mathlib.Core.Path.{◌≡◌, sym}
use mathlib.Core.Bool.{true}
use mathlib.Core.List.{List}
use Prim.Native.Nat.{ℕ, ◌≤◌}
use native.Mathlib.Omega.{arith}
use lib.IntN.{ℤ}
use lib.ListN.{length, take}
use lib.Seq.{length-take-le}
use borrow.Author.Tests.{eq-eqb}
use Rattle.stage.specs.Planes.{triple}
use Rattle.stage.specs.Transform.{all_equal}

pub prefix_length : (n : ℕ) (l : List ℤ) → 2730 ≡ length l → n ≤ 2730 → n ≡ length (take n l)
prefix_length n l e h = sym (length-take-le n l (omega arith))

pub all_equal_lem : (n a b c : ℕ) → n ≡ a → n ≡ b → n ≡ c → all_equal n (triple a b c) ≡ true
all_equal_lem n a b c p q r = rw (eq-eqb a n (sym p), eq-eqb b n (sym q), eq-eqb c n (sym r))
