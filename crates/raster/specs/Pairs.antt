-- Samples of two bytes: the laws that loops over samples of any width ask of them.
use Rattle.std.specs.Prelude.{◌≡◌, List, [], ◌∷◌, ◌++◌, ℕ, ◌+◌, ◌*◌, ◌≤◌, length, refl}
use Rattle.std.proofs.Common.{arith}
use Rattle.stage.specs.Raster.{from_pairs, to_pairs}

-- a byte that is left over is no sample
pub record PairsLong (l : List ℕ) : Type 0 where
  pub least : 2 * length (from_pairs l) ≤ length l
  pub most : length l ≤ 2 * length (from_pairs l) + 1

pub pairs_long : (l : List ℕ) → PairsLong l
unfolding from_pairs
pairs_long [] = record { least = omega arith; most = omega arith }
pairs_long (a ∷ []) = record { least = omega arith; most = omega arith }
pairs_long (a ∷ b ∷ l) = let p = pairs_long l in record { least = omega arith; most = omega arith }

pub pairs_few : (l : List ℕ) → length (from_pairs l) ≤ length l
pairs_few l = omega (arith, pairs_long l)

pub pairs_each : (n : ℕ) (l : List ℕ) → to_pairs (n ∷ l) ≡ to_pairs (n ∷ []) ++ to_pairs l
unfolding to_pairs
pairs_each n l = refl

pub no_pairs : to_pairs [] ≡ []
unfolding to_pairs
no_pairs = refl
