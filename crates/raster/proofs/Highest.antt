-- The largest of some samples, found one by one.
use mathlib.Core.Path.{◌≡◌, refl, sym}
use mathlib.Core.Bool.{Bool, true, false, ◌||◌, true≢false}
use mathlib.Core.List.{List, [], ◌∷◌}
use Prim.Native.Nat.{ℕ, zero, suc, ◌+◌, ◌≤◌, ◌<◌, max}
use native.Mathlib.Numerals.{add-one}
use native.Mathlib.Omega.{arith}
use lib.Dec.{leb, eqb}
use lib.ListN.{length, take, get_or}
use borrow.Author.Tests.{eqb-true, le-leb}
use Rattle.stage.specs.Raster.{from_pairs, raster_samples}
use Rattle.raster.specs.Samples.{highest}

pub none_highest : highest [] ≡ 0
unfolding highest
none_highest = refl

-- the largest of the first i samples, and of one more
pub highest_more : (l : List ℕ) (i : ℕ) → i < length l → highest (take (i + 1) l) ≡ max (highest (take i l)) (get_or l i 0)
unfolding highest
highest_more [] i h = absurd (omega arith)
highest_more (n ∷ l) zero h = omega arith
highest_more (n ∷ l) (suc i) h = rw (add-one) (omega (arith, rw add-one at (highest_more l i (omega arith))))

-- bytes, and samples of two bytes each, are no higher than their highest number
pub bytes_highest : (l : List ℕ) → ((k : ℕ) → get_or l k 0 ≤ 255) → highest l ≤ 255
unfolding highest
bytes_highest [] h = omega arith
bytes_highest (b ∷ l) h = omega (arith, h 0, bytes_highest l (λ k. h (suc k)))

pub pairs_highest : (l : List ℕ) → ((k : ℕ) → get_or l k 0 ≤ 255) → highest (from_pairs l) ≤ 65535
unfolding highest from_pairs
pairs_highest [] h = omega arith
pairs_highest (a ∷ []) h = omega arith
pairs_highest (a ∷ b ∷ l) h = omega (arith, h 0, h 1, pairs_highest l (λ k. h (suc (suc k))))

-- so all are up to maxval where that is this number
pub all_highest : (m : ℕ) (l : List ℕ) → ((k : ℕ) → get_or l k 0 ≤ 255) → (eqb m 255 || eqb m 65535) ≡ true → true ≡ leb (highest (raster_samples m l)) m
all_highest m l h e = by (eqb m 255) (eqb m 65535) refl refl e
  where
    by : (a b : Bool) → eqb m 255 ≡ a → eqb m 65535 ≡ b → (a || b) ≡ true → true ≡ leb (highest (raster_samples m l)) m
    by true b f g t = let k = eqb-true m 255 f in rw k (sym (le-leb (highest l) 255 (bytes_highest l h)))
    by false true f g t = let k = eqb-true m 65535 g in rw k (sym (le-leb (highest (from_pairs l)) 65535 (pairs_highest l h)))
    by false false f g t = absurd (true≢false (sym t))
