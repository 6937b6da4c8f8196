-- The predictor and the estimate of a plane and of a picture (01, "Estimate and search"), and the counted samples (02, request 2). w is
-- a plane's width, a its samples, t how many they are, i a sample's index, j the number of a counted sample, from 0.
use Rattle.std.specs.Prelude.{Bool, cond, ◌&&◌, List, [], ◌∷◌, ℕ, zero, suc, ◌+◌, ◌*◌, ◌-◌, ◌/◌, ◌%◌, min, ltb, eqb, ℤ, pos, ◌+ℤ◌, ◌-ℤ◌, length}
use Rattle.std.specs.Int.Signed.{le_z}
use Rattle.integers.specs.Lists.{at}
use Rattle.stage.specs.Planes.{Planes}
use Rattle.stage.specs.Logarithm.{L}

-- MED, from left a, above e and above-left c, which are 01's letters: the lesser of a and e if c is at least both, the greater if c
-- is at most both, else a + e − c
unfoldable pub med : (a e c : ℤ) → ℤ
med a e c = cond (le_z a c && le_z e c) (cond (le_z a e) a e) (cond (le_z c a && le_z c e) (cond (le_z a e) e a) (a +ℤ e -ℤ c))

-- The first row uses the left sample alone, the first column the one above alone, the first sample 0. Neighbours are always
-- those of the whole plane, counted or not.
unfoldable pub prediction : (w : ℕ) (a : List ℤ) (i : ℕ) → ℤ
prediction w a i =
    cond (ltb i w)
    (cond (eqb i 0) (pos 0) (at a (i - 1)))
    (cond (eqb (i % w) 0) (at a (i - w)) (med (at a (i - 1)) (at a (i - w)) (at a (i - w - 1))))

unfoldable pub residual : (w : ℕ) (a : List ℤ) (i : ℕ) → ℤ
residual w a i = at a i -ℤ prediction w a i

-- "N becomes exactly the lesser of t and 4,096",
unfoldable pub counted : ℕ → ℕ
counted t = min t 4096

-- "and sample i, from 0, has index i × t / N rounded down": here sample j
unfoldable pub counted_index : (t j : ℕ) → ℕ
counted_index t j = j * t / counted t

-- A histogram of the values r 0, r 1, r 2 and so on.
module _ {A : Type 0} (same : A → A → Bool) (r : ℕ → A) where
  -- how often x occurs among the first n
  unfoldable pub occurrences : (n : ℕ) (x : A) → ℕ
  occurrences zero x = 0
  occurrences (suc n) x = cond (same (r n) x) 1 0 + occurrences n x

  -- for each value that occurs among the first m, listed at its first occurrence: how often it occurs among the first n
  unfoldable pub histogram : (n m : ℕ) → List ℕ
  histogram n zero = []
  histogram n (suc m) = cond (eqb (occurrences m (r m)) 0) (occurrences n (r m) ∷ histogram n m) (histogram n m)

-- If residuals occur c1, c2, .. times: N × L(N) less the sum of c × L(c), in sixty-fourths of a bit.
unfoldable pub total : List ℕ → ℕ
total [] = 0
total (c ∷ l) = c + total l

unfoldable pub log_sum : List ℕ → ℕ
log_sum [] = 0
log_sum (c ∷ l) = c * L c + log_sum l

unfoldable pub estimate_of_counts : List ℕ → ℕ
estimate_of_counts l = total l * L (total l) - log_sum l

abbrev pub same_number : ℤ → ℤ → Bool
same_number x y = le_z x y && le_z y x

-- the residual at the j-th counted index of a plane of width w
abbrev pub counted_residual : (w : ℕ) (a : List ℤ) (j : ℕ) → ℤ
counted_residual w a j = residual w a (counted_index (length a) j)

-- how often each of a plane's counted residuals occurs
abbrev pub plane_counts : (w : ℕ) (a : List ℤ) → List ℕ
plane_counts w a = histogram same_number (counted_residual w a) (counted (length a)) (counted (length a))

unfoldable pub plane_estimate : (w : ℕ) (a : List ℤ) → ℕ
plane_estimate w a = estimate_of_counts (plane_counts w a)

-- A picture's estimate is the sum over its finished planes.
unfoldable pub picture_estimate : ℕ → Planes → ℕ
picture_estimate w p = plane_estimate w p.c1 + plane_estimate w p.c2 + plane_estimate w p.c3
