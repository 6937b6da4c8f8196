-- Lists of whole numbers by index: a plane's samples, row by row.
use Rattle.std.specs.Prelude.{◌≡◌, Bool, true, ◌&&◌, List, [], ◌∷◌, ℕ, suc, ◌<◌, ◌≤◌, ℤ, pos, length, get_or}
use Rattle.integers.specs.Parts.{In, within}

-- the number at index k, and 0 past the end
abbrev pub at : List ℤ → ℕ → ℤ
at l k = get_or l k (pos 0)

-- every number lies in −below .. above; past the end too, where `at` is 0
pub record AllIn (below above : ℕ) (l : List ℤ) : Type 0 where
  pub each : (k : ℕ) → In below above (at l k)

-- the same as a test
unfoldable pub all_within : ℕ → ℕ → List ℤ → Bool
all_within below above [] = true
all_within below above (z ∷ l) = within below above z && all_within below above l

-- each number z, at index i, becomes f i z; the first index is the number given
abbrev pub map_indexed : (ℕ → ℤ → ℤ) → ℕ → List ℤ → List ℤ
map_indexed f i [] = []
map_indexed f i (z ∷ l) = f i z ∷ map_indexed f (suc i) l

-- What a loop has done: the numbers at indices i to j − 1 are f k z for the z that stood there, all others are as before.
pub record Changed (f : ℕ → ℤ → ℤ) (i j : ℕ) (before after : List ℤ) : Type 0 where
  pub long : length after ≡ length before
  pub new : (k : ℕ) → i ≤ k → k < j → at after k ≡ f k (at before k)
  pub low : (k : ℕ) → k < i → at after k ≡ at before k
  pub high : (k : ℕ) → j ≤ k → at after k ≡ at before k
