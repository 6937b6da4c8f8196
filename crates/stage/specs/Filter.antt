-- The 13 filters (01, "Filters"). w and h are the picture's width and height, f is a filter's number, a a plane's samples, i a
-- sample's index, and k a position of the 3 × 3 window.
use Rattle.std.specs.Prelude.{Bool, cond, ◌&&◌, List, [], ◌∷◌, ℕ, zero, suc, ◌+◌, ◌*◌, ◌-◌, ◌/◌, ◌%◌, leb, eqb, ℤ, pos, ◌+ℤ◌, ◌*ℤ◌, get_or}
use Rattle.integers.specs.Parts.{floor_div}
use Rattle.integers.specs.Lists.{at}

-- Position k of the 3 × 3 window around the sample at index i: its row and column, both counted from 1. Position 4 is the centre.
abbrev pub window_row : (w i k : ℕ) → ℕ
window_row w i k = i / w + k / 3

abbrev pub window_column : (w i k : ℕ) → ℕ
window_column w i k = i % w + k % 3

-- At a border only positions inside the picture count.
abbrev pub inside : (w h i k : ℕ) → Bool
inside w h i k = leb 1 (window_row w i k) && leb (window_row w i k) h && leb 1 (window_column w i k) && leb (window_column w i k) w

-- the sample at that position
abbrev pub window_index : (w i k : ℕ) → ℕ
window_index w i k = (window_row w i k - 1) * w + (window_column w i k - 1)

abbrev pub window_sample : (w : ℕ) (a : List ℤ) (i k : ℕ) → ℤ
window_sample w a i k = at a (window_index w i k)

-- its weight: the centre has the filter's, each neighbour 1
abbrev pub weight : (w h centre i k : ℕ) → ℕ
weight w h centre i k = cond (inside w h i k) (cond (eqb k 4) centre 1) 0

-- W, the sum of the weights present, and S, the weighted sum, over the first n positions: f k is the weight at position k, g k the
-- sample there
abbrev pub weight_sum : (ℕ → ℕ) → ℕ → ℕ
weight_sum f zero = 0
weight_sum f (suc n) = weight_sum f n + f n

abbrev pub weighted_sum : (ℕ → ℕ) → (ℕ → ℤ) → ℕ → ℤ
weighted_sum f g zero = pos 0
weighted_sum f g (suc n) = weighted_sum f g n +ℤ pos (f n) *ℤ g n

-- 2 × S + W, the sum "doubled and rounded" (02, request 3), and (2 × S + W) / (2 × W) rounded down, also below zero
abbrev pub rounded_sum : (S : ℤ) (W : ℕ) → ℤ
rounded_sum s n = pos 2 *ℤ s +ℤ pos n

abbrev pub rounded_mean : (S : ℤ) (W : ℕ) → ℤ
rounded_mean s n = floor_div (rounded_sum s n) (2 * n)

-- the weighted mean of the window, for a centre weight
unfoldable pub mean : (w h centre : ℕ) (a : List ℤ) (i : ℕ) → ℤ
mean w h centre a i = rounded_mean (weighted_sum (weight w h centre i) (window_sample w a i) 9) (weight_sum (weight w h centre i) 9)

-- the centre weights of filters 1 to 11, in order: indexed by filter number less one
abbrev pub centre_weights : List ℕ
centre_weights = 1 ∷ 2 ∷ 4 ∷ 8 ∷ 16 ∷ 32 ∷ 64 ∷ 128 ∷ 256 ∷ 512 ∷ 1024 ∷ []

-- Filter 0 gives the sample itself, filters 1 to 11 the weighted mean, filter 12, null, gives 0.
unfoldable pub filtered : (w h f : ℕ) (a : List ℤ) (i : ℕ) → ℤ
filtered w h f a i = cond (eqb f 0) (at a i) (cond (eqb f 12) (pos 0) (mean w h (get_or centre_weights (f - 1) 0) a i))
