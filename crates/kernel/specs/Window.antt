-- The window's sums and the mean as the code forms them.
use Rattle.std.specs.Prelude.{Bool, true, false, ◌≡◌, ℕ, ◌+◌, ◌-◌, ◌*◌, ◌≤◌, List, length, ℤ, pos, ◌+ℤ◌, ◌*ℤ◌}
use Rattle.integers.specs.Parts.{In}
use Rattle.integers.specs.Lists.{at, AllIn}
use Rattle.stage.specs.Filter.{rounded_mean}
use Rattle.kernel.specs.Centre.{CentreWeight}
use Rattle.kernel.specs.declared.centre.Centre.{Centre}
use Rattle.kernel.specs.declared.window.Border.{Border}

-- The windows of indices i to j − 1 lie in a plane of width w and n samples: left, right, above and below are 1 where there is such a
-- column or row, and else 0.
pub record WindowsIn (w left right above below i j n : ℕ) : Type 0 where
  pub most_left : left ≤ 1
  pub most_right : right ≤ 1
  pub most_above : above ≤ 1
  pub most_below : below ≤ 1
  pub first : above * w + left ≤ i
  pub last : j + below * w + right ≤ n

-- in plane a
pub record Windows (w left right above below i j : ℕ) (a : List ℤ) : Type 0 where
  pub inside : WindowsIn w left right above below i j (length a)
  pub samples : AllIn 524288 524288 a

-- and they have a mean
pub record MeanWindows (centre : Centre) (w left right above below i j : ℕ) (a : List ℤ) : Type 0 where
  pub windows : Windows w left right above below i j a
  pub weights : CentreWeight centre

-- a window of one row, and of one sample
abbrev pub RowWindow : ℕ → ℕ → ℕ → List ℤ → Type 0
RowWindow left right i a = Windows 0 left right 0 0 i (i + 1) a

abbrev pub SampleWindow : ℕ → List ℤ → Type 0
SampleWindow i a = RowWindow 0 0 i a

-- how many columns or rows there are on one side, where one may be present
abbrev pub one_if : Bool → ℕ
one_if true = 1
one_if false = 0

-- a result r: the number z, and its range
pub record ValueIn (bound : ℕ) (z r : ℤ) : Type 0 where
  pub is : r ≡ z
  pub range : In bound bound r

-- a sum z of samples whose weights add up to n, each offset by 2^19: r is not negative
pub record Offset (n : ℕ) (z : ℤ) (r : ℕ) : Type 0 where
  pub is : pos r ≡ z +ℤ pos (524288 * n)
  pub most : r ≤ 1048576 * n

-- the sample at index i and those on both sides
abbrev pub three_sum : List ℤ → ℕ → ℤ
three_sum a i = at a (i - 1) +ℤ at a i +ℤ at a (i + 1)

-- the eight neighbours of index i in the interior of a plane of width w
abbrev pub neighbour_sum : ℕ → List ℤ → ℕ → ℤ
neighbour_sum w a i = three_sum a (i - w) +ℤ at a (i - 1) +ℤ at a (i + 1) +ℤ three_sum a (i + w)

-- a row of the window with centre i
abbrev pub row_sum : List ℤ → ℕ → ℕ → ℕ → ℤ
row_sum a i left right = pos left *ℤ at a (i - left) +ℤ at a i +ℤ pos right *ℤ at a (i + right)

-- the sum of the window's weights, for a centre weight, its weighted sum, and its mean
abbrev pub window_weight : ℕ → ℕ → ℕ → ℕ → ℕ → ℕ
window_weight left right above below centre = (above + 1 + below) * (left + 1 + right) + (centre - 1)

abbrev pub window_sum : ℕ → ℕ → ℕ → ℕ → ℕ → ℕ → List ℤ → ℕ → ℤ
window_sum w left right above below centre a i =
    row_sum a i left right
    +ℤ pos (centre - 1) *ℤ at a i
    +ℤ pos above *ℤ row_sum a (i - above * w) left right
    +ℤ pos below *ℤ row_sum a (i + below * w) left right

unfoldable pub window_mean : ℕ → ℕ → ℕ → ℕ → ℕ → ℕ → List ℤ → ℕ → ℤ
window_mean w left right above below centre a i =
    rounded_mean (window_sum w left right above below centre a i) (window_weight left right above below centre)

-- the mean of a window by what is present of it
abbrev pub border_mean : Border → List ℤ → ℕ → ℤ
border_mean b = window_mean b.width (one_if b.left) (one_if b.right) (one_if b.above) (one_if b.below) b.centre.weight
