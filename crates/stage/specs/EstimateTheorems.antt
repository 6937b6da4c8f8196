-- What holds of the estimate's definitions: nothing that it counts leaves its range, the counted samples are those of 02's request 2,
-- each is counted once, and the subtraction never goes below zero (01, "Estimate and search"). `LogarithmMonotone` of Logarithm.antt
-- is one of these facts. w stands for the width, a for a plane's samples (in `MedInRange` a, e and c are MED's three numbers), i for an
-- index, t for a plane's number of samples, j and k for counted samples, numbered from 0, r for residuals by their index and n for how
-- many, l for counts, c + 1 for a colour.
use Rattle.std.specs.Prelude.{◌≡◌, List, [], ◌∷◌, ◌↔◌, ℕ, suc, ◌+◌, ◌*◌, ◌-◌, ◌≤◌, ◌<◌, ℤ, pos, replicate}
use Rattle.integers.specs.Parts.{In}
use Rattle.integers.specs.Lists.{AllIn}
use Rattle.stage.specs.Logarithm.{L}
use Rattle.stage.specs.Estimate.{med, residual, counted, counted_index, histogram, same_number, total, log_sum, estimate_of_counts, plane_estimate}

-- MED of numbers in a range lies in that range.
abbrev pub MedInRange : Type 0
MedInRange = (below above : ℕ) (a e c : ℤ) → In below above a → In below above e → In below above (med a e c)

-- A residual is no further from 0 than the plane's range is wide, at every index and border.
abbrev pub ResidualInRange : Type 0
ResidualInRange =
    (below above w : ℕ) (a : List ℤ) (i : ℕ) → AllIn below above a → In (below + above) (below + above) (residual w a i)

-- The counted samples of a plane of t.
pub record CountedSamples (t : ℕ) : Type 0 where
  -- N is the lesser of t and 4,096
  pub few : t ≤ 4096 → counted t ≡ t
  pub many : 4096 ≤ t → counted t ≡ 4096
  -- the index of sample j is j × t / N rounded down: times N it is at most j × t, and one more is not
  pub most : (j : ℕ) → counted_index t j * counted t ≤ j * t
  pub least : (j : ℕ) → j * t < suc (counted_index t j) * counted t
  -- the indices start at 0, rise strictly, and lie inside the plane exactly for the first N samples
  pub first : counted_index t 0 ≡ 0
  pub rising : (j k : ℕ) → j < k → counted_index t j < counted_index t k
  pub inside : (j : ℕ) → (j < counted t) ↔ (counted_index t j < t)
  -- up to 4,096 samples each is counted once
  pub every : t ≤ 4096 → (j : ℕ) → counted_index t j ≡ j

abbrev pub CountedRule : Type 0
CountedRule = (t : ℕ) → 1 ≤ t → CountedSamples t

-- Each of n numbers is counted once.
abbrev pub HistogramTotal : Type 0
HistogramTotal = (r : ℕ → ℤ) (n : ℕ) → total (histogram same_number r n n) ≡ n

-- The estimate's subtraction is one of whole numbers from 0.
abbrev pub LogSumBound : Type 0
LogSumBound = (l : List ℕ) → log_sum l ≤ total l * L (total l)

-- A plane of one colour, not 0: the first residual is the colour, all others are 0, however wide the plane is.
abbrev pub OneColour : Type 0
OneColour = (w t c : ℕ) → 1 ≤ w → 2 ≤ t → plane_estimate w (replicate t (pos (suc c))) ≡ estimate_of_counts ((counted t - 1) ∷ 1 ∷ [])
