-- 02, request 11, "change filters down the picture": what is proved of bands beside what holds of both forms in all bands. n is a band height, b a
-- band's number from the top, x a column.
use Rattle.std.specs.Prelude.{◌≡◌, List, ℕ, ◌+◌, ◌*◌, ◌≤◌, ◌<◌, get_or}
use Rattle.integers.specs.Lists.{at}
use Rattle.stage.specs.Settings.{Settings, Form, Bands, One, Of, band_count}
use Rattle.stage.specs.Planes.{Plane, Planes, get}
use Rattle.stage.specs.Steps.{steps, places}
use Rattle.stage.specs.Transform.{filter_at, transformed, untransformed, forward, inverse}

-- "one set of choices for each band of rows, the last band possibly shorter": told without division, the bands hold all h rows, and each of them
-- begins with one.
pub record BandsHoldRows (n h : ℕ) : Type 0 where
  pub all : h ≤ band_count n h * n
  pub begin : (b : ℕ) → b < band_count n h → b * n < h

abbrev pub BandsCounted : Type 0
BandsCounted = (n h : ℕ) → 1 ≤ n → BandsHoldRows n h

-- "A row uses its band's filters": row b × n + y, where y is below n, is one of band b's, and the choices have band b's set after those of the
-- b bands above it.
abbrev pub RowsUseTheirBand : Type 0
RowsUseTheirBand =
    (n : ℕ) (s : Settings) (φ : List ℕ) (b y x : ℕ) → y < n → x < s.width
    → (k : ℕ) → filter_at (Of n) s φ k ((b * n + y) * s.width + x) ≡ get_or φ (places (steps s.transform) * b + k) 0

-- "Bands as high as the picture equal the plain transform": the calls answer and leave the same, whatever they are lent.
pub record SameAsOne (κ : Form) (s : Settings) (φ : List ℕ) (p : Planes) : Type 0 where
  pub there : forward κ (Of s.height) s φ p ≡ forward κ One s φ p
  pub back : inverse κ (Of s.height) s φ p ≡ inverse κ One s φ p

abbrev pub BandsAsHigh : Type 0
BandsAsHigh = (κ : Form) (s : Settings) (φ : List ℕ) (p : Planes) → SameAsOne κ s φ p

-- "A step is skipped row by row": where all filters are null, as in a band that holds a mask, every plane keeps its numbers, whatever filters
-- the other rows have.
pub record Stays (κ : Form) (β : Bands) (s : Settings) (φ : List ℕ) (p : Planes) (i : ℕ) (c : Plane) : Type 0 where
  pub there : at (get (transformed κ β s φ p) c) i ≡ at (get p c) i
  pub back : at (get (untransformed κ β s φ p) c) i ≡ at (get p c) i

abbrev pub MasksStay : Type 0
MasksStay =
    (κ : Form) (β : Bands) (s : Settings) (φ : List ℕ) (p : Planes) (i : ℕ)
    → ((k : ℕ) → k < places (steps s.transform) → filter_at β s φ k i ≡ 12) → (c : Plane) → Stays κ β s φ p i c
