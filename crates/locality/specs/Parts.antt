-- Parts of pictures, pictures cut out of pictures, and pictures that agree near a spot. w and h are a picture's width and height, u and v
-- those of a part, x and y a column and a row.
use Rattle.std.specs.Prelude.{◌≡◌, List, ℕ, ◌+◌, ◌*◌, ◌-◌, ◌/◌, ◌%◌, ◌≤◌, ◌<◌, ℤ, pos, length, replicate}
use Rattle.integers.specs.Lists.{at, map_indexed}
use Rattle.stage.specs.declared.Plane.{Plane}
use Rattle.stage.specs.declared.Triple.{Triple}
use Rattle.stage.specs.Planes.{Planes, get, map_triple}
use Rattle.stage.specs.Steps.{Setup}

-- the index of the pixel at column x and row y, and the same number in all three planes of two pictures at indices i and j
abbrev pub pixel_index : (w x y : ℕ) → ℕ
pixel_index w x y = y * w + x

abbrev pub SamePixel : (p q : Planes) (i j : ℕ) → Type 0
SamePixel p q i j = (c : Plane) → at (get p c) i ≡ at (get q c) j

-- every plane has the picture's size
abbrev pub Sized : Setup → Planes → Type 0
Sized σ p = (c : Plane) → length (get p c) ≡ σ.width * σ.height

-- ---- A part of a picture: a rectangle of its pixels
-- where it begins: how many of the picture's columns lie to its left, how many rows above it
pub record Corner : Type 0 where
  pub left : ℕ
  pub top : ℕ

-- the picture's index of column x and row y of the part
abbrev pub index : Setup → Corner → (x y : ℕ) → ℕ
index σ a x y = pixel_index σ.width (a.left + x) (a.top + y)

-- Of a line of n pixels, a row or a column, a part of u pixels begins after a of them. Its pixel x has a margin of d: it is at least d away from
-- each end that is a cut, so that d pixels of the part lie between. The line's own end is no cut.
pub record Margin (d x a u n : ℕ) : Type 0 where
  pub here : x < u
  pub before : 0 < a → d ≤ x
  pub behind : a + u < n → x + d < u

module _ (u v : ℕ) (σ : Setup) (a : Corner) where
  -- a part of width u and height v lies in the picture
  pub record Fits : Type 0 where
    pub columns : a.left + u ≤ σ.width
    pub rows : a.top + v ≤ σ.height

  -- its spot at column x and row y is at least d away from each side that is a cut
  pub record SpotMargin (d x y : ℕ) : Type 0 where
    pub column : Margin d x a.left u σ.width
    pub row : Margin d y a.top v σ.height

-- ---- Two pictures that share a part of width u and height v: it begins at a in one, at b in the other
module _ (u v : ℕ) (σ τ : Setup) (a b : Corner) where
  -- the part lies in both, and on it steps run with the same
  pub record SameSetup : Type 0 where
    pub first : Fits u v σ a
    pub second : Fits u v τ b
    pub filter : (k x y : ℕ) → x < u → y < v → σ.filter k (index σ a x y) ≡ τ.filter k (index τ b x y)
    pub skips : σ.skips ≡ τ.skips
    pub keep : (z : ℤ) → σ.keep z ≡ τ.keep z

  -- the numbers of two planes are the same at every spot of the part that has a margin of d in both pictures; of three planes, each with its own d
  abbrev pub SameWithMargin : (d : ℕ) → List ℤ → List ℤ → Type 0
  SameWithMargin d m n = (x y : ℕ) → SpotMargin u v σ a d x y → SpotMargin u v τ b d x y → at m (index σ a x y) ≡ at n (index τ b x y)

  abbrev pub SamePart : Triple ℕ → Planes → Planes → Type 0
  SamePart r p q = (c : Plane) → SameWithMargin (get r c) (get p c) (get q c)

-- ---- A picture cut out of a picture: the numbers of the part, and what steps run with there
module _ (σ : Setup) (a : Corner) (u v : ℕ) where
  -- the picture's index of the cut-out's index i
  abbrev pub cut_index : (i : ℕ) → ℕ
  cut_index i = index σ a (i % u) (i / u)

  abbrev pub cut_setup : Setup
  cut_setup = record { width = u; height = v; filter = λ k i. σ.filter k (cut_index i); skips = σ.skips; keep = σ.keep }

  abbrev pub cut_plane : List ℤ → List ℤ
  cut_plane m = map_indexed (λ i z. at m (cut_index i)) 0 (replicate (u * v) (pos 0))

  abbrev pub cut_out : Planes → Planes
  cut_out p = map_triple cut_plane p

-- ---- Two pictures of one size that agree near a spot
-- how far apart two columns are, or two rows
abbrev pub apart : ℕ → ℕ → ℕ
apart m n = (m - n) + (n - m)

-- "within d rows and d columns"
pub record Near (d x y x' y' : ℕ) : Type 0 where
  pub columns : apart x x' ≤ d
  pub rows : apart y y' ≤ d

-- "two pictures agree at every pixel within d rows and d columns of a spot"
abbrev pub AgreeNear : (w h d x y : ℕ) (p q : Planes) → Type 0
AgreeNear w h d x y p q =
    (x' y' : ℕ) → x' < w → y' < h → Near d x y x' y' → SamePixel p q (pixel_index w x' y') (pixel_index w x' y')

-- two pictures agree everywhere but at one pixel
abbrev pub AgreeElsewhere : (w h x y : ℕ) (p q : Planes) → Type 0
AgreeElsewhere w h x y p q =
    (x' y' : ℕ) → x' < w → y' < h → ((x' ≡ x) × (y' ≡ y) → ⊥) → SamePixel p q (pixel_index w x' y') (pixel_index w x' y')
