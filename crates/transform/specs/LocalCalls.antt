-- 02, request 10, of the calls: forward and inverse of both forms, in bands or not. x and y are a column and a row, a is where a part begins, u and v are its width and height.
use Rattle.std.specs.Prelude.{◌≡◌, Ok, List, ℕ, ◌+◌, ◌<◌}
use Rattle.stage.specs.declared.Settings.{Settings}
use Rattle.stage.specs.declared.Form.{Form}
use Rattle.stage.specs.declared.Bands.{Bands}
use Rattle.stage.specs.Settings.{settings_of}
use Rattle.stage.specs.Planes.{Planes}
use Rattle.stage.specs.Transform.{filter_at, setup, Picture}
use Rattle.locality.specs.Reach.{Way, there, back, distance}
use Rattle.locality.specs.Parts.{pixel_index, SamePixel, Corner, index, Fits, SpotMargin, cut_out, Near, AgreeNear, AgreeElsewhere}
use Rattle.transform.specs.Calls.{Answer, ForwardGives, InverseGives}

-- the call that goes this way, lent p, answers r and leaves q
abbrev pub CallGives : Way → Form → Bands → Settings → List ℕ → (p : Planes) (r : Answer) (q : Planes) → Type 0
CallGives there = ForwardGives
CallGives back = InverseGives

-- Two calls, lent p and p', have left q and q'.
pub record LocalCalls (way : Way) (s : Settings) (p p' q q' : Planes) : Type 0 where
  -- "If two pictures agree at every pixel within d rows and d columns of a spot, their transformed numbers at that spot agree."
  pub near : (x y : ℕ) → x < s.width → y < s.height → AgreeNear s.width s.height (distance way s.transform) x y p p'
      → SamePixel q q' (pixel_index s.width x y) (pixel_index s.width x y)
  -- and one damaged pixel, at column x and row y, spoils only its neighbourhood
  pub damage : (x y : ℕ) → AgreeElsewhere s.width s.height x y p p'
      → (x' y' : ℕ) → x' < s.width → y' < s.height → (Near (distance way s.transform) x y x' y' → ⊥)
      → SamePixel q q' (pixel_index s.width x' y') (pixel_index s.width x' y')

-- "Fix size, depths, transform and choices": two calls that answer alike. On a refusal the planes are as lent, so this holds then too.
abbrev pub CallsLocal : Type 0
CallsLocal =
    (way : Way) (κ : Form) (β : Bands) (s : Settings) (φ : List ℕ) (p p' q q' : Planes) (r : Answer) → CallGives way κ β s φ p r q → CallGives way κ β s φ p' r q'
    → LocalCalls way s p p' q q'

-- Forward answers alike for any two pictures, so it leaves the same numbers at a spot for all that agree near it.
abbrev pub PicturesAnsweredAlike : Type 0
PicturesAnsweredAlike =
    (κ : Form) (β : Bands) (s : Settings) (φ : List ℕ) (p p' q q' : Planes) (r r' : Answer) → Picture s p → Picture s p'
    → ForwardGives κ β s φ p r q → ForwardGives κ β s φ p' r' q' → r ≡ r'

-- A picture cut out of a picture, with bands β' and choices φ' that give each of its samples the filters that it has in the whole picture under β and
-- φ, as the same choices do without bands.
abbrev pub cut_settings : Settings → (u v : ℕ) → Settings
cut_settings s u v = settings_of u v s.depths s.transform

abbrev pub SameFilters : (β β' : Bands) (s : Settings) (φ φ' : List ℕ) (a : Corner) (u v : ℕ) → Type 0
SameFilters β β' s φ φ' a u v =
    (k x y : ℕ) → x < u → y < v → filter_at β' (cut_settings s u v) φ' k (pixel_index u x y) ≡ filter_at β s φ k (pixel_index s.width (a.left + x) (a.top + y))

-- The calls on both leave the same numbers at every spot at least d away from each cut.
abbrev pub CallsCutOut : Type 0
CallsCutOut =
    (way : Way) (κ : Form) (β β' : Bands) (s : Settings) (φ φ' : List ℕ) (a : Corner) (u v : ℕ) → Fits u v (setup κ β s φ) a
    → SameFilters β β' s φ φ' a u v → (p q q' : Planes)
    → CallGives way κ β s φ p (Ok tt) q → CallGives way κ β' (cut_settings s u v) φ' (cut_out (setup κ β s φ) a u v p) (Ok tt) q'
    → (x y : ℕ) → SpotMargin u v (setup κ β s φ) a (distance way s.transform) x y → SamePixel q' q (pixel_index u x y) (index (setup κ β s φ) a x y)
