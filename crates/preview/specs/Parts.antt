-- What the functions inside promise.
use Rattle.std.specs.Prelude.{◌≡◌, Bool, ◌&&◌, T, ℤ, pos, ◌*ℤ◌}
use Rattle.std.specs.Float.Ieee.{eq}
use Rattle.integers.specs.Parts.{In}
use Rattle.stage.specs.Answers.{Reply}
use Rattle.stage.specs.declared.Triple.{Triple}
use Rattle.stage.specs.Planes.{triple}
use Rattle.preview.specs.declared.Pixel.{Pixel}
use Rattle.preview.specs.declared.Rgb.{Rgb}
use Rattle.preview.specs.Quarters.{just, pixel_quarters}
use Rattle.preview.specs.Calls.{Shown, has}

-- samples of at most 16 bits
pub record Bits16 (s : Rgb) : Type 0 where
  pub red : In 0 65535 s.r
  pub green : In 0 65535 s.g
  pub blue : In 0 65535 s.b

-- four times R, G and B: what the floats of R, G and B themselves are in quarters
abbrev pub fourfold : Rgb → Triple ℤ
fourfold s = triple (pos 4 *ℤ s.r) (pos 4 *ℤ s.g) (pos 4 *ℤ s.b)

-- where x is f s in quarters, y is g s, with no rounding
abbrev pub Leads : (f g : Rgb → Triple ℤ) → (x y : Pixel) → Type 0
Leads f g x y = (s : Rgb) → Bits16 s → pixel_quarters x ≡ just (f s) → pixel_quarters y ≡ just (g s)

-- as numbers
abbrev pub same_floats : (x y : Pixel) → Bool
same_floats x y = eq x.v1 y.v1 && (eq x.v2 y.v2 && eq x.v3 y.v3)

-- no other samples than t can have the floats of v
abbrev pub Finds : Reply Shown → Rgb → Type 0
Finds v t = (s : Rgb) → Bits16 s → T (has v s) → t ≡ s
