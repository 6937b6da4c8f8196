-- What the exported functions on preview pixels return and are handed. The space is a number: 1 for HVSCT, 2 for YCoCg, 0 beside a refusal.
use Rattle.std.specs.Prelude.{cond, ℕ, eqb, Float, ℤ, pos}
use Rattle.stage.specs.Answers.{Reply, done, refused}
use Rattle.stage.specs.declared.Triple.{Triple}
use Rattle.stage.specs.Planes.{triple}
use Rattle.preview.specs.declared.Pixel.{Pixel}
use Rattle.preview.specs.declared.Rgb.{Rgb}
use Rattle.preview.specs.Quarters.{Maybe, just, pixel_quarters}
use Rattle.preview.specs.Spaces.{HVSCT, YCoCg}
use Rattle.preview.specs.Calls.{Shown, shown}
use Rattle.rulantip.specs.declared.previews.RulantipPreview.{RulantipPreview}
use Rattle.rulantip.specs.declared.previews.RulantipRgb.{RulantipRgb}

abbrev pub pixel_of : Float → Float → Float → Pixel
pixel_of v1 v2 v3 = record { v1 = v1; v2 = v2; v3 = v3 }

-- a returned preview: its numbers, and four times its floats where these are whole numbers
pub record ReadPreview : Type 0 where
  pub refusal : ℕ
  pub space : ℕ
  pub values : Maybe (Triple ℤ)

abbrev pub preview_read : RulantipPreview → ReadPreview
preview_read r = record { refusal = r.refusal; space = r.space; values = pixel_quarters (pixel_of r.v1 r.v2 r.v3) }

-- on a refusal the space and the floats are 0
abbrev pub preview_returned : Reply Shown → ReadPreview
preview_returned (done (shown HVSCT m)) = record { refusal = 0; space = 1; values = m }
preview_returned (done (shown YCoCg m)) = record { refusal = 0; space = 2; values = m }
preview_returned (refused n) = record { refusal = n; space = 0; values = just (triple (pos 0) (pos 0) (pos 0)) }

-- what is handed in to go back from: a space's number and floats; under any other number no pixel, which is a refusal
abbrev pub handed_in : ℕ → Maybe (Triple ℤ) → Reply Shown
handed_in n m = cond (eqb n 1) (done (shown HVSCT m)) (cond (eqb n 2) (done (shown YCoCg m)) (refused 15))

abbrev pub rgb_returned : Reply Rgb → RulantipRgb
rgb_returned (done s) = record { refusal = 0; r = s.r; g = s.g; b = s.b }
rgb_returned (refused n) = record { refusal = n; r = pos 0; g = pos 0; b = pos 0 }
