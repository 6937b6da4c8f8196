-- A forward call's answer where its tests hold, from the floats of its pixel.
use mathlib.Core.Path.{◌≡◌, refl, sym}
use Prim.Native.Nat.{ℕ}
use Rattle.stage.specs.Answers.{done, refusal}
use Rattle.preview.specs.declared.Pixel.{Pixel}
use Rattle.preview.specs.declared.Rgb.{Rgb}
use Rattle.preview.specs.Quarters.{just, pixel_quarters}
use Rattle.preview.specs.Spaces.{Space, quarters}
use Rattle.preview.specs.Calls.{shown, preview_tests, preview_call}
use Rattle.preview.specs.Parts.{fourfold, Leads}
use Rattle.preview.proofs.Found.{allowed_bits}

-- x has R, G and B, and y is what the matrix makes of it
pub shown_values : (σ : Space) (b : ℕ) (s : Rgb) (x y : Pixel) → 0 ≡ refusal (preview_tests b s)
    → pixel_quarters x ≡ just (fourfold s) → Leads fourfold (quarters σ) x y → done (shown σ (pixel_quarters y)) ≡ preview_call σ b s
shown_values σ b s x y n h l =
    rw (sym n, l s (allowed_bits b s n) h) refl
