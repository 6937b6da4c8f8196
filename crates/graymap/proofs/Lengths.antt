-- How long headers and files are.
use mathlib.Core.Path.{◌≡◌, ap, ◌∙◌}
use mathlib.Core.List.{List, map}
use Prim.Native.Nat.{ℕ, ◌+◌, ◌*◌, ◌≤◌}
use native.Mathlib.Nat.{mul-le-mul}
use native.Mathlib.Omega.{arith}
use lib.IntN.{ℤ}
use lib.ListN.{length, length-append, length-map}
use Rattle.stage.specs.declared.Range.{Range}
use Rattle.stage.specs.Ranges.{extent}
use Rattle.stage.specs.Decimal.{numeral}
use Rattle.stage.specs.Raster.{sample_bytes, samples_raster}
use Rattle.stage.specs.Graymap.{less_lowest, written_header, graymap_of}
use Rattle.raster.proofs.Pairs.{bytes_most, raster_long}
use Rattle.pixmap.proofs.Refusals.{area}
use Rattle.graymap.specs.Parts.{Measurable}

pub header_long : (letter w h m : ℕ) → length (written_header letter w h m) ≡ 6 + (length (numeral w) + length (numeral h) + length (numeral m))
unfolding written_header
header_long letter w h m = simp length-append (omega arith)

pub graymap_long : (w h : ℕ) (r : Range) (a : List ℤ) → length (graymap_of w h r a) ≡ length (written_header 53 w h (extent r)) + sample_bytes (extent r) * length a
graymap_long w h r a =
    length-append (written_header 53 w h (extent r)) (samples_raster (extent r) (map (less_lowest r) a))
    ∙ ap (λ (n : ℕ). length (written_header 53 w h (extent r)) + n) (raster_long (extent r) (map (less_lowest r) a) ∙ ap (λ (n : ℕ). sample_bytes (extent r) * n) (length-map a (less_lowest r)))

-- the samples' bytes fit 32 bits
pub bytes_fit : (w h m : ℕ) → Measurable w h m → (w * h ≤ 67108864) × (sample_bytes m * (w * h) ≤ 134217728)
bytes_fit w h m f = let a = area w h f.is_sized in (a, mul-le-mul (bytes_most m) a)
