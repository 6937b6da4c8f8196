-- The header's length and the samples'.
use mathlib.Core.Path.{◌≡◌, ap}
use Prim.Native.Nat.{ℕ, ◌*◌, ◌≤◌}
use native.Mathlib.Omega.{arith}
use Rattle.graymap.proofs.Lengths.{header_long, bytes_fit}
use Rattle.graymap.specs.Parts.{Measurable}
use Rattle.stage.specs.Raster.{sample_bytes}
use Rattle.graymap.proofs.writing.file_length.Goals as goal

-- the samples' bytes, which are added to the digits
samples_fit : (w h m : ℕ) {n : ℕ} → Measurable w h m → n ≡ sample_bytes m → n * (w * h) ≤ 134217728
samples_fit w h m p e = rw e (bytes_fit w h m p).1

pub returns : goal.returns
returns c =
    let a = c.args in (
      omega (
        arith,
        header_long 53 a.width a.height a.maxval,
        c.digit_count.ensures.0,
        c.digit_count-2.ensures.0,
        c.digit_count-3.ensures.0,
        ap (λ (n : ℕ). n * (a.width * a.height)) c.sample_bytes.ensures,
      ),
      omega (arith, samples_fit a.width a.height a.maxval c.requires c.sample_bytes.ensures, c.digit_count.ensures.1, c.digit_count-2.ensures.1, c.digit_count-3.ensures.1),
    )
