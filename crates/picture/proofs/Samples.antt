-- A sample of a raster by its place: pixel `index`, `offset` samples into it, is sample 3 × index + offset. And the size of a sample by its
-- depth.
use mathlib.Core.Path.{◌≡◌, sym, ap, ◌∙◌}
use mathlib.Core.Bool.{false}
use mathlib.Core.List.{List}
use Prim.Native.Nat.{ℕ, ◌+◌, ◌*◌, ◌-◌, ◌^◌, ◌≤◌, ◌<◌}
use native.Mathlib.Omega.{arith}
use lib.Dec.{ltb}
use lib.IntN.{pos}
use lib.ListN.{length, get_or, get_or-eq_default}
use lib.Pow.{pow_mono}
use borrow.Author.Tests.{le-ltb}
use Rattle.pixmap.proofs.Rasters.{sample_at_lem}
use Rattle.picture.specs.OnFile.{samples_at, sample_of}

-- M is 256 or more above depth 8
pub two_bytes : (b : ℕ) → 8 < b → ltb (2 ^ b - 1) 256 ≡ false
two_bytes b h = le-ltb (2 ^ b - 1) 256 (omega (arith, pow_mono h))

module _ (b : ℕ) (raster : List ℕ) (offset index : ℕ) where
  pub sample_is : pos (get_or (samples_at b raster) (3 * index + offset) 0) ≡ sample_of b raster offset index
  unfolding sample_of
  sample_is = sample_at_lem (samples_at b raster) offset index

  pub sample_past : length (samples_at b raster) ≤ 3 * index + offset → pos 0 ≡ sample_of b raster offset index
  sample_past h = ap pos (sym (get_or-eq_default (samples_at b raster) 0 {n = 3 * index + offset} h)) ∙ sample_is
