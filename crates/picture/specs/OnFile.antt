-- A picture on file (01, "Pixmaps and the report"): "its width, height, depth and lent raster, one record that holds the reference".
use Rattle.std.specs.Prelude.{◌≡◌, List, ℕ, ℤ, drop}
use Rattle.std.specs.Borrow.{Bor}
use Rattle.integers.specs.Lists.{at}
use Rattle.stage.specs.declared.Header.{Header}
use Rattle.stage.specs.Answers.{Reply, done, refused}
use Rattle.stage.specs.Ranges.{max_sample}
use Rattle.stage.specs.Raster.{raster_samples}
use Rattle.stage.specs.Pixmap.{header_of, raster_of, every_third}
use Rattle.pixmap.specs.Parts.{PartOf}
use Rattle.picture.specs.declared.Picture.{Picture}

-- the header's numbers, all 0 where it is refused
abbrev pub numbers_of : Reply Header → Header
numbers_of (done h) = h
numbers_of (refused n) = record { width = 0; height = 0; depth = 0 }

-- the samples of a raster at depth b
abbrev pub samples_at : (b : ℕ) → List ℕ → List ℕ
samples_at b raster = raster_samples (max_sample b) raster

-- the sample `offset` samples into a pixel, of "R G B by pixel": offsets 0, 1 and 2 are those of planes 1, 2 and 3; 0 behind the raster's end
unfoldable pub sample_of : (b : ℕ) → List ℕ → ℕ → ℕ → ℤ
sample_of b raster offset index = at (every_third (drop offset (samples_at b raster))) index

-- the record of a file: its raster is the lent file's last bytes, in the caller's own memory
pub record PictureOf (file : Bor (List ℕ)) (p : Picture) : Type 0 where
  pub numbers_are : record { width = p.width; height = p.height; depth = p.depth } ≡ numbers_of (header_of file.now)
  pub raster_is : PartOf file (raster_of file.now) p.raster
