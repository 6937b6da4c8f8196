-- What the parts of the calls ask and promise.
use Rattle.std.specs.Prelude.{◌≡◌, true, List, [], ◌∷◌, ◌++◌, ℕ, ◌*◌, ◌≤◌, leb, eqb, ℤ, length, drop}
use Rattle.stage.specs.declared.Kind.TheVariants.{Graymap}
use Rattle.stage.specs.declared.Range.{Range}
use Rattle.stage.specs.declared.Settings.{Settings}
use Rattle.stage.specs.declared.Size.{Size}
use Rattle.stage.specs.Answers.{Test, ◌else◌, Outcome, outcome, sized}
use Rattle.stage.specs.Settings.{pixels}
use Rattle.stage.specs.Ranges.{extent, within_range}
use Rattle.stage.specs.Pixmap.{header_text, file_tests}
use Rattle.stage.specs.Graymap.{plane_tests, graymap_of, raster_plane}

-- the first tests of writing
abbrev pub size_tests : (s : Settings) (n count : ℕ) → List Test
size_tests s n count = (sized s.width s.height else 2) ∷ plane_tests s.depths s.transform n ++ (eqb count (pixels s) else 8) ∷ []

-- a buffer with a file at its front
abbrev pub with_file : (file buffer : List ℕ) → List ℕ
with_file file buffer = file ++ drop (length file) buffer

-- the last two, and the file
abbrev pub written_plane : (w h : ℕ) (r : Range) (a : List ℤ) (buffer : List ℕ) → Outcome ℕ (List ℕ)
written_plane w h r a buffer =
    let file = graymap_of w h r a in
    outcome ((leb (length file) (length buffer) else 14) ∷ (within_range r a else 12) ∷ []) (length file) (with_file file buffer) buffer

-- the last tests of reading, and the plane
abbrev pub read_file : (r : Range) (file : List ℕ) (lent : List ℤ) → Outcome Size (List ℤ)
read_file r file lent =
    let text = header_text 53 file in
    outcome (file_tests (Graymap (extent r)) text ++ (eqb (length lent) (text.width * text.height) else 8) ∷ (within_range r (raster_plane r text.rest) else 12) ∷ [])
    (record { width = text.width; height = text.height }) (raster_plane r text.rest) lent

-- a range whose numbers, less its lowest, have one byte or two
pub record Narrow (r : Range) : Type 0 where
  pub extent_most : extent r ≤ 65535

-- a file whose length fits 32 bits
pub record Measurable (w h maxval : ℕ) : Type 0 where
  pub is_sized : sized w h ≡ true
  pub maxval_most : maxval ≤ 65535

-- a plane of this size
pub record Plane (w h : ℕ) (r : Range) (a : List ℤ) : Type 0 where
  pub is_sized : sized w h ≡ true
  pub long : length a ≡ w * h
  pub narrow : extent r ≤ 65535

-- a plane that lies in its range, and room for its file
pub record Puttable (w h : ℕ) (r : Range) (a : List ℤ) (buffer : List ℕ) : Type 0 where
  pub room : length (graymap_of w h r a) ≤ length buffer
  pub narrow : extent r ≤ 65535
  pub within : within_range r a ≡ true
