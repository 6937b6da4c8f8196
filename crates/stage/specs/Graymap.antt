-- Finished planes as graymaps (02, request 4), of the plain forms. d stands for the depths, t for the transform's number and n for the plane's;
-- r for the plane's range, a for its samples, w and h for width and height.
use Rattle.std.specs.Prelude.{cond, ◌&&◌, List, [], ◌∷◌, ◌++◌, map, ℕ, ◌*◌, leb, eqb, ℤ, pos, ◌+ℤ◌, ◌-ℤ◌, length, drop}
use Rattle.integers.specs.Parts.{pos_part}
use Rattle.stage.specs.Answers.{Test, ◌else◌, Outcome, outcome, between, sized}
use Rattle.stage.specs.Settings.{Settings, Depths, settings_of, depths_allowed, pixels}
use Rattle.stage.specs.Planes.{Plane, C1, C2, C3, get}
use Rattle.stage.specs.Ranges.{Range, finished_ranges, extent, within_range}
use Rattle.stage.specs.Decimal.{numeral}
use Rattle.stage.specs.Raster.{raster_samples, samples_raster}
use Rattle.stage.specs.Pixmap.{HeaderText, header_text, Graymap, file_tests}
-- "Read such files back to the same plane, with the P6 header rules; the answer is width and height."
pub use Rattle.stage.specs.declared.Size.{Size}

-- planes are numbered 1 to 3
abbrev pub plane_of : ℕ → Plane
plane_of n = cond (eqb n 1) C1 (cond (eqb n 2) C2 C3)

-- the range of plane n, which width and height do not change
abbrev pub plane_range : (d : Depths) (t n : ℕ) → Range
plane_range d t n = get (finished_ranges (settings_of 1 1 d t)) (plane_of n)

-- "Write each finished plane less the lowest number of its range": a number as it is written; and as it is read
abbrev pub less_lowest : Range → ℤ → ℕ
less_lowest r z = pos_part (z +ℤ pos r.below)

abbrev pub from_lowest : Range → ℕ → ℤ
from_lowest r n = pos n -ℤ pos r.below

-- "The header is `P5`, line feed, width, blank, height, line feed, maxval, line feed": 80 53, 10, width, 32, height, 10, maxval, 10. The second
-- letter is a parameter, as in the reader.
unfoldable pub written_header : (letter w h maxval : ℕ) → List ℕ
written_header letter w h maxval = 80 ∷ letter ∷ (10 ∷ numeral w) ++ (32 ∷ numeral h) ++ (10 ∷ numeral maxval) ++ 10 ∷ []

-- the file, "with maxval the range's highest less its lowest"
abbrev pub graymap_of : (w h : ℕ) → Range → List ℤ → List ℕ
graymap_of w h r a = written_header 53 w h (extent r) ++ samples_raster (extent r) (map (less_lowest r) a)

-- "6 also for a plane number outside 1 to 3"
abbrev pub plane_tests : (d : Depths) (t n : ℕ) → List Test
plane_tests d t n = (depths_allowed d else 5) ∷ ((leb t 3 && between 1 3 n) else 6) ∷ []

-- "Writing tests 2, 5, 6, 8, 13, 14, 12": "13 if the wanted maxval exceeds 65,535; 14 if the output buffer is short", of `room` bytes; "12 for a
-- sample outside the plane's range"
abbrev pub write_tests : (s : Settings) (n : ℕ) (a : List ℤ) (room : ℕ) → List Test
write_tests s n a room =
    let r = plane_range s.depths s.transform n in
    (sized s.width s.height else 2) ∷ plane_tests s.depths s.transform n
    ++ (eqb (length a) (pixels s) else 8)
    ∷ (leb (extent r) 65535 else 13)
    ∷ (leb (length (graymap_of s.width s.height r a)) room else 14)
    ∷ (within_range r a else 12)
    ∷ []

-- "The answer is the file's length, and buffer bytes after it keep what they held."
unfoldable pub graymap_written : (s : Settings) (n : ℕ) (a : List ℤ) (buffer : List ℕ) → Outcome ℕ (List ℕ)
graymap_written s n a buffer =
    let file = graymap_of s.width s.height (plane_range s.depths s.transform n) a in
    outcome (write_tests s n a (length buffer)) (length file) (file ++ drop (length file) buffer) buffer

-- the plane of a raster
abbrev pub raster_plane : Range → List ℕ → List ℤ
raster_plane r raster = map (from_lowest r) (raster_samples (extent r) raster)

-- "reading tests 5, 6, 13, 1 to 4, 8, 12, with width and height from the file"
abbrev pub read_tests : (d : Depths) (t n : ℕ) (text : HeaderText) (lent : ℕ) → List Test
read_tests d t n text lent =
    let r = plane_range d t n in
    plane_tests d t n
    ++ (leb (extent r) 65535 else 13)
    ∷ file_tests (Graymap (extent r)) text
    ++ (eqb lent (text.width * text.height) else 8)
    ∷ (within_range r (raster_plane r text.rest) else 12)
    ∷ []

unfoldable pub graymap_read : (d : Depths) (t n : ℕ) (file : List ℕ) (lent : List ℤ) → Outcome Size (List ℤ)
graymap_read d t n file lent =
    let text = header_text 53 file in
    outcome (read_tests d t n text (length lent)) (record { width = text.width; height = text.height }) (raster_plane (plane_range d t n) text.rest) lent
