-- Portable pixmaps (01, "Pixmaps and the report"; 02, request 4): the header's text, its refusals, the raster and its three planes. The
-- header and its refusals are those of graymaps too.
-- A text function says what stands at the front of a list of bytes, or what is left behind that; [] leaves []. l is a text, b a byte;
-- where depths are meant, b is a depth and m a maxval.
use Rattle.std.specs.Prelude.{Bool, false, cond, not, ◌&&◌, ◌||◌, List, [], ◌∷◌, ◌++◌, ℕ, zero, suc, ◌*◌, eqb, ℤ, pos, length, drop, get_or}
use Rattle.stage.specs.Answers.{Reply, done, refused, Test, ◌else◌, answer, Outcome, outcome, between, sized}
use Rattle.stage.specs.Decimal.{is_digit, decimal, after_digits}
use Rattle.stage.specs.Planes.{Planes, triple}
use Rattle.stage.specs.Ranges.{max_sample}
use Rattle.stage.specs.Raster.{sample_bytes, raster_samples}
use Rattle.stage.specs.Transform.{lengths, all_equal}
pub use Rattle.stage.specs.declared.Kind.{Kind}
pub use Rattle.stage.specs.declared.Kind.TheVariants.{Pixmap, Graymap}
-- "One call gives the refusal, or width, height and depth"
pub use Rattle.stage.specs.declared.Header.{Header}

-- "White space is blank, tab, line feed, vertical tab, form feed or carriage return": 32, or 9 to 13
unfoldable pub is_white : ℕ → Bool
is_white b = eqb b 32 || between 9 13 b

-- a comment goes "through the next line feed or carriage return"
abbrev pub ends_comment : ℕ → Bool
ends_comment b = eqb b 10 || eqb b 13

-- the first byte, and 0 where there is none, which is neither letter nor digit nor white space
abbrev pub first : List ℕ → ℕ
first l = get_or l 0 0

-- ---- "white space .. one or more; before each number it may hold comments too, each from # [35]"
-- A stretch is read byte by byte; `inside` says whether the place lies inside a comment.
-- Outside comments the stretch ends at what is neither white space nor #.
unfoldable pub ends_stretch : Bool → ℕ → Bool
ends_stretch inside b = not (inside || is_white b || eqb b 35)

-- whether the place behind b lies inside a comment
unfoldable pub stays_inside : Bool → ℕ → Bool
stays_inside inside b = cond inside (not (ends_comment b)) (eqb b 35)

unfoldable pub after_stretch : Bool → List ℕ → List ℕ
after_stretch inside [] = []
after_stretch inside (b ∷ l) = cond (ends_stretch inside b) (b ∷ l) (after_stretch (stays_inside inside b) l)

-- ---- "white space, width": a stretch that "begins with a white space byte", and a number. "Numbers are one or more decimal digits;
-- leading zeros are allowed"
pub record Field : Type 0 where
  pub formed : Bool
  pub value : ℕ
  pub rest : List ℕ

unfoldable pub field : List ℕ → Field
field l =
    let digits = after_stretch false l in
    record { formed = is_white (first l) && is_digit (first digits); value = decimal 0 digits; rest = after_digits digits }

-- ---- "Header: the letters P6 [80 54], white space, width, white space, height, white space, maxval, one white space byte"
-- The second letter is a parameter: 02 reads P5 "with the P6 header rules". The rest is what stands behind the header.
pub record HeaderText : Type 0 where
  pub formed : Bool
  pub width : ℕ
  pub height : ℕ
  pub maxval : ℕ
  pub rest : List ℕ

unfoldable pub header_text : (letter : ℕ) (file : List ℕ) → HeaderText
header_text letter file =
    let w = field (drop 2 file) in
    let h = field w.rest in
    let m = field h.rest in
    record {
      formed = eqb (first file) 80 && eqb (first (drop 1 file)) letter && w.formed && h.formed && m.formed && is_white (first m.rest);
      width = w.value;
      height = h.value;
      maxval = m.value;
      rest = drop 1 m.rest;
    }

-- ---- "Maxval is M for a depth of 2 to 8", and M = 2^b − 1; 02: "P6 input gains depths 9 to 16"
-- the depth, of `count` depths from b on, whose M is m; 0 where there is none
unfoldable pub depth_among : (count b m : ℕ) → ℕ
depth_among zero b m = 0
depth_among (suc count) b m = cond (eqb m (max_sample b)) b (depth_among count (suc b) m)

abbrev pub depth_of : ℕ → ℕ
depth_of m = depth_among 15 2 m

-- ---- kinds of files: the second letter, how many samples a pixel has, and which maxvals are taken. A pixmap is P6 [54], "R G B by pixel",
-- its maxval M of some depth; a graymap is P5 [53], with one sample a pixel, and "3 for another maxval in a P5 file" (02).
abbrev pub letter : Kind → ℕ
letter Pixmap = 54
letter (Graymap n) = 53

abbrev pub pixel_samples : Kind → ℕ
pixel_samples Pixmap = 3
pixel_samples (Graymap n) = 1

abbrev pub takes : Kind → (m : ℕ) → Bool
takes Pixmap m = not (eqb (depth_of m) 0)
takes (Graymap n) m = eqb m n

-- ---- "1 header not of that form; 2 width or height outside 1 to 8,192; 3 other maxval; 4 raster length wrong. In that order."
-- `taken` says whether the maxval is taken, `pixel` how many bytes a pixel has, `bytes` how many the raster has.
abbrev pub header_tests : (formed : Bool) (width height : ℕ) (taken : Bool) (pixel bytes : ℕ) → List Test
header_tests formed width height taken pixel bytes =
    (formed else 1) ∷ (sized width height else 2) ∷ (taken else 3) ∷ (eqb bytes (pixel * width * height) else 4) ∷ []

-- "Then come exactly 3 × width × height bytes", and where a sample has two bytes "its raster length doubles"
abbrev pub file_tests : Kind → HeaderText → List Test
file_tests k t =
    header_tests t.formed t.width t.height (takes k t.maxval) (pixel_samples k * sample_bytes t.maxval) (length t.rest)

-- a file of kind k, read: its header's text, or the refusal
unfoldable pub file_of : Kind → List ℕ → Reply HeaderText
file_of k file = let t = header_text (letter k) file in answer (file_tests k t) t

abbrev pub text_header : HeaderText → Header
text_header t = record { width = t.width; height = t.height; depth = depth_of t.maxval }

abbrev pub header_by : Reply HeaderText → Reply Header
header_by (done t) = done (text_header t)
header_by (refused n) = refused n

unfoldable pub header_of : List ℕ → Reply Header
header_of file = header_by (file_of Pixmap file)

-- "another gives that part, which is empty exactly where the first refuses"
abbrev pub raster_by : Reply HeaderText → List ℕ
raster_by (done t) = t.rest
raster_by (refused n) = []

unfoldable pub raster_of : List ℕ → List ℕ
raster_of file = raster_by (file_of Pixmap file)

-- ---- "R G B by pixel"
-- the first of every three samples
unfoldable pub every_third : List ℕ → List ℤ
every_third [] = []
every_third (a ∷ []) = pos a ∷ []
every_third (a ∷ b ∷ []) = pos a ∷ []
every_third (a ∷ b ∷ c ∷ l) = pos a ∷ every_third l

-- the planes of a raster, at depth b
abbrev pub raster_planes : (b : ℕ) → List ℕ → Planes
raster_planes b raster = let l = raster_samples (max_sample b) raster in triple (every_third l) (every_third (drop 1 l)) (every_third (drop 2 l))

-- ---- the call that fills three lent planes from a file: the reader's refusals, then "8 a plane's length not width × height"
-- t is the file's text, p the planes lent
abbrev pub planes_tests : HeaderText → Planes → List Test
planes_tests t p = file_tests Pixmap t ++ ((all_equal (t.width * t.height) (lengths p) else 8) ∷ [])

unfoldable pub planes_of : (file : List ℕ) (lent : Planes) → Outcome Unit Planes
planes_of file lent = let t = header_text 54 file in outcome (planes_tests t lent) tt (raster_planes (depth_of t.maxval) t.rest) lent
