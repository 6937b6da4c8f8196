-- What parsing a whole file promises: the header's numbers and the raster, the lent file's last bytes; or the first refusal, and the file.
use Rattle.std.specs.Prelude.{◌≡◌, true, List, ℕ, ◌*◌, ◌≤◌, length, Result, Ok, Err}
use Rattle.std.specs.Borrow.{Bor}
use Rattle.stage.specs.declared.Kind.{Kind}
use Rattle.stage.specs.declared.Kind.TheVariants.{Pixmap, Graymap}
use Rattle.stage.specs.Answers.{Test, refusal, number_of}
use Rattle.stage.specs.Raster.{sample_bytes}
use Rattle.stage.specs.Pixmap.{letter, pixel_samples, takes, header_tests, header_text, file_tests}
use Rattle.pixmap.specs.declared.header_text.Parsed.{Parsed}
use Rattle.pixmap.specs.declared.Unparsed.{Unparsed}
use Rattle.pixmap.specs.Parts.{PartOf}

-- a kind whose maxvals have two bytes or one
abbrev pub Readable : Kind → Type 0
Readable Pixmap = Unit {0}
Readable (Graymap n) = n ≤ 65535

-- the tests of a header as it was read
abbrev pub text_tests : Kind → Parsed → List Test
text_tests k r = header_tests true r.width r.height (takes k r.maxval) (pixel_samples k * sample_bytes r.maxval) (length r.raster.now)

pub record Accepted (k : Kind) (file : Bor (List ℕ)) (r : Parsed) : Type 0 where
  pub passes : refusal (file_tests k (header_text (letter k) file.now)) ≡ 0
  pub width_is : r.width ≡ (header_text (letter k) file.now).width
  pub height_is : r.height ≡ (header_text (letter k) file.now).height
  pub maxval_is : r.maxval ≡ (header_text (letter k) file.now).maxval
  pub raster_is : PartOf file (header_text (letter k) file.now).rest r.raster

-- the first refusal, and the file: `rest` tells what stands behind its header
pub record Refused (k : Kind) (file : Bor (List ℕ)) (e : Unparsed) : Type 0 where
  pub refusal_is : number_of e.refusal ≡ refusal (file_tests k (header_text (letter k) file.now))
  pub file_is : e.file ≡ file

abbrev pub ParsedOf : (k : Kind) (file : Bor (List ℕ)) → Result Parsed Unparsed → Type 0
ParsedOf k file (Ok r) = Accepted k file r
ParsedOf k file (Err e) = Refused k file e
