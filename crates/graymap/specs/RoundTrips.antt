-- What is proved of graymaps that are written and read (02, request 4). d stands for the depths, t for the transform's number and n for the plane's.
use Rattle.std.specs.Prelude.{◌≡◌, true, ◌↔◌, List, ℕ, ◌+◌, ◌*◌, ◌≤◌, T, ℤ, length, take, get_or}
use Rattle.stage.specs.declared.Bands.{Bands}
use Rattle.stage.specs.Settings.{Depths}
use Rattle.stage.specs.declared.Form.TheVariants.{Plain}
use Rattle.stage.specs.declared.Kind.TheVariants.{Graymap}
use Rattle.stage.specs.declared.Range.{Range}
use Rattle.stage.specs.declared.Settings.{Settings}
use Rattle.stage.specs.declared.Size.{Size}
use Rattle.stage.specs.Answers.{done, refused, refusal, between, sized}
use Rattle.stage.specs.Settings.{settings_of, pixels}
use Rattle.stage.specs.Planes.{Planes, get}
use Rattle.stage.specs.Ranges.{extent}
use Rattle.stage.specs.Raster.{sample_bytes}
use Rattle.stage.specs.Pixmap.{header_text, file_of}
use Rattle.stage.specs.Grammar.{IsFile}
use Rattle.stage.specs.Transform.{forward}
use Rattle.stage.specs.Demand3.{accepted}
use Rattle.stage.specs.Graymap.{plane_of, plane_range, plane_tests, written_header, graymap_of, graymap_written, graymap_read}
use Rattle.graymap.specs.Parts.{with_file}

-- "Reading what we write restores the plane", to any plane of its size, and answers its width and height.
abbrev pub WrittenRestored : Type 0
WrittenRestored =
    (s : Settings) (n : ℕ) (a lent : List ℤ) (buffer after : List ℕ) (count : ℕ)
    → graymap_written s n a buffer ≡ record { reply = done count; memory = after }
    → length lent ≡ pixels s
    → graymap_read s.depths s.transform n (take count after) lent ≡ record { reply = done (record { width = s.width; height = s.height }); memory = a }

-- Each plane that a picture goes to can be written where its maxval fits two bytes and the buffer is long enough: 12 is only for planes that no
-- picture goes to.
abbrev pub FinishedWritten : Type 0
FinishedWritten =
    (β : Bands) (s : Settings) (φ : List ℕ) (p q : Planes) (n : ℕ) (buffer : List ℕ)
    → forward Plain β s φ p ≡ accepted q
    → T (between 1 3 n)
    → let r = plane_range s.depths s.transform n in let f = graymap_of s.width s.height r (get q (plane_of n)) in
    extent r ≤ 65535 → length f ≤ length buffer
    → graymap_written s n (get q (plane_of n)) buffer ≡ record { reply = done (length f); memory = with_file f buffer }

-- "any P5 file accepted, rewritten, keeps its raster"; its header may change. To write it again is refused for a short buffer alone.
pub record Rewritten (s : Settings) (n : ℕ) (a : List ℤ) (file buffer : List ℕ) : Type 0 where
  pub written : let f = graymap_of s.width s.height (plane_range s.depths s.transform n) a in
      length f ≤ length buffer → graymap_written s n a buffer ≡ record { reply = done (length f); memory = with_file f buffer }
  pub raster : (header_text 53 (graymap_of s.width s.height (plane_range s.depths s.transform n) a)).rest ≡ (header_text 53 file).rest

abbrev pub RastersKept : Type 0
RastersKept =
    (d : Depths) (t n : ℕ) (file buffer : List ℕ) (lent a : List ℤ) (v : Size)
    → ((k : ℕ) → get_or file k 0 ≤ 255)
    → graymap_read d t n file lent ≡ record { reply = done v; memory = a }
    → Rewritten (settings_of v.width v.height d t) n a file buffer

-- The file's length is the header's, at most 19, and 1 or 2 × width × height.
pub record Measured (w h : ℕ) (r : Range) (a : List ℤ) : Type 0 where
  pub length_is : length (graymap_of w h r a) ≡ length (written_header 53 w h (extent r)) + sample_bytes (extent r) * (w * h)
  pub header_most : length (written_header 53 w h (extent r)) ≤ 19

abbrev pub FilesMeasured : Type 0
FilesMeasured = (w h : ℕ) (r : Range) (a : List ℤ) → sized w h ≡ true → extent r ≤ 65535 → length a ≡ w * h → Measured w h r a

-- Reading refuses a file with 1 to 4 exactly where the reader of such files does, which `FilesAgree` (pixmap) holds to the grammar; and what it
-- accepts is a file of the grammar. So it is where no test before the file's fails.
pub record CallAgrees (d : Depths) (t n : ℕ) (file : List ℕ) (lent : List ℤ) : Type 0 where
  pub alike : (k : ℕ) → 1 ≤ k → k ≤ 4 → ((graymap_read d t n file lent).reply ≡ refused k) ↔ (file_of (Graymap (extent (plane_range d t n))) file ≡ refused k)
  pub accepted : (v : Size) → (graymap_read d t n file lent).reply ≡ done v
      → let m = extent (plane_range d t n) in IsFile (Graymap m) file v.width v.height m (header_text 53 file).rest

abbrev pub CallsAgree : Type 0
CallsAgree =
    (d : Depths) (t n : ℕ) (file : List ℕ) (lent : List ℤ) → refusal (plane_tests d t n) ≡ 0 → extent (plane_range d t n) ≤ 65535 → CallAgrees d t n file lent
