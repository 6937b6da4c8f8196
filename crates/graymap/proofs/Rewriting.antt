-- A file that is read and written again keeps its raster; and how long files are.
use mathlib.Core.Path.{◌≡◌, ap, subst, ◌∙◌}
use mathlib.Core.List.{List, [], ◌∷◌, ◌++◌, map}
use Prim.Native.Nat.{ℕ, suc, ◌+◌, ◌*◌, ◌≤◌}
use native.Mathlib.Omega.{arith}
use lib.Dec.{eqb, le→leb}
use lib.IntN.{ℤ}
use lib.ListN.{length, get_or, length-map}
use borrow.Author.Tests.{eqb-true, eq-eqb}
use Rattle.integers.proofs.Booleans.{holds_true, true_holds}
use Rattle.stage.specs.Settings.{Depths}
use Rattle.stage.specs.declared.Range.{Range}
use Rattle.stage.specs.declared.Size.{Size}
use Rattle.stage.specs.Answers.{done, Test}
use Rattle.stage.specs.Settings.{settings_of}
use Rattle.stage.specs.Ranges.{extent}
use Rattle.stage.specs.Raster.{sample_bytes, raster_samples, samples_raster}
use Rattle.stage.specs.Pixmap.{HeaderText, header_text}
use Rattle.stage.specs.Grammar.{IsField, IsHeader}
use Rattle.stage.specs.Graymap.{plane_range, less_lowest, from_lowest, written_header, graymap_of, write_tests, graymap_written, raster_plane, read_tests, graymap_read}
use Rattle.stage.proofs.Answers.{Holds, Numbered, holds_refusal, outcome_done}
use Rattle.text.proofs.Numerals.{numeral_few}
use Rattle.raster.proofs.Pairs.{samples_long, raster_back}
use Rattle.pixmap.proofs.Refusals.{sized_range}
use Rattle.pixmap.proofs.Headers.{headers_agree}
use Rattle.graymap.specs.Parts.{with_file}
use Rattle.graymap.specs.RoundTrips.{Rewritten, RastersKept, FilesMeasured}
use Rattle.graymap.proofs.Lengths.{header_long, graymap_long}
use Rattle.graymap.proofs.Headers.{header_back}
use Rattle.graymap.proofs.ThereAndBack.{samples_kept, all_hold, value_is, memory_is}

-- ---- a raster's bytes are the file's
abbrev Bytes : List ℕ → Type 0
Bytes l = (k : ℕ) → get_or l k 0 ≤ 255

suffix_bytes : (p l : List ℕ) → Bytes (p ++ l) → Bytes l
suffix_bytes [] l h = h
suffix_bytes (b ∷ p) l h = suffix_bytes p l (λ k. h (suc k))

field_bytes : {l rest : List ℕ} {v : ℕ} → IsField l v rest → Bytes l → Bytes rest
field_bytes {l} {rest} f h = suffix_bytes f.digits rest (suffix_bytes f.stretch (f.digits ++ rest) (suffix_bytes (f.space ∷ []) (f.stretch ++ (f.digits ++ rest)) (subst Bytes f.parts h)))

header_bytes : {letter w h m : ℕ} {file raster : List ℕ} → IsHeader letter file w h m raster → Bytes file → Bytes raster
header_bytes {letter} {raster = raster} i b =
    suffix_bytes (i.space ∷ []) raster (field_bytes i.is_maxval (field_bytes i.is_height (field_bytes i.is_width (suffix_bytes (80 ∷ letter ∷ []) i.behind_letters (subst Bytes i.letters b)))))

-- ---- a file that was read
module _ (d : Depths) (t n : ℕ) (file buffer : List ℕ) (lent a : List ℤ) (v : Size) (bytes : (k : ℕ) → get_or file k 0 ≤ 255)
    (e : graymap_read d t n file lent ≡ record { reply = done v; memory = a }) where
  abbrev r : Range
  r = plane_range d t n

  abbrev text : HeaderText
  text = header_text 53 file

  abbrev size : Size
  size = record { width = text.width; height = text.height }

  abbrev tests : List Test
  tests = read_tests d t n text (length lent)

  numbered : Numbered tests
  numbered = (tt, (tt, (tt, (tt, (tt, (tt, (tt, (tt, (tt, tt)))))))))

  hold : Holds tests
  unfolding graymap_read
  hold = all_hold size (raster_plane r text.rest) lent tests numbered v a e

  size_is : size ≡ v
  unfolding graymap_read
  size_is = value_is size (raster_plane r text.rest) lent tests numbered v a e

  plane_is : raster_plane r text.rest ≡ a
  unfolding graymap_read
  plane_is = memory_is size (raster_plane r text.rest) lent tests numbered v a e

  abbrev pixel_count : ℕ
  pixel_count = text.width * text.height

  -- the raster has one byte or two for each pixel, and all its bytes are the file's
  raster_long : length text.rest ≡ sample_bytes (extent r) * pixel_count
  raster_long =
      let m = eqb-true text.maxval (extent r) (holds_true (eqb text.maxval (extent r)) hold.1.1.1.1.1.0) in
      let b = 1 * sample_bytes text.maxval * text.width * text.height in
      eqb-true (length text.rest) b (holds_true (eqb (length text.rest) b) hold.1.1.1.1.1.1.0) ∙ omega arith ∙ ap (λ (k : ℕ). sample_bytes k * pixel_count) m

  plane_long : length (raster_plane r text.rest) ≡ pixel_count
  plane_long = length-map (raster_samples (extent r) text.rest) (from_lowest r) ∙ samples_long (extent r) pixel_count text.rest raster_long

  abbrev plane : List ℤ
  plane = raster_plane r text.rest

  raster_kept : samples_raster (extent r) (map (less_lowest r) plane) ≡ text.rest
  raster_kept =
      let i = (headers_agree 53 file).sound (holds_true text.formed hold.1.1.1.0) in
      ap (samples_raster (extent r)) (samples_kept r (raster_samples (extent r) text.rest)) ∙ raster_back (extent r) pixel_count text.rest (header_bytes i bytes) raster_long

  abbrev f : List ℕ
  f = graymap_of text.width text.height r plane

  as_read : Rewritten (settings_of text.width text.height d t) n plane file buffer
  unfolding graymap_written
  as_read = record {
    written = λ h. let s = settings_of text.width text.height d t in
        outcome_done (length f) (with_file f buffer) buffer (write_tests s n plane (length buffer))
        (holds_refusal (write_tests s n plane (length buffer))
        (hold.1.1.1.1.0, (hold.0, (hold.1.0, (true_holds (eq-eqb (length plane) pixel_count plane_long), (hold.1.1.0, (le→leb (length f) (length buffer) h, (hold.1.1.1.1.1.1.1.1.0, tt))))))));
    raster = ap (λ (x : HeaderText). x.rest) (header_back 53 text.width text.height (extent r) (samples_raster (extent r) (map (less_lowest r) plane))) ∙ raster_kept;
  }

  rewritten : Rewritten (settings_of v.width v.height d t) n a file buffer
  rewritten =
      subst (λ (x : Size). Rewritten (settings_of x.width x.height d t) n a file buffer) size_is
      (subst (λ (l : List ℤ). Rewritten (settings_of text.width text.height d t) n l file buffer) plane_is as_read)

pub rasters_kept : RastersKept
rasters_kept = rewritten

-- ---- lengths
pub files_measured : FilesMeasured
files_measured w h r a s m l =
    let z = sized_range w h s in
    record {
      length_is = graymap_long w h r a ∙ ap (λ (k : ℕ). length (written_header 53 w h (extent r)) + sample_bytes (extent r) * k) l;
      header_most = omega (arith, header_long 53 w h (extent r), numeral_few 3 w (omega arith), numeral_few 3 h (omega arith), numeral_few 4 (extent r) (omega arith));
    }
