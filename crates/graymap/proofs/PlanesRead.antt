-- The call that reads, test after test.
use mathlib.Core.Path.{◌≡◌, sym, ap, ap₂, ◌∙◌}
use mathlib.Core.Bool.{Bool, true, cond}
use mathlib.Core.List.{List, [], ◌∷◌, ◌++◌, map}
use Prim.Native.Nat.{ℕ, ◌+◌, ◌*◌, ◌≤◌}
use native.Mathlib.Omega.{arith}
use lib.Dec.{leb, eqb, le→leb}
use lib.IntN.{ℤ}
use lib.ListN.{length}
use borrow.Author.Tests.{eqb-true}
use Rattle.std.specs.Prelude.{Ok, Err}
use Rattle.std.specs.Borrow.{Bor}
use Rattle.integers.proofs.Booleans.{true_holds}
use Rattle.stage.specs.Settings.{Depths}
use Rattle.stage.specs.declared.Kind.TheVariants.{Graymap}
use Rattle.stage.specs.declared.Range.{Range}
use Rattle.stage.specs.declared.Size.{Size}
use Rattle.stage.specs.declared.Refusal.{Refusal}
use Rattle.stage.specs.declared.Refusal.TheVariants.{Plane, Wide, Unreached}
use Rattle.stage.specs.Answers.{Test, ◌else◌, refusal, number_of, outcome_of}
use Rattle.stage.specs.Ranges.{extent, within_range}
use Rattle.stage.specs.Raster.{sample_bytes, raster_samples}
use Rattle.stage.specs.Pixmap.{HeaderText, header_text, file_tests}
use Rattle.stage.specs.Graymap.{plane_range, from_lowest, plane_tests, raster_plane, graymap_read}
use Rattle.stage.proofs.Answers.{Holds, refusal_holds, refusal_past, refusal_first, holds_append, number_positive, err_outcome, ok_outcome, outcome_past}
use Rattle.raster.specs.Samples.{highest, Filled}
use Rattle.raster.proofs.Pairs.{samples_long}
use Rattle.pixmap.specs.declared.header_text.Parsed.{Parsed}
use Rattle.pixmap.specs.Parsed.{Accepted}
use Rattle.pixmap.proofs.Tested.{tested, held_by, past_failed}
use Rattle.pixmap.proofs.Refusals.{is_taken, is_long}
use Rattle.graymap.specs.Parts.{read_file}
use Rattle.graymap.proofs.Samples.{samples_test, plane_filled}

-- ---- a file of a plane whose range is r, parsed
module _ (r : Range) (file : Bor (List ℕ)) (lent : List ℤ) (p : Parsed) (s : Accepted (Graymap (extent r)) file p) where
  abbrev T : HeaderText
  T = header_text 53 file.now

  abbrev size : Size
  size = record { width = T.width; height = T.height }

  abbrev tests : List Test
  tests = file_tests (Graymap (extent r)) T

  -- the last two tests
  abbrev last : List Test
  last = (eqb (length lent) (T.width * T.height) else 8) ∷ (within_range r (raster_plane r T.rest) else 12) ∷ []

  abbrev samples : List ℕ
  samples = raster_samples (extent r) p.raster.now

  hold : Holds tests
  hold = refusal_holds tests (tt, (tt, (tt, (tt, tt)))) s.passes

  same_area : p.width * p.height ≡ T.width * T.height
  same_area = rw (s.width_is, s.height_is)

  samples_are : samples ≡ raster_samples (extent r) T.rest
  samples_are = ap (raster_samples (extent r)) s.raster_is.bytes_are

  -- the plane has the file's size
  module _ (long : Ok (tt {0}) ≡ tested (eqb (length lent) (p.width * p.height)) Plane) where
    length_is : eqb (length lent) (T.width * T.height) ≡ true
    length_is = ap (eqb (length lent)) (sym same_area) ∙ held_by (eqb (length lent) (p.width * p.height)) Plane long

    abbrev before : List Test
    before = tests ++ (eqb (length lent) (T.width * T.height) else 8) ∷ []

    before_hold : Holds before
    before_hold = (holds_append tests ((eqb (length lent) (T.width * T.height) else 8) ∷ [])).1 (hold, (true_holds length_is, tt))

    -- as many samples as the plane has
    pub samples_count : length samples ≡ length lent
    samples_count =
        let m = eqb-true T.maxval (extent r) (is_taken (Graymap (extent r)) T s.passes) in
        let l : length T.rest ≡ sample_bytes T.maxval * (T.width * T.height) = is_long (Graymap (extent r)) T s.passes ∙ omega arith in
        samples_long (extent r) (length lent) p.raster.now
        (ap length s.raster_is.bytes_are ∙ l ∙ ap₂ (λ (x y : ℕ). sample_bytes x * y) m (sym (eqb-true (length lent) (T.width * T.height) length_is)))

    -- the last test
    module _ (b : Bool) (hb : b ≡ leb (highest samples) (extent r)) where
      test_is : b ≡ within_range r (raster_plane r T.rest)
      test_is = hb ∙ ap (λ (l : List ℕ). leb (highest l) (extent r)) samples_are ∙ samples_test r (raster_samples (extent r) T.rest)

      pub sample_refused : (e : Refusal) → Err e ≡ tested b Unreached → outcome_of {A = Size} (Err e) lent ≡ read_file r file.now lent
      sample_refused e h = err_outcome (tests ++ last) size (raster_plane r T.rest) lent e (past_failed before [] before_hold (within_range r (raster_plane r T.rest)) Unreached e (rw test_is at h))

      pub plane_restored : Ok (tt {0}) ≡ tested b Unreached → {after : List ℤ} → Filled samples 1 0 r.below lent after
          → outcome_of (Ok (record { width = p.width; height = p.height })) after ≡ read_file r file.now lent
      plane_restored h {after} f =
          let w = sym test_is ∙ held_by b Unreached h in
          ap₂ (λ (v : Size) (m : List ℤ). outcome_of (Ok v) m)
          (ap₂ (λ (x y : ℕ). record { width = x; height = y }) s.width_is s.height_is)
          (plane_filled r samples f samples_count ∙ ap (λ (l : List ℕ). map (from_lowest r) l) samples_are)
          ∙ ok_outcome (tests ++ last) size (raster_plane r T.rest) lent
          (sym (refusal_past before ((within_range r (raster_plane r T.rest) else 12) ∷ []) before_hold ∙ ap (λ (t : Bool). cond t 0 12) w))

-- ---- what comes before the file
module _ (d : Depths) (t n : ℕ) (file : List ℕ) (lent : List ℤ) where
  abbrev range : Range
  range = plane_range d t n

  abbrev text : HeaderText
  text = header_text 53 file

  abbrev answer : Size
  answer = record { width = text.width; height = text.height }

  abbrev plane : List ℤ
  plane = raster_plane range text.rest

  abbrev wide_test : Test
  wide_test = leb (extent range) 65535 else 13

  abbrev file_and_last : List Test
  file_and_last = file_tests (Graymap (extent range)) text ++ (eqb (length lent) (text.width * text.height) else 8) ∷ (within_range range plane else 12) ∷ []

  pub plane_refused : (e : Refusal) → number_of e ≡ refusal (plane_tests d t n) → outcome_of {A = Size} (Err e) lent ≡ graymap_read d t n file lent
  unfolding graymap_read
  plane_refused e h =
      err_outcome (plane_tests d t n ++ wide_test ∷ file_and_last) answer plane lent e (refusal_first (plane_tests d t n) (wide_test ∷ file_and_last) (number_of e) h (number_positive e))

  module _ (e : 0 ≡ refusal (plane_tests d t n)) where
    first : Holds (plane_tests d t n)
    first = refusal_holds (plane_tests d t n) (tt, (tt, tt)) (sym e)

    pub wide_refused : (r : Range) → r ≡ range → (x : Refusal) → Err x ≡ tested (leb (r.below + r.above) 65535) Wide → outcome_of {A = Size} (Err x) lent ≡ graymap_read d t n file lent
    unfolding graymap_read
    wide_refused r s x h =
        let g = ap (λ (v : Range). tested (leb (extent v) 65535) Wide) s in
        err_outcome (plane_tests d t n ++ wide_test ∷ file_and_last) answer plane lent x (past_failed (plane_tests d t n) file_and_last first (leb (extent range) 65535) Wide x (h ∙ g))

    pub file_read : extent range ≤ 65535 → read_file range file lent ≡ graymap_read d t n file lent
    unfolding graymap_read
    file_read w =
        sym (outcome_past answer plane lent (plane_tests d t n) (wide_test ∷ file_and_last) first
        ∙ outcome_past answer plane lent (wide_test ∷ []) file_and_last (le→leb (extent range) 65535 w, tt))
