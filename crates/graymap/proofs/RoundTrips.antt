-- What was written is read back.
use mathlib.Core.Path.{◌≡◌, refl, sym, ap, subst, ◌∙◌}
use mathlib.Core.Bool.{true}
use mathlib.Core.List.{List, map}
use Prim.Native.Nat.{ℕ, ◌*◌}
use native.Mathlib.Omega.{arith}
use lib.Dec.{T, eqb}
use lib.IntN.{ℤ}
use lib.ListN.{length, take, drop, length-map}
use borrow.Author.Tests.{eqb-true, eq-eqb}
use Rattle.integers.proofs.Booleans.{holds_true, true_holds}
use Rattle.integers.proofs.Lists.{all_within_iff}
use Rattle.stage.specs.declared.Range.{Range}
use Rattle.stage.specs.declared.Settings.{Settings}
use Rattle.stage.specs.declared.Size.{Size}
use Rattle.stage.specs.Answers.{done, Test, refusal, Outcome, outcome}
use Rattle.stage.specs.Settings.{pixels}
use Rattle.stage.specs.Ranges.{extent, within_range}
use Rattle.stage.specs.Raster.{sample_bytes, samples_raster}
use Rattle.stage.specs.Pixmap.{HeaderText, header_text}
use Rattle.stage.specs.Graymap.{plane_range, less_lowest, from_lowest, graymap_of, write_tests, graymap_written, raster_plane, read_tests, graymap_read}
use Rattle.stage.proofs.Answers.{Holds, Numbered, holds_refusal, outcome_done}
use Rattle.raster.proofs.Pairs.{raster_long, samples_back}
use Rattle.graymap.specs.Parts.{with_file}
use Rattle.graymap.specs.RoundTrips.{WrittenRestored}
use Rattle.graymap.proofs.Headers.{header_back}
use Rattle.graymap.proofs.ThereAndBack.{numbers_back, front, all_hold, value_is, memory_is}

module _ (s : Settings) (n : ℕ) (a lent : List ℤ) (buffer after : List ℕ) (count : ℕ)
    (e : graymap_written s n a buffer ≡ record { reply = done count; memory = after }) (same_length : length lent ≡ pixels s) where
  abbrev r : Range
  r = plane_range s.depths s.transform n

  abbrev f : List ℕ
  f = graymap_of s.width s.height r a

  abbrev tests : List Test
  tests = write_tests s n a (length buffer)

  hold : Holds tests
  unfolding graymap_written
  hold = all_hold (length f) (with_file f buffer) buffer tests (tt, (tt, (tt, (tt, (tt, (tt, (tt, tt))))))) count after e

  file_is : take count after ≡ f
  unfolding graymap_written
  file_is =
      let k : Numbered tests = (tt, (tt, (tt, (tt, (tt, (tt, (tt, tt))))))) in
      rw (← (value_is (length f) (with_file f buffer) buffer tests k count after e), ← (memory_is (length f) (with_file f buffer) buffer tests k count after e)) (front f (drop (length f) buffer))

  abbrev raster : List ℕ
  raster = samples_raster (extent r) (map (less_lowest r) a)

  -- the text of the file, and what reading makes of a text
  abbrev text : HeaderText
  text = record { formed = true; width = s.width; height = s.height; maxval = extent r; rest = raster }

  abbrev read_of : HeaderText → Outcome Size (List ℤ)
  read_of t = outcome (read_tests s.depths s.transform n t (length lent)) (record { width = t.width; height = t.height }) (raster_plane r t.rest) lent

  plane_is : raster_plane r raster ≡ a
  plane_is = ap (map (from_lowest r)) (samples_back (extent r) (map (less_lowest r) a)) ∙ numbers_back r a ((all_within_iff r.below r.above a).0 hold.1.1.1.1.1.1.0)

  raster_is : length raster ≡ 1 * sample_bytes (extent r) * s.width * s.height
  raster_is =
      let l = eqb-true (length a) (pixels s) (holds_true (eqb (length a) (pixels s)) hold.1.1.1.0) in
      raster_long (extent r) (map (less_lowest r) a) ∙ ap (λ (k : ℕ). sample_bytes (extent r) * k) (length-map a (less_lowest r) ∙ l) ∙ omega arith

  no_refusal : refusal (read_tests s.depths s.transform n text (length lent)) ≡ 0
  no_refusal =
      holds_refusal (read_tests s.depths s.transform n text (length lent)) (
        hold.1.0,
        (
          hold.1.1.0,
          (
            hold.1.1.1.1.0,
            (
              tt,
              (
                hold.0,
                (
                  true_holds (eq-eqb (extent r) (extent r) refl),
                  (
                    true_holds (eq-eqb (length raster) (1 * sample_bytes (extent r) * s.width * s.height) raster_is),
                    (
                      true_holds (eq-eqb (length lent) (s.width * s.height) same_length),
                      (subst (λ (l : List ℤ). T (within_range r l)) (sym plane_is) hold.1.1.1.1.1.1.0, tt),
                    ),
                  ),
                ),
              ),
            ),
          ),
        ),
      )

  restored : graymap_read s.depths s.transform n (take count after) lent ≡ record { reply = done (record { width = s.width; height = s.height }); memory = a }
  unfolding graymap_read
  restored =
      ap (λ (file : List ℕ). read_of (header_text 53 file)) file_is
      ∙ ap read_of (header_back 53 s.width s.height (extent r) raster)
      ∙ outcome_done (record { width = s.width; height = s.height }) (raster_plane r raster) lent (read_tests s.depths s.transform n text (length lent)) no_refusal
      ∙ ap (λ (l : List ℤ). record { reply = done (record { width = s.width; height = s.height }); memory = l }) plane_is

pub written_restored : WrittenRestored
written_restored = restored
