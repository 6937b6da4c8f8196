-- The call that writes, test after test.
use mathlib.Core.Path.{◌≡◌, sym, ap, ap₂, ◌∙◌}
use mathlib.Core.Bool.{Bool, true}
use mathlib.Core.List.{List, [], ◌∷◌, ◌++◌}
use Prim.Native.Nat.{ℕ, ◌+◌, ◌*◌, ◌≤◌}
use lib.Dec.{leb, eqb, le→leb}
use lib.IntN.{ℤ}
use lib.ListN.{length}
use borrow.Author.Tests.{eqb-true, leb-true}
use Rattle.std.specs.Prelude.{Ok, Err}
use Rattle.integers.proofs.Booleans.{holds_true, true_holds}
use Rattle.stage.specs.declared.Range.{Range}
use Rattle.stage.specs.declared.Settings.{Settings}
use Rattle.stage.specs.Settings.{Depths}
use Rattle.stage.specs.declared.Plane as plane
use Rattle.stage.specs.declared.Refusal.{Refusal}
use Rattle.stage.specs.declared.Refusal.TheVariants.{Wide, Buffer, Unreached}
use Rattle.stage.specs.Answers.{Test, ◌else◌, refusal, number_of, outcome_of, sized}
use Rattle.stage.specs.Settings.{settings_of, pixels}
use Rattle.stage.specs.Planes.{get}
use Rattle.stage.specs.Raster.{sample_bytes}
use Rattle.stage.specs.Ranges.{finished_ranges, extent, within_range}
use Rattle.stage.specs.Graymap.{plane_of, plane_range, written_header, graymap_of, graymap_written}
use Rattle.stage.proofs.Answers.{Holds, refusal_holds, refusal_first, number_positive, err_outcome, ok_outcome, outcome_past}
use Rattle.pixmap.proofs.Tested.{tested, held_by, past_failed}
use Rattle.graymap.specs.Parts.{size_tests, with_file, written_plane, Plane, Puttable}
use Rattle.graymap.proofs.Lengths.{graymap_long}

-- the range of a plane that is known
pub range_is : (d : Depths) (t n : ℕ) {c : plane.Plane} {r : Range} → c ≡ plane_of n → r ≡ get (finished_ranges (settings_of 1 1 d t)) c → r ≡ plane_range d t n
range_is d t n e f = f ∙ ap (get (finished_ranges (settings_of 1 1 d t))) e

pub narrow_is : {v r : Range} → v ≡ r → Ok (tt {0}) ≡ tested (leb (v.below + v.above) 65535) Wide → extent r ≤ 65535
narrow_is {v} {r} e h = leb-true (extent r) 65535 (ap (λ (x : Range). leb (extent x) 65535) (sym e) ∙ held_by (leb (extent v) 65535) Wide h)

module _ (s : Settings) (n : ℕ) (a : List ℤ) (buffer : List ℕ) where
  abbrev r : Range
  r = plane_range s.depths s.transform n

  abbrev file : List ℕ
  file = graymap_of s.width s.height r a

  abbrev first : List Test
  first = size_tests s n (length a)

  -- the tests behind the first
  abbrev wide_test : Test
  wide_test = leb (extent r) 65535 else 13

  abbrev last : List Test
  last = (leb (length file) (length buffer) else 14) ∷ (within_range r a else 12) ∷ []

  pub size_refused : (e : Refusal) → number_of e ≡ refusal first → outcome_of {A = ℕ} (Err e) buffer ≡ graymap_written s n a buffer
  unfolding graymap_written
  size_refused e h =
      err_outcome (first ++ wide_test ∷ last) (length file) (with_file file buffer) buffer e (refusal_first first (wide_test ∷ last) (number_of e) h (number_positive e))

  module _ (e : 0 ≡ refusal first) where
    hold : Holds first
    hold = refusal_holds first (tt, (tt, (tt, (tt, tt)))) (sym e)

    pub wide_refused : (v : Range) → v ≡ r → (x : Refusal) → Err x ≡ tested (leb (v.below + v.above) 65535) Wide → outcome_of {A = ℕ} (Err x) buffer ≡ graymap_written s n a buffer
    unfolding graymap_written
    wide_refused v q x h =
        let g = ap (λ (u : Range). tested (leb (extent u) 65535) Wide) q in
        err_outcome (first ++ wide_test ∷ last) (length file) (with_file file buffer) buffer x (past_failed first last hold (leb (extent r) 65535) Wide x (h ∙ g))

    module _ (w : extent r ≤ 65535) where
      pub plane_sized : Plane s.width s.height r a
      plane_sized = record {
        is_sized = holds_true (sized s.width s.height) hold.0;
        long = eqb-true (length a) (pixels s) (holds_true (eqb (length a) (pixels s)) hold.1.1.1.0);
        narrow = w;
      }

      pub plane_written : written_plane s.width s.height r a buffer ≡ graymap_written s n a buffer
      unfolding graymap_written
      plane_written =
          sym (outcome_past (length file) (with_file file buffer) buffer first (wide_test ∷ last) hold
          ∙ outcome_past (length file) (with_file file buffer) buffer (wide_test ∷ []) last (le→leb (extent r) 65535 w, tt))

-- ---- a plane of this size and range: the last two tests, and the file
module _ (w h : ℕ) (r : Range) (a : List ℤ) (buffer : List ℕ) (p : Plane w h r a) (n : ℕ) (hn : n ≡ length (written_header 53 w h (extent r)) + sample_bytes (extent r) * (w * h)) where
  abbrev graymap : List ℕ
  graymap = graymap_of w h r a

  abbrev both : List Test
  both = (leb (length graymap) (length buffer) else 14) ∷ (within_range r a else 12) ∷ []

  -- the length found is the file's
  long_is : n ≡ length graymap
  long_is = hn ∙ ap (λ (k : ℕ). length (written_header 53 w h (extent r)) + sample_bytes (extent r) * k) (sym p.long) ∙ sym (graymap_long w h r a)

  abbrev room : Bool
  room = leb n (length buffer)

  pub short_refused : (e : Refusal) → Err e ≡ tested room Buffer → outcome_of {A = ℕ} (Err e) buffer ≡ written_plane w h r a buffer
  short_refused e k =
      err_outcome both (length graymap) (with_file graymap buffer) buffer e
      (past_failed [] ((within_range r a else 12) ∷ []) tt (leb (length graymap) (length buffer)) Buffer e (rw long_is at k))

  module _ (fits : Ok (tt {0}) ≡ tested room Buffer) (b : Bool) (hb : b ≡ within_range r a) where
    room_is : leb (length graymap) (length buffer) ≡ true
    room_is = ap (λ (k : ℕ). leb k (length buffer)) (sym long_is) ∙ held_by room Buffer fits

    pub sample_refused : (e : Refusal) → Err e ≡ tested b Unreached → outcome_of {A = ℕ} (Err e) buffer ≡ written_plane w h r a buffer
    sample_refused e k =
        err_outcome both (length graymap) (with_file graymap buffer) buffer e
        (past_failed ((leb (length graymap) (length buffer) else 14) ∷ []) [] (true_holds room_is, tt) (within_range r a) Unreached e (rw hb at k))

    module _ (lies : Ok (tt {0}) ≡ tested b Unreached) where
      within_is : within_range r a ≡ true
      within_is = sym hb ∙ held_by b Unreached lies

      pub puttable : Puttable w h r a buffer
      puttable = record { room = leb-true (length graymap) (length buffer) room_is; narrow = p.narrow; within = within_is }

      pub plane_put : (after : List ℕ) → after ≡ with_file graymap buffer → outcome_of (Ok n) after ≡ written_plane w h r a buffer
      plane_put after k =
          ap₂ (λ (v : ℕ) (m : List ℕ). outcome_of (Ok v) m) long_is k
          ∙ ok_outcome both (length graymap) (with_file graymap buffer) buffer (sym (rw (room_is, within_is)))
