-- The call that fills three planes: its outcome for a refused file, for planes of another length, and for filled planes.
use mathlib.Core.Path.{◌≡◌, sym, ap, ◌∙◌}
use mathlib.Core.Bool.{Bool, true, cond}
use mathlib.Core.List.{List, [], ◌∷◌}
use Prim.Native.Nat.{ℕ, ◌*◌, ◌-◌, ◌^◌, ◌≤◌}
use native.Mathlib.Omega.{arith}
use lib.Dec.{lit≤}
use lib.IntN.{ℤ}
use lib.ListN.{length}
use Rattle.std.specs.Prelude.{Ok, Err}
use Rattle.std.specs.Borrow.{Bor}
use Rattle.integers.proofs.Booleans.{true_holds}
use Rattle.stage.specs.declared.Kind.TheVariants.{Pixmap}
use Rattle.stage.specs.declared.Plane as plane
use Rattle.stage.specs.declared.Plane.TheVariants.{C1, C2, C3}
use Rattle.stage.specs.declared.Refusal.{Refusal}
use Rattle.stage.specs.declared.Refusal.TheVariants.{Plane}
use Rattle.stage.specs.Answers.{Test, ◌else◌, refusal, number_of, outcome_of}
use Rattle.stage.specs.Planes.{Planes, triple, get}
use Rattle.stage.specs.Transform.{lengths, all_equal}
use Rattle.stage.specs.Raster.{sample_bytes, raster_samples}
use Rattle.stage.specs.Pixmap.{HeaderText, header_text, depth_of, file_tests, raster_planes, planes_tests, planes_of}
use Rattle.stage.proofs.Answers.{refusal_past, refusal_first, refusal_holds, number_positive, err_outcome, ok_outcome}
use Rattle.stage.proofs.Validity.{all_equal_iff, length_at}
use Rattle.raster.specs.Samples.{Fills, Filled}
use Rattle.raster.proofs.Pairs.{samples_long}
use Rattle.pixmap.specs.declared.header_text.Parsed.{Parsed}
use Rattle.pixmap.specs.Parsed.{Accepted}
use Rattle.pixmap.proofs.Depths.{depth_maxval}
use Rattle.pixmap.proofs.Maxvals.{has_depth}
use Rattle.pixmap.proofs.Tested.{tested, test_number, held_by}
use Rattle.pixmap.proofs.Rasters.{third_filled}
use Rattle.pixmap.proofs.Refusals.{is_sized, is_taken, is_long, area}

-- the three samples of each pixel
pub pixel_samples_lem : (m w h : ℕ) (rest : List ℕ) → length rest ≡ 3 * sample_bytes m * w * h → length (raster_samples m rest) ≡ 3 * (w * h)
pixel_samples_lem m w h rest e = samples_long m (3 * (w * h)) rest (e ∙ omega arith)

module _ (file : Bor (List ℕ)) (lent : Planes) where
  abbrev T : HeaderText
  T = header_text 54 file.now

  abbrev result : Planes
  result = raster_planes (depth_of T.maxval) T.rest

  abbrev last_test : List Test
  last_test = (all_equal (T.width * T.height) (lengths lent) else 8) ∷ []

  pub planes_refused : (e : Refusal) → number_of e ≡ refusal (file_tests Pixmap T) → outcome_of {A = Unit {0}} (Err e) lent ≡ planes_of file.now lent
  unfolding planes_of
  planes_refused e h = err_outcome (planes_tests T lent) tt result lent e (refusal_first (file_tests Pixmap T) last_test (number_of e) h (number_positive e))

  module _ (r : Parsed) (s : Accepted Pixmap file r) where
    small_area : T.width * T.height ≤ 67108864
    small_area = area T.width T.height (is_sized Pixmap T s.passes)

    same_area : r.width * r.height ≡ T.width * T.height
    same_area = rw (s.width_is, s.height_is)

    -- the samples that stand behind the header
    samples_three : length (raster_samples r.maxval r.raster.now) ≡ 3 * (r.width * r.height)
    samples_three = rw (s.width_is, s.height_is, s.maxval_is, s.raster_is.bytes_are) (pixel_samples_lem T.maxval T.width T.height T.rest (is_long Pixmap T s.passes))

    samples_are : raster_samples r.maxval r.raster.now ≡ raster_samples (2 ^ depth_of T.maxval - 1) T.rest
    samples_are = rw ((depth_maxval T.maxval (has_depth T.maxval (is_taken Pixmap T s.passes))).0, s.maxval_is, s.raster_is.bytes_are)

    -- the last test, of the planes' lengths, as the code made it
    module _ (q : Planes) (b : Bool) (hq : q ≡ lent) (hb : b ≡ all_equal (r.width * r.height) (lengths q)) where
      test_is : b ≡ all_equal (T.width * T.height) (lengths lent)
      test_is = rw (hb, hq, same_area)

      last : refusal (planes_tests T lent) ≡ cond b 0 8
      last = refusal_past (file_tests Pixmap T) last_test (refusal_holds (file_tests Pixmap T) (tt, (tt, (tt, (tt, tt)))) s.passes) ∙ ap (λ (t : Bool). cond t 0 8) (sym test_is)

      pub planes_other : (e : Refusal) → Err e ≡ tested b Plane → outcome_of {A = Unit {0}} (Err e) lent ≡ planes_of file.now lent
      unfolding planes_of
      planes_other e h = err_outcome (planes_tests T lent) tt result lent e (test_number b Plane h ∙ sym last)

      module _ (h : Ok (tt {0}) ≡ tested b Plane) where
        held : b ≡ true
        held = held_by b Plane h

        three : (c : plane.Plane) → length (raster_samples r.maxval r.raster.now) ≡ 3 * length (get lent c)
        three c = omega (arith, samples_three, length_at lent c, same_area, (all_equal_iff (T.width * T.height) (lengths lent)).0 (true_holds (sym test_is ∙ held)) c)

        pub fills : (c : plane.Plane) (offset : ℕ) → offset ≤ 2 → Fills (raster_samples r.maxval r.raster.now) 3 offset 0 (get lent c)
        fills c offset g = record { enough = omega (arith, three c); within = omega arith; small = omega arith }

        -- three loops have filled the planes
        module _ (p1 p2 p3 : List ℤ) where
          abbrev l : List ℕ
          l = raster_samples r.maxval r.raster.now

          pub planes_done : Filled l 3 0 0 lent.c1 p1 → Filled l 3 1 0 lent.c2 p2 → Filled l 3 2 0 lent.c3 p3 → outcome_of (Ok (tt {0})) (triple p1 p2 p3) ≡ planes_of file.now lent
          unfolding planes_of
          planes_done f g k =
              let e : triple p1 p2 p3 ≡ result =
              rw (third_filled l 0 f (three C1) (lit≤ tt), third_filled l 1 g (three C2) (lit≤ tt), third_filled l 2 k (three C3) (lit≤ tt), samples_are) in
              ap (λ (p : Planes). outcome_of {A = Unit {0}} (Ok tt) p) e
              ∙ ok_outcome (planes_tests T lent) tt result lent (sym (last ∙ ap (λ (t : Bool). cond t 0 8) held))
