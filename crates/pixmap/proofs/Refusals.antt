-- The header's tests, and that numbers kept to 100,000 get the same answer.
use mathlib.Core.Path.{◌≡◌, refl, sym, ◌∙◌}
use mathlib.Core.Bool.{Bool, true, false}
use Prim.Native.Nat.{ℕ, ◌*◌, ◌≤◌, ◌<◌, min}
use native.Mathlib.Nat.{mul-le-mul}
use native.Mathlib.Omega.{arith}
use lib.Dec.{leb, eqb}
use lib.ListN.{length}
use borrow.Author.Tests.{leb-true, leb-false, lt-leb, eqb-true}
use Rattle.integers.proofs.Booleans.{holds_true, true_holds, and-false}
use Rattle.stage.specs.declared.Kind.{Kind}
use Rattle.stage.specs.Answers.{refusal, between, sized}
use Rattle.stage.specs.Raster.{sample_bytes}
use Rattle.stage.specs.Pixmap.{HeaderText, pixel_samples, takes, file_tests}
use Rattle.stage.proofs.Answers.{Holds, refusal_holds, sized_iff}

-- ---- a text that no test refuses
module _ (k : Kind) (t : HeaderText) (e : refusal (file_tests k t) ≡ 0) where
  all_hold : Holds (file_tests k t)
  all_hold = refusal_holds (file_tests k t) (tt, (tt, (tt, (tt, tt)))) e

  pub is_formed : t.formed ≡ true
  is_formed = holds_true t.formed all_hold.0

  pub is_sized : sized t.width t.height ≡ true
  is_sized = holds_true (sized t.width t.height) all_hold.1.0

  pub is_taken : takes k t.maxval ≡ true
  is_taken = holds_true (takes k t.maxval) all_hold.1.1.0

  abbrev bytes : ℕ
  bytes = pixel_samples k * sample_bytes t.maxval * t.width * t.height

  pub is_long : length t.rest ≡ bytes
  is_long = eqb-true (length t.rest) bytes (holds_true (eqb (length t.rest) bytes) all_hold.1.1.1.0)

-- ---- width and height
pub sized_range : (w h : ℕ) → sized w h ≡ true → ((1 ≤ w) × (w ≤ 8192)) × ((1 ≤ h) × (h ≤ 8192))
sized_range w h e = (sized_iff w h).0 (true_holds e)

-- such numbers are kept as they are
pub sized_kept : (w h : ℕ) → sized w h ≡ true → (min w 100000 ≡ w) × (min h 100000 ≡ h)
sized_kept w h e = let r = sized_range w h e in (omega arith, omega arith)

pub area : (w h : ℕ) → sized w h ≡ true → w * h ≤ 67108864
area w h e = let r = sized_range w h e in omega (arith, mul-le-mul r.0.1 r.1.1)

-- ---- numbers kept to 100,000: those above 8,192 are refused like those above 100,000
above : (n : ℕ) → 8192 < n → between 1 8192 n ≡ false
above n h = rw (lt-leb n 8192 h) (and-false (leb 1 n))

too_wide : (w h : ℕ) → 8192 < w → sized w h ≡ false
too_wide w h l = rw (above w l)

too_high : (w h : ℕ) → 8192 < h → sized w h ≡ false
too_high w h l = rw (above h l) (and-false (between 1 8192 w))

-- so the test of the size gives the same
pub size_kept : (w h : ℕ) → sized (min w 100000) (min h 100000) ≡ sized w h
size_kept w h = by (leb w 100000) (leb h 100000) refl refl
  where
    by : (s t : Bool) → leb w 100000 ≡ s → leb h 100000 ≡ t → sized (min w 100000) (min h 100000) ≡ sized w h
    by true true a b =
        let x : min w 100000 ≡ w = omega (arith, leb-true w 100000 a) in
        let y : min h 100000 ≡ h = omega (arith, leb-true h 100000 b) in
        rw (x, y)
    by false t a b = let l = leb-false w 100000 a in too_wide (min w 100000) (min h 100000) (omega arith) ∙ sym (too_wide w h (omega arith))
    by true false a b = let l = leb-false h 100000 b in too_high (min w 100000) (min h 100000) (omega arith) ∙ sym (too_high w h (omega arith))
