-- Bands: how many there are, a row's choice of filters, and bands as high as the picture.
use mathlib.Core.Path.{◌≡◌, refl, ap}
use mathlib.Core.Bool.{true}
use mathlib.Core.List.{List}
use Prim.Native.Nat.{ℕ, suc, ◌+◌, ◌*◌, ◌-◌, ◌/◌, ◌≤◌, ◌<◌}
use native.Mathlib.Nat.{mul_comm, lt-mul-div-succ, le-div_iff_mul-le, div-lt_iff_lt-mul, div-eq_of_lt, div-eq_of_lt-le}
use native.Mathlib.Omega.{arith}
use lib.Arith.{digits_div}
use borrow.Table.Steps.{cases}
use lib.ListN.{get_or}
use Rattle.integers.proofs.Booleans.{holds_true, true_holds}
use Rattle.stage.specs.Answers.{sized, between, refusal}
use Rattle.stage.specs.Settings.{Settings, Form, Plain, Wrapped, One, Of, band_count, pixels}
use Rattle.stage.specs.Planes.{Triple, Planes}
use Rattle.stage.specs.Steps.{steps}
use Rattle.stage.specs.Transform.{choice_count, choices_fit, choice_at, lengths, settings_tests, setup, HasSize, transformed, untransformed, is_picture, reachable, unreachable, forward, inverse}
use Rattle.stage.specs.BandedForms.{BandsCounted, RowsUseTheirBand, BandsAsHigh}
use Rattle.stage.proofs.Answers.{Numbered, between_iff, sized_iff, calls_agree}
use Rattle.stage.proofs.Validity.{fit_iff}
use Rattle.stage.proofs.Setups.{run_same, undo_same}

pub bands_counted : BandsCounted
bands_counted n h some =
    let t = h + (n - 1) in
    record {
      all = omega (arith, lt-mul-div-succ t some);
      begin = λ b l. omega (arith, (le-div_iff_mul-le {k = n} {x = suc b} {y = t} some).0 l);
    }

pub rows_use_their_band : RowsUseTheirBand
rows_use_their_band n s φ b y x h l k = rw (digits_div (b * n + y) l, digits_div b h)

-- ---- bands as high as the picture
module _ (s : Settings) where
  one_band : (i : ℕ) → 1 ≤ s.width → i < pixels s → (k : ℕ) → choice_at (Of s.height) s k i ≡ k
  one_band i w h k =
      let row : i / s.width < s.height = (div-lt_iff_lt-mul {k = s.width} {x = i} {y = s.height} w).1 (omega (arith, mul_comm s.width s.height)) in
      rw (div-eq_of_lt row) (omega arith)

  one_set : 1 ≤ s.height → choice_count (Of s.height) s ≡ choice_count One s
  one_set h =
      let e : band_count s.height s.height ≡ 1 = div-eq_of_lt-le s.height (omega arith) (omega arith) in
      rw e (omega arith)

  settings_same : (κ : Form) (φ : List ℕ) (l : Triple ℕ)
      → refusal (settings_tests κ (Of s.height) s (choices_fit (Of s.height) s φ) l) ≡ refusal (settings_tests κ One s (choices_fit One s φ) l)
  settings_same κ φ l = cases (sized s.width s.height) fits (λ e. rw e)
    where
      fits : sized s.width s.height ≡ true
          → refusal (settings_tests κ (Of s.height) s (choices_fit (Of s.height) s φ) l) ≡ refusal (settings_tests κ One s (choices_fit One s φ) l)
      fits e =
          let h = ((sized_iff s.width s.height).0 (true_holds e)).1.0 in
          let bands : between 1 s.height s.height ≡ true = holds_true _ ((between_iff 1 s.height s.height).1 (h, omega arith)) in
          rw (bands, one_set h)

  -- planes of the picture's size go to the same, and come back to the same
  module _ (κ : Form) (φ : List ℕ) (p : Planes) (w : 1 ≤ s.width) (size : HasSize s p) where
    filters : (k i : ℕ) → i < pixels s → (setup κ (Of s.height) s φ).filter k i ≡ (setup κ One s φ).filter k i
    filters k i h = ap (λ (n : ℕ). get_or φ n 0) (one_band i w h k)

    there_same : transformed κ (Of s.height) s φ p ≡ transformed κ One s φ p
    unfolding transformed
    there_same = run_same (setup κ (Of s.height) s φ) (setup κ One s φ) refl refl refl (λ z. refl) (pixels s) filters (steps s.transform) p size

    back_same : untransformed κ (Of s.height) s φ p ≡ untransformed κ One s φ p
    unfolding untransformed
    back_same = undo_same (setup κ (Of s.height) s φ) (setup κ One s φ) refl refl refl (λ z. refl) (pixels s) filters (steps s.transform) p size

reachable_same : (κ : Form) (s : Settings) (φ : List ℕ) (q : Planes) → untransformed κ (Of s.height) s φ q ≡ untransformed κ One s φ q
    → reachable κ (Of s.height) s φ q ≡ reachable κ One s φ q
reachable_same Plain s φ q e = ap (is_picture s) e
reachable_same Wrapped s φ q e = refl

pub bands_as_high : BandsAsHigh
unfolding forward inverse
bands_as_high κ s φ p =
    let n = Of s.height in
    let l = settings_tests κ n s (choices_fit n s φ) (lengths p) in
    let m = settings_tests κ One s (choices_fit One s φ) (lengths p) in
    let numbered : Numbered l = (tt, (tt, (tt, (tt, (tt, (tt, (tt, tt))))))) in
    let fit = (fit_iff κ n s φ p).0 in
    let agree = calls_agree {A = Unit {0}} {M = Planes} tt p l m numbered numbered (settings_same s κ φ (lengths p)) in
    record {
      there = agree (is_picture s p) (is_picture s p) 11 (transformed κ n s φ p) (transformed κ One s φ p)
          (λ h. let f = fit h in (refl, there_same s κ φ p f.0.allowed.width_least f.1));
      back = agree (reachable κ n s φ p) (reachable κ One s φ p) (unreachable κ) (untransformed κ n s φ p) (untransformed κ One s φ p)
          (λ h. let f = fit h in let e = back_same s κ φ p f.0.allowed.width_least f.1 in (reachable_same κ s φ p e, e));
    }
