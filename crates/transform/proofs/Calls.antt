-- The calls past their tests: what the steps ask holds, and what they leave is the definitions' result.
use mathlib.Core.Path.{◌≡◌, refl, sym, ap, ◌∙◌, subst}
use mathlib.Core.Bool.{Bool, true, false, cond}
use mathlib.Core.List.{List, [], ◌∷◌, ◌++◌}
use Prim.Native.Nat.{ℕ}
use native.Mathlib.Omega.{arith}
use lib.Dec.{T}
use lib.ListN.{length}
use Rattle.integers.specs.Slices.{slice}
use Rattle.integers.proofs.Booleans.{true_holds, holds_true}
use Rattle.integers.proofs.Slices.{slice_back}
use Rattle.stage.specs.declared.Triple.{Triple}
use Rattle.stage.specs.declared.Settings.{Settings}
use Rattle.stage.specs.declared.Form.{Form}
use Rattle.stage.specs.declared.Form.TheVariants.{Plain, Wrapped}
use Rattle.stage.specs.declared.Bands.{Bands}
use Rattle.stage.specs.declared.Plane.TheVariants.{C1}
use Rattle.std.specs.Prelude.{Ok, Err}
use Rattle.stage.specs.declared.Refusal.{Refusal}
use Rattle.stage.specs.declared.Refusal.TheVariants.{Unreached}
use Rattle.stage.specs.Answers.{Test, ◌else◌, refusal, number_of, outcome, outcome_of}
use Rattle.stage.specs.Planes.{Planes}
use Rattle.stage.specs.Steps.{Step, steps, run, undo}
use Rattle.stage.specs.Ranges.{sample_ranges, finished_ranges, within_ranges, InRanges}
use Rattle.stage.specs.Transform.{choices_fit, lengths, settings_tests, HasSize, setup, transformed, untransformed, is_picture, inverse}
use Rattle.stage.proofs.Answers.{Holds, holds_append, refusal_holds, refusal_first, refusal_past, number_positive, err_outcome, ok_outcome}
use Rattle.stage.proofs.Validity.{ValidSettings, settings_iff, has_size, fit_iff}
use Rattle.stage.proofs.StepRanges.{ranges_grow, in_inside}
use Rattle.stage.proofs.Forms.{steps_cancel}
use Rattle.stage.proofs.Demand3.{within_ranges_iff, demand3}
use Rattle.lifting.specs.Steps.{StepsFit, RunReady, UndoReady}
use Rattle.transform.specs.Calls.{picture_tests}
use Rattle.lifting.proofs.Readiness.{picture_first, ready_run, ready_inverse, ready_again}

module _ (κ : Form) (β : Bands) (s : Settings) (φ : List ℕ) (p : Planes) where
  -- the tests of all calls but the last
  abbrev pub tests : List Test
  tests = settings_tests κ β s (choices_fit β s φ) (lengths p)

  -- as the code makes them, of numbers
  pub made : {fit : Bool} {n : Triple ℕ} (r : ℕ) → r ≡ refusal (settings_tests κ β s fit n) → fit ≡ choices_fit β s φ → n ≡ lengths p → r ≡ refusal tests
  made r e f k = rw (f, k) at e

  pub held : 0 ≡ refusal tests → Holds tests
  held e = refusal_holds tests (tt, (tt, (tt, (tt, (tt, (tt, (tt, tt))))))) (sym e)

  -- all tests of a call that takes a picture hold
  pub past : 0 ≡ refusal (picture_tests κ β s φ p) → Holds tests × (is_picture s p ≡ true)
  past e =
      let h = (holds_append tests ((is_picture s p else 11) ∷ [])).0 (refusal_holds (picture_tests κ β s φ p) (tt, (tt, (tt, (tt, (tt, (tt, (tt, (tt, tt)))))))) (sym e)) in
      (h.0, holds_true (is_picture s p) h.1.0)

  -- of planes that are lent on to be read
  pub moved : {u : Planes} (r : ℕ) → u ≡ p → r ≡ refusal (picture_tests κ β s φ u) → r ≡ refusal (picture_tests κ β s φ p)
  moved r k e = e ∙ ap (λ (x : Planes). refusal (picture_tests κ β s φ x)) k

  -- all steps, by their number
  module _ (n : ℕ) (all : n ≡ length (steps s.transform)) where
    pub run_all : (x : Planes) → run (setup κ β s φ) (slice (steps s.transform) 0 n) x ≡ transformed κ β s φ x
    unfolding transformed
    run_all x = ap (λ (l : List Step). run (setup κ β s φ) l x) (slice_back (steps s.transform) 0 n all)

    pub undo_all : (x : Planes) → undo (setup κ β s φ) (slice (steps s.transform) 0 n) x ≡ untransformed κ β s φ x
    unfolding untransformed
    undo_all x = ap (λ (l : List Step). undo (setup κ β s φ) l x) (slice_back (steps s.transform) 0 n all)

-- the wrapped inverse makes the tests of a call that takes a picture
pub inverse_wrapped : (κ : Form) (β : Bands) (s : Settings) (φ : List ℕ) (p : Planes) → κ ≡ Wrapped
    → outcome (picture_tests κ β s φ p) (tt {0}) (untransformed κ β s φ p) p ≡ inverse κ β s φ p
unfolding inverse
inverse_wrapped κ β s φ p k =
    subst (λ (x : Form). outcome (picture_tests x β s φ p) (tt {0}) (untransformed x β s φ p) p ≡ inverse x β s φ p) (sym k) same
  where
    same : outcome (picture_tests Wrapped β s φ p) (tt {0}) (untransformed Wrapped β s φ p) p ≡ inverse Wrapped β s φ p
    same = refl

-- past the tests of the settings
module _ (κ : Form) (β : Bands) (s : Settings) (φ : List ℕ) (p : Planes) (h : Holds (tests κ β s φ p)) where
  pub valid : ValidSettings κ β s (choices_fit β s φ) (lengths p)
  valid = (settings_iff κ β s (choices_fit β s φ) (lengths p)).0 h

  size : HasSize s p
  size = has_size p valid

  fit : (n : ℕ) → n ≡ length (steps s.transform) → StepsFit β s φ 0 n
  fit n all = record { transform = valid.allowed.transform_most; order = omega arith; last = omega (arith, all); depth = valid.allowed.depth_most C1; bands = valid.bands_suit; choices = valid.choices_fit }

  -- a picture, through all steps either way
  module _ (n : ℕ) (all : n ≡ length (steps s.transform)) (i : is_picture s p ≡ true) where
    samples : InRanges (sample_ranges s) p
    samples = (within_ranges_iff (sample_ranges s) p).0 (true_holds i)

    pub forward_ready : RunReady κ β s φ 0 n p
    forward_ready = ready_run valid.allowed.depth_most κ β valid.depths_suit (fit n all) (picture_first (record { size = size; samples = samples }))

    pub back_ready : UndoReady κ β s φ 0 n p
    back_ready =
        ready_inverse valid.allowed.depth_most κ β valid.depths_suit (fit n all) all size
        (in_inside (sample_ranges s) (finished_ranges s) (ranges_grow (steps s.transform) (sample_ranges s)) p samples)

-- ---- the plain inverse
-- its last test, of whether some picture goes to the planes
module _ (β : Bands) (s : Settings) (φ : List ℕ) (p : Planes) where
  abbrev last : Test
  last = is_picture s (untransformed Plain β s φ p) else 12

  pub inverse_refused : (e : Refusal) → number_of e ≡ refusal (tests Plain β s φ p) → outcome_of (Err e) p ≡ inverse Plain β s φ p
  unfolding inverse
  inverse_refused e k =
      err_outcome (tests Plain β s φ p ++ last ∷ []) tt (untransformed Plain β s φ p) p e (refusal_first (tests Plain β s φ p) (last ∷ []) (number_of e) k (number_positive e))

  module _ (h : Holds (tests Plain β s φ p)) where
    last_is : {b : Bool} → is_picture s (untransformed Plain β s φ p) ≡ b → refusal (tests Plain β s φ p ++ last ∷ []) ≡ cond b 0 12
    last_is e = refusal_past (tests Plain β s φ p) (last ∷ []) h ∙ ap (λ (b : Bool). cond b 0 12) e

    pub inverse_last : is_picture s (untransformed Plain β s φ p) ≡ false → outcome_of (Err Unreached) p ≡ inverse Plain β s φ p
    unfolding inverse
    inverse_last e = err_outcome (tests Plain β s φ p ++ last ∷ []) tt (untransformed Plain β s φ p) p Unreached (sym (last_is e))

    pub inverse_done : is_picture s (untransformed Plain β s φ p) ≡ true → outcome_of (Ok tt) (untransformed Plain β s φ p) ≡ inverse Plain β s φ p
    unfolding inverse
    inverse_done e = ok_outcome (tests Plain β s φ p ++ last ∷ []) tt (untransformed Plain β s φ p) p (sym (last_is e))

module _ (β : Bands) (s : Settings) (φ : List ℕ) (p : Planes) (n : ℕ) (all : n ≡ length (steps s.transform)) where
  -- the last test, made of planes u that the steps, undone, leave
  pub undone_test : {u : Planes} {ok found : Bool} → u ≡ undo (setup Plain β s φ) (slice (steps s.transform) 0 n) p → ok ≡ is_picture s u → ok ≡ found
      → is_picture s (untransformed Plain β s φ p) ≡ found
  undone_test e i f = ap (is_picture s) (sym (e ∙ undo_all Plain β s φ p n all p)) ∙ sym i ∙ f

  -- undone and run again
  pub restored : {u r : Planes} → u ≡ undo (setup Plain β s φ) (slice (steps s.transform) 0 n) p → r ≡ run (setup Plain β s φ) (slice (steps s.transform) 0 n) u → r ≡ p
  restored {u} e g = g ∙ run_all Plain β s φ p n all u ∙ ap (transformed Plain β s φ) (e ∙ undo_all Plain β s φ p n all p) ∙ (steps_cancel β s φ p).1

module _ (β : Bands) (s : Settings) (φ : List ℕ) (p : Planes) (h : Holds (tests Plain β s φ p)) where
  pub inverse_outside : within_ranges (finished_ranges s) p ≡ false → outcome_of (Err Unreached) p ≡ inverse Plain β s φ p
  inverse_outside e =
      sym ((demand3 Plain β s φ ((fit_iff Plain β s φ p).0 h).0 p (size Plain β s φ p h)).outside (λ i. subst T e ((within_ranges_iff (finished_ranges s) p).1 i)))

  module _ (n : ℕ) (all : n ≡ length (steps s.transform)) (i : within_ranges (finished_ranges s) p ≡ true) where
    inside : InRanges (finished_ranges s) p
    inside = (within_ranges_iff (finished_ranges s) p).0 (true_holds i)

    pub inverse_ready : UndoReady Plain β s φ 0 n p
    inverse_ready = ready_inverse (valid Plain β s φ p h).allowed.depth_most Plain β tt (fit Plain β s φ p h n all) all (size Plain β s φ p h) inside

    pub again_ready : (u : Planes) → u ≡ undo (setup Plain β s φ) (slice (steps s.transform) 0 n) p → RunReady Plain β s φ 0 n u
    again_ready u e = ready_again (valid Plain β s φ p h).allowed.depth_most (fit Plain β s φ p h n all) all (size Plain β s φ p h) inside e
