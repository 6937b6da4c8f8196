-- Planes are ready before each step: of a picture on its way forward and back again, and of planes within their ranges on the way back.
use mathlib.Core.Path.{◌≡◌, refl, sym, ap, ◌∙◌, subst}
use mathlib.Core.List.{List}
use Prim.Native.Nat.{ℕ, ◌+◌, ◌-◌, ◌≤◌}
use native.Mathlib.Omega.{arith}
use lib.Dec.{T}
use lib.ListN.{length, take, drop}
use lib.Seq.{take-add}
use Rattle.integers.specs.Slices.{slice}
use Rattle.integers.proofs.Slices.{slice_front, slice_back}
use Rattle.stage.specs.declared.Range.{Range}
use Rattle.stage.specs.declared.Settings.{Settings}
use Rattle.stage.specs.declared.Form.{Form}
use Rattle.stage.specs.declared.Bands.{Bands}
use Rattle.stage.specs.declared.Form.TheVariants.{Plain}
use Rattle.stage.specs.declared.Plane.{Plane}
use Rattle.stage.specs.Settings.{depth_at, depths_suit}
use Rattle.stage.specs.declared.Triple.{Triple}
use Rattle.stage.specs.Planes.{Planes}
use Rattle.stage.specs.Steps.{Step, steps, run, undo}
use Rattle.stage.specs.Ranges.{ranges, sample_ranges, finished_ranges, bounded, InRanges}
use Rattle.stage.specs.Transform.{HasSize, Picture, setup}
use Rattle.stage.proofs.Reversal.{run_length, undo_length}
use Rattle.stage.proofs.StepLists.{ranges_append, run_back, undo_part}
use Rattle.stage.proofs.StepRanges.{keeps_wider, ranges_grow, run_in, take_inside, in_inside}
use Rattle.stage.proofs.Forms.{forms_keep_ranges}
use Rattle.stage.proofs.Numbers.{finished_within, bounded_in, met_back}
use Rattle.lifting.specs.Steps.{Ready, StepsFit, RunReady, UndoReady, AtStep}

pub picture_first : {s : Settings} {p : Planes} → Picture s p → AtStep s 0 p
picture_first x = record { size = x.size; inside = x.samples }

-- further steps on, in a form that takes the depths
pub at_next : (κ : Form) (β : Bands) {s : Settings} {i : ℕ} {q : Planes} → T (depths_suit κ s.depths) → AtStep s i q → (j : ℕ) (φ : List ℕ) (p : Planes) → i ≤ j → p ≡ run (setup κ β s φ) (slice (steps s.transform) i j) q → AtStep s j p
at_next κ β {s} {i} {q} d z j φ p h e =
    let l = steps s.transform in
    let m = slice l i j in
    let before = ranges (take i l) (sample_ranges s) in
    let n : i + (j - i) ≡ j = omega arith in
    let r : ranges m before ≡ ranges (take j l) (sample_ranges s) =
    sym (ranges_append (take i l) m (sample_ranges s)) ∙ ap (λ (x : List Step). ranges x (sample_ranges s)) (sym (take-add i (j - i) l) ∙ ap (λ (x : ℕ). take x l) n) in
    let keeps = keeps_wider (setup κ β s φ) (sample_ranges s) before (ranges_grow (take i l) (sample_ranges s)) (forms_keep_ranges κ β s φ d) in
    rw e (record {
      size = λ c. run_length (setup κ β s φ) m q c ∙ z.size c;
      inside = subst (λ (x : Triple Range). InRanges x (run (setup κ β s φ) m q)) r (run_in (setup κ β s φ) m before q keeps z.inside);
    })

module _ {s : Settings} (deep : (c : Plane) → depth_at s c ≤ 16) where
  -- within the ranges of finished planes, which hold those on the way
  pub at_finished : {k : ℕ} {q : Planes} → AtStep s k q → InRanges (finished_ranges s) q
  at_finished {k} {q} z = in_inside _ (finished_ranges s) (take_inside (steps s.transform) k (sample_ranges s)) q z.inside

  pub at_ready : {k : ℕ} {q : Planes} → AtStep s k q → Ready s q
  at_ready {k} {q} z = record { size = z.size; small = bounded_in q (in_inside (finished_ranges s) bounded (finished_within s deep) q (at_finished z)) }

  module _ (κ : Form) (β : Bands) (d : T (depths_suit κ s.depths)) {φ : List ℕ} {from to : ℕ} (fit : StepsFit β s φ from to) {q : Planes} (z : AtStep s from q) where
    between : (k : ℕ) → from ≤ k → Ready s (run (setup κ β s φ) (slice (steps s.transform) from k) q)
    between k h = at_ready (at_next κ β d z k φ _ h refl)

    pub ready_run : RunReady κ β s φ from to q
    ready_run = record { fit = fit; ready = λ k h _. between k h }

  -- and back
  pub ready_undo : {β : Bands} {φ : List ℕ} {from to : ℕ} (fit : StepsFit β s φ from to) {q : Planes} (z : AtStep s from q) {p : Planes} → p ≡ run (setup Plain β s φ) (slice (steps s.transform) from to) q
      → UndoReady Plain β s φ from to p
  ready_undo {β} {φ} {from} {to} fit {q} z {p} e = record {
    fit = fit;
    ready = λ k h g.
        subst (Ready s) (sym (ap (undo (setup Plain β s φ) (slice (steps s.transform) k to)) e ∙ run_back β s φ from k to q h g))
        (between Plain β tt fit z k h);
  }

  -- the way back of planes within their ranges
  module _ (κ : Form) (β : Bands) (d : T (depths_suit κ s.depths)) {φ : List ℕ} {n : ℕ} (fit : StepsFit β s φ 0 n) (all : n ≡ length (steps s.transform)) {q : Planes} (size : HasSize s q) (inside : InRanges (finished_ranges s) q) where
    undone : (k : ℕ) → Ready s (undo (setup κ β s φ) (drop k (steps s.transform)) q)
    undone k = record {
      size = λ c. undo_length (setup κ β s φ) (drop k (steps s.transform)) q c ∙ size c;
      small = bounded_in _ (met_back s (setup κ β s φ) k q deep (forms_keep_ranges κ β s φ d) inside);
    }

    pub ready_inverse : UndoReady κ β s φ 0 n q
    ready_inverse = record { fit = fit; ready = λ k _ _. rw (slice_back (steps s.transform) k n all) (undone k) }

  -- and forward again
  pub ready_again : {β : Bands} {φ : List ℕ} {n : ℕ} (fit : StepsFit β s φ 0 n) (all : n ≡ length (steps s.transform)) {q : Planes} (size : HasSize s q) (inside : InRanges (finished_ranges s) q)
      {u : Planes} → u ≡ undo (setup Plain β s φ) (slice (steps s.transform) 0 n) q → RunReady Plain β s φ 0 n u
  ready_again {β} {φ} {n} fit all {q} size inside {u} e = record {
    fit = fit;
    ready = λ k _ _. rw (e, slice_back (steps s.transform) 0 n all, slice_front (steps s.transform) k, undo_part β s φ k q) (undone Plain β tt fit all size inside k);
  }
