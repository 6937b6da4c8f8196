-- A turn of the loops over steps: planes q after the steps so far, and r after one step more.
use mathlib.Core.Path.{◌≡◌, refl, sym, ap, ◌∙◌}
use mathlib.Core.Bool.{Bool, true, false}
use mathlib.Core.List.{List}
use Prim.Native.Nat.{ℕ, suc, ◌+◌, ◌≤◌, ◌<◌}
use native.Mathlib.Omega.{arith}
use Rattle.integers.specs.Slices.{slice}
use Rattle.integers.proofs.Slices.{slice_none}
use Rattle.stage.specs.declared.Settings.{Settings}
use Rattle.stage.specs.declared.Form.{Form}
use Rattle.stage.specs.declared.Bands.{Bands}
use Rattle.stage.specs.Planes.{Planes}
use Rattle.stage.specs.Steps.{Step, steps, step, run, undo, reversed}
use Rattle.stage.specs.Transform.{setup}
use Rattle.stage.proofs.StepLists.{run_more, undo_more}
use Rattle.lifting.specs.Passes.{any_step, step_at, reversed_if}
use Rattle.lifting.specs.Steps.{Ready, StepsFit, StepReady, RunReady, UndoReady}

step_ready : {κ : Form} {β : Bands} {s : Settings} {φ : List ℕ} {from to : ℕ} (k : ℕ) (back : Bool) {q : Planes} → StepsFit β s φ from to → k < to
    → Ready s q → Ready s (step (setup κ β s φ) (reversed_if back (step_at s.transform k)) q) → StepReady κ β s φ k back q
step_ready k back f h r t = record {
  fit = record { transform = f.transform; order = omega arith; last = omega (arith, f.last); depth = f.depth; bands = f.bands; choices = f.choices };
  before = r;
  after = t;
}

module _ {κ : Form} {β : Bands} {s : Settings} {φ : List ℕ} {from to : ℕ} {p : Planes} (d : RunReady κ β s φ from to p) where
  pub run_none : p ≡ run (setup κ β s φ) (slice (steps s.transform) from from) p
  run_none = sym (ap (λ (l : List Step). run (setup κ β s φ) l p) (slice_none (steps s.transform) from))

module _ {κ : Form} {β : Bands} {s : Settings} {φ : List ℕ} {from to : ℕ} {p : Planes} (d : RunReady κ β s φ from to p) (k : ℕ) (q : Planes) (low : from ≤ k) (high : k < to)
    (e : q ≡ run (setup κ β s φ) (slice (steps s.transform) from k) p) where
  pub run_turn : (r : Planes) → r ≡ step (setup κ β s φ) (step_at s.transform k) q → r ≡ run (setup κ β s φ) (slice (steps s.transform) from (k + 1)) p
  run_turn r g =
      g ∙ ap (step (setup κ β s φ) (step_at s.transform k)) e
      ∙ sym (run_more (setup κ β s φ) (steps s.transform) any_step from k p low (omega (arith, d.fit.last)))

  pub run_ready : StepReady κ β s φ k false q
  run_ready = step_ready k false d.fit high (rw e (d.ready k low (omega arith))) (rw (run_turn _ refl) (d.ready (k + 1) (omega arith) (omega arith)))

module _ {κ : Form} {β : Bands} {s : Settings} {φ : List ℕ} {from to : ℕ} {p : Planes} (d : UndoReady κ β s φ from to p) where
  pub undo_none : p ≡ undo (setup κ β s φ) (slice (steps s.transform) to to) p
  undo_none = sym (ap (λ (l : List Step). undo (setup κ β s φ) l p) (slice_none (steps s.transform) to))

-- j is k + 1
module _ {κ : Form} {β : Bands} {s : Settings} {φ : List ℕ} {from to : ℕ} {p : Planes} (d : UndoReady κ β s φ from to p) (k : ℕ) (q : Planes) (low : from ≤ k) (high : k < to)
    (j : ℕ) (i : j ≡ suc k) (e : q ≡ undo (setup κ β s φ) (slice (steps s.transform) j to) p) where
  undone : q ≡ undo (setup κ β s φ) (slice (steps s.transform) (suc k) to) p
  undone = e ∙ ap (λ (n : ℕ). undo (setup κ β s φ) (slice (steps s.transform) n to) p) i

  pub undo_turn : (r : Planes) → r ≡ step (setup κ β s φ) (reversed (step_at s.transform k)) q → r ≡ undo (setup κ β s φ) (slice (steps s.transform) k to) p
  undo_turn r g =
      g ∙ ap (step (setup κ β s φ) (reversed (step_at s.transform k))) undone
      ∙ sym (undo_more (setup κ β s φ) (steps s.transform) any_step k to p high d.fit.last)

  pub undo_ready : StepReady κ β s φ k true q
  undo_ready = step_ready k true d.fit high (rw undone (d.ready (suc k) (omega arith) high)) (rw (undo_turn _ refl) (d.ready k low (omega arith)))
