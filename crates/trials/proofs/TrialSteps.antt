-- A trial's steps: a place's filter matters from its step on, planes that no step changes stay as they are, and the estimates of the
-- planes that are changed and of the others add up.
use mathlib.Core.Path.{◌≡◌, refl, sym, ap, ◌∙◌}
use mathlib.Core.Bool.{Bool, true, false, cond, not, ◌||◌}
use mathlib.Core.List.{List, [], ◌∷◌}
use Prim.Native.Nat.{ℕ, zero, suc, ◌+◌, ◌≤◌}
use native.Mathlib.Omega.{arith}
use borrow.Author.Tests.{eqb-false, lt-ltb, le-ltb}
use lib.Dec.{ltb, leb-suc-suc}
use lib.ListN.{length, take, drop, set}
use lib.Seq.{get_or-set_other}
use Rattle.integers.specs.Slices.{slice}
use Rattle.integers.proofs.Booleans.{false_fails}
use Rattle.integers.proofs.Slices.{slice_back}
use Rattle.stage.specs.declared.Settings.{Settings}
use Rattle.stage.specs.declared.Form.TheVariants.{Plain}
use Rattle.stage.specs.declared.Bands.TheVariants.{One}
use Rattle.stage.specs.declared.Plane.{Plane}
use Rattle.stage.specs.declared.Plane.TheVariants.{C1, C2, C3}
use Rattle.stage.specs.Settings.{depth_at, Allowed}
use Rattle.stage.specs.declared.Triple.{Triple}
use Rattle.stage.specs.Planes.{Planes, triple, get, same_plane}
use Rattle.stage.specs.Steps.{Setup, Step, Term, ◌ᵈ◌, ◌⊕◌, ◌/2, ◌/4, step, run, undo, steps}
use Rattle.stage.specs.Ranges.{widest}
use Rattle.stage.specs.Transform.{setup}
use Rattle.stage.specs.Estimate.{plane_estimate, picture_estimate}
use Rattle.stage.proofs.Triples.{get_other}
use Rattle.stage.proofs.Setups.{SameFilters, step_same}
use Rattle.stage.proofs.StepLists.{slice_undone}
use Rattle.stage.proofs.Numbers.{extent_widest, widest_most}
use Rattle.stage.proofs.Validity.{pixels_some, pixels_most}
use Rattle.estimate.specs.Counting.{Countable}
use Rattle.lifting.specs.Passes.{has_place, step_of, changes, last_change}
use Rattle.lifting.specs.Steps.{AtStep, StepsFit, UndoReady}
use Rattle.lifting.proofs.Readiness.{at_finished, ready_undo}
use Rattle.trials.specs.Trials.{changed, others, part_estimate, base_estimate, trial_estimate, ChoicesReady}

-- ---- two tests, both false
or-false : (a b : Bool) → (a || b) ≡ false → (a ≡ false) × (b ≡ false)
or-false true b e = let z : ◌≡◌ {A = ℕ} 0 1 = cc in absurd (omega arith)
or-false false b e = (refl, e)

-- ---- a place's filter
module _ (s : Settings) (φ : List ℕ) (k f : ℕ) where
  abbrev σ : Setup
  σ = setup Plain One s φ

  abbrev τ : Setup
  τ = setup Plain One s (set φ k f)

  -- a term without the place does not depend on it
  same_places : (t : Term) → has_place t k ≡ false → (i : ℕ) → SameFilters τ σ t i
  same_places (c ᵈ j) e i = get_or-set_other φ k j f 0 (eqb-false j k e)
  same_places (t ⊕ u) e i = let b = or-false (has_place t k) (has_place u k) e in (same_places t b.0 i, same_places u b.1 i)
  same_places (t /2) e i = same_places t e i
  same_places (t /4) e i = same_places t e i

  -- the steps before the place's own do not depend on it
  before : (x : Step) (l : List Step) (n : ℕ) (p : Planes) → ((q : Planes) → run τ (take n l) q ≡ run σ (take n l) q) → (b : Bool) → has_place x.term k ≡ b
      → run τ (take (cond b 0 (suc n)) (x ∷ l)) p ≡ run σ (take (cond b 0 (suc n)) (x ∷ l)) p
  before x l n p h true e = refl
  before x l n p h false e = ap (run τ (take n l)) (step_same τ σ refl refl p refl (λ z. refl) x (λ i b. same_places x.term e i)) ∙ h (step σ x p)

  pub run_before : (l : List Step) (p : Planes) → run τ (take (step_of l k) l) p ≡ run σ (take (step_of l k) l) p
  run_before [] p = refl
  run_before (x ∷ l) p = before x l (step_of l k) p (run_before l) (has_place x.term k) refl

-- ---- planes that no step changes
run_unchanged : (σ : Setup) (l : List Step) (c : Plane) (p : Planes) → changes l c ≡ false → get (run σ l p) c ≡ get p c
run_unchanged σ [] c p e = refl
run_unchanged σ (x ∷ l) c p e =
    let b = or-false (same_plane c x.plane) (changes l c) e in
    run_unchanged σ l c (step σ x p) b.1 ∙ get_other p c x.plane _ (false_fails b.0)

unchanged_last : (l : List Step) (c : Plane) → changes l c ≡ false → last_change l c ≡ 0
unchanged_last [] c e = refl
unchanged_last (x ∷ l) c e = rw e

-- a plane is changed from step k on exactly where k is before its last change
changes_before : (l : List Step) (k : ℕ) (c : Plane) → changes (drop k l) c ≡ ltb k (last_change l c)
changes_before [] zero c = refl
changes_before [] (suc k) c = sym (le-ltb (suc k) 0 (omega arith))
changes_before (x ∷ l) zero c = by (changes (x ∷ l) c)
  where
    by : (b : Bool) → b ≡ ltb 0 (cond b (suc (last_change l c)) 0)
    by true = sym (lt-ltb 0 (suc (last_change l c)) (omega arith))
    by false = refl
changes_before (x ∷ l) (suc k) c = changes_before l k c ∙ by (same_plane c x.plane || changes l c) refl
  where
    by : (b : Bool) → (same_plane c x.plane || changes l c) ≡ b → ltb k (last_change l c) ≡ ltb (suc k) (cond b (suc (last_change l c)) 0)
    by true e = sym (leb-suc-suc (suc k) (last_change l c))
    by false e = rw (unchanged_last l c (or-false (same_plane c x.plane) (changes l c) e).1) (le-ltb k 0 (omega arith) ∙ sym (le-ltb (suc k) 0 (omega arith)))

-- the numbers of steps up to the last changes, as they were found
pub changed_is : (l : List Step) (k n1 n2 n3 : ℕ) → n1 ≡ last_change l C1 → n2 ≡ last_change l C2 → n3 ≡ last_change l C3
    → triple (ltb k n1) (ltb k n2) (ltb k n3) ≡ changed (drop k l)
changed_is l k n1 n2 n3 e1 e2 e3 = rw (e1, e2, e3, changes_before l k C1, changes_before l k C2, changes_before l k C3)

-- ---- estimates in parts
module _ (w : ℕ) (l : List Step) (p q : Planes) (same : (c : Plane) → changes l c ≡ false → get q c ≡ get p c) where
  part : (c : Plane) (b : Bool) → changes l c ≡ b → cond b (plane_estimate w (get q c)) 0 + cond (not b) (plane_estimate w (get p c)) 0 ≡ plane_estimate w (get q c)
  part c true e = omega arith
  part c false e = rw (same c e) (omega arith)

  parts_estimate : part_estimate w (changed l) q + part_estimate w (others (changed l)) p ≡ picture_estimate w q
  unfolding part_estimate picture_estimate
  parts_estimate = omega (arith, part C1 (changes l C1) refl, part C2 (changes l C2) refl, part C3 (changes l C3) refl)

-- the estimates of a trial add up
pub trial_sum : (s : Settings) (k n : ℕ) (φ : List ℕ) (q p : Planes) {b : Triple Bool} {base e : ℕ} → n ≡ length (steps s.transform)
    → p ≡ run (setup Plain One s φ) (slice (steps s.transform) k n) q → b ≡ changed (drop k (steps s.transform)) → base ≡ base_estimate s k q → e ≡ part_estimate s.width b p
    → base + e ≡ trial_estimate s k q φ
unfolding trial_estimate
trial_sum s k n φ q p {b} {base} {e} all ran set_is base-is e-is =
    let w = s.width in
    let l = drop k (steps s.transform) in
    let r : p ≡ run (setup Plain One s φ) l q = ran ∙ ap (λ (m : List Step). run (setup Plain One s φ) m q) (slice_back (steps s.transform) k n all) in
    let x : e ≡ part_estimate w (changed l) (run (setup Plain One s φ) l q) = e-is ∙ ap (λ (c : Triple Bool). part_estimate w c p) set_is ∙ ap (part_estimate w (changed l)) r in
    omega (arith, base-is, x, parts_estimate w l q (run (setup Plain One s φ) l q) (λ c. run_unchanged (setup Plain One s φ) l c q))

-- ---- all steps from k on, run and undone
pub steps_fit : {s : Settings} {k b n : ℕ} {q : Planes} {φ l : List ℕ} → ChoicesReady s k b q φ l → n ≡ length (steps s.transform) → StepsFit One s φ k n
steps_fit p e = record {
  transform = p.trial.allowed.transform_most;
  depth = p.trial.allowed.depth_most C1;
  bands = tt;
  order = omega (arith, e, p.trial.step);
  last = omega (arith, e);
  choices = p.choices;
}

pub run_all : (s : Settings) (k n : ℕ) (φ : List ℕ) (q : Planes) {p : Planes} → n ≡ length (steps s.transform)
    → p ≡ run (setup Plain One s φ) (slice (steps s.transform) k n) q → p ≡ run (setup Plain One s φ) (drop k (steps s.transform)) q
run_all s k n φ q all ran = ran ∙ ap (λ (m : List Step). run (setup Plain One s φ) m q) (slice_back (steps s.transform) k n all)

module _ {s : Settings} {φ : List ℕ} {k n : ℕ} (fit : StepsFit One s φ k n) (all : n ≡ length (steps s.transform)) (q : Planes) {p : Planes}
    (ran : p ≡ run (setup Plain One s φ) (drop k (steps s.transform)) q) where
  by_slice : p ≡ run (setup Plain One s φ) (slice (steps s.transform) k n) q
  by_slice = ran ∙ ap (λ (m : List Step). run (setup Plain One s φ) m q) (sym (slice_back (steps s.transform) k n all))

  pub ready_back : ((c : Plane) → depth_at s c ≤ 16) → AtStep s k q → UndoReady Plain One s φ k n p
  ready_back deep z = ready_undo deep fit z by_slice

  pub planes_back : {o : Planes} → o ≡ undo (setup Plain One s φ) (slice (steps s.transform) k n) p → o ≡ q
  planes_back h = h ∙ ap (λ (r : Planes). undo (setup Plain One s φ) (slice (steps s.transform) k n) r) by_slice ∙ slice_undone One s φ k n q

-- ---- planes that stand before a step can be counted
pub countable : {s : Settings} {k : ℕ} {q : Planes} → Allowed s → AtStep s k q → (c : Plane) → Countable s.width (widest s) (get q c)
countable {s} {k} {q} a z c = record {
  across = a.width_least;
  narrow = omega (arith, a.width_most);
  some = rw (z.size c) (pixels_some a);
  most = rw (z.size c) (pixels_most a);
  small = widest_most s a.depth_most;
  range = record { below = _; above = _; all = at_finished a.depth_most z c; extent = extent_widest s c };
}
