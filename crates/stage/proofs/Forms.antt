-- Both forms keep ranges and let steps be undone: the wrapped ones by one argument over the depth.
use mathlib.Core.Path.{◌≡◌, refl, sym, ap, ◌∙◌, subst}
use mathlib.Core.List.{List}
use Prim.Native.Nat.{ℕ, ◌-◌, ◌^◌}
use native.Mathlib.Omega.{arith}
use lib.Dec.{T, eqb, eqb→eq}
use lib.IntN.{ℤ, pos, neg_ℤ}
use lib.ListN.{length}
use lib.Pow.{pow_pos}
use Rattle.integers.specs.Parts.{In, floor_mod}
use Rattle.integers.specs.Lists.{at}
use Rattle.integers.proofs.Booleans.{and_iff}
use Rattle.integers.proofs.Ranges.{in_wider, in_zero}
use Rattle.integers.proofs.FloorModulo.{floor_mod_in, floor_mod_own, mod_sum, mod_neg}
use Rattle.stage.specs.Settings.{Settings, Form, Plain, Wrapped, Bands, depth_at, depths_suit}
use Rattle.stage.specs.Planes.{Plane, C1, C2, C3, Planes, get}
use Rattle.stage.specs.Steps.{Step, Lifting, add, subtract, negate, lift, opposite, run, undo, steps}
use Rattle.stage.specs.Ranges.{Range, max_sample, sample_range, sample_ranges, finished_ranges, form_ranges, InRanges}
use Rattle.stage.specs.Transform.{kept, setup, transformed, untransformed}
use Rattle.stage.specs.Demand3.{GoesTo}
use Rattle.stage.specs.Theorems.{StepsCancel}
use Rattle.stage.specs.WrappedForms.{FormsKeepRanges, WrappedStepsCancel}
use Rattle.stage.proofs.Reversal.{Reversible, Kept, unchanged, lift_undone, apart, undo_run, run_undo, run_kept, undo_kept, run_length}
use Rattle.stage.proofs.StepRanges.{plain_keeps, run_in}

-- ---- a change and its opposite, kept modulo 2^b
module _ (b : ℕ) where
  abbrev d : ℕ
  d = 2 ^ b

  again : (x : ℤ) → floor_mod (floor_mod x d) d ≡ floor_mod x d
  again x = floor_mod_own d (pow_pos b) (floor_mod x d) (floor_mod_in d (pow_pos b) x)

  -- a change may be made of what is kept
  lift_kept : (k : Lifting) (v x : ℤ) → floor_mod (lift k v (floor_mod x d)) d ≡ floor_mod (lift k v x) d
  lift_kept add v x = mod_sum d (pow_pos b) (floor_mod x d) x v (again x)
  lift_kept subtract v x = mod_sum d (pow_pos b) (floor_mod x d) x (neg_ℤ v) (again x)
  lift_kept negate v x = mod_sum d (pow_pos b) (neg_ℤ (floor_mod x d)) (neg_ℤ x) v (mod_neg d (pow_pos b) (floor_mod x d) x (again x))

  wrapped_reversible : Reversible (kept Wrapped b)
  wrapped_reversible = record {
    undoes = λ k v x. lift_kept (opposite k) v (lift k v x) ∙ ap (λ (z : ℤ). floor_mod z d) (lift_undone k v x);
    again = again;
    zero = floor_mod_own d (pow_pos b) (pos 0) (in_zero 0 (d - 1));
  }

reversible : (κ : Form) (b : ℕ) → Reversible (kept κ b)
reversible Plain b = unchanged (λ x. refl)
reversible Wrapped b = wrapped_reversible b

-- ---- where a form takes the depths
-- wrapped, all planes have the depth of the first
depth_first : (s : Settings) → T (depths_suit Wrapped s.depths) → (c : Plane) → depth_at s c ≡ s.depths.c1
depth_first s h c =
    let e = (and_iff (eqb s.depths.c1 s.depths.c2) (eqb s.depths.c2 s.depths.c3)).0 h in
    let p = eqb→eq s.depths.c1 s.depths.c2 e.0 in
    let q = eqb→eq s.depths.c2 s.depths.c3 e.1 in
    by p q c
  where
    by : s.depths.c1 ≡ s.depths.c2 → s.depths.c2 ≡ s.depths.c3 → (c : Plane) → depth_at s c ≡ s.depths.c1
    by p q C1 = refl
    by p q C2 = sym p
    by p q C3 = sym (p ∙ q)

range_first : (s : Settings) → T (depths_suit Wrapped s.depths) → (c : Plane) → get (sample_ranges s) c ≡ sample_range s.depths.c1
range_first s h c = by c ∙ ap sample_range (depth_first s h c)
  where
    by : (c : Plane) → get (sample_ranges s) c ≡ sample_range (depth_at s c)
    by C1 = refl
    by C2 = refl
    by C3 = refl

pub forms_keep_ranges : FormsKeepRanges
forms_keep_ranges Plain β s φ h c R i z w = w
forms_keep_ranges Wrapped β s φ h c R i z w =
    let e = ap (λ (r : Range). r.above) (range_first s h c) in
    let k = floor_mod_in (2 ^ s.depths.c1) (pow_pos s.depths.c1) z in
    in_wider k (omega arith) (omega (arith, i.high))

-- samples of 0 to M are as they are kept, and what is kept so is 0 to M
module _ (β : Bands) (s : Settings) (φ : List ℕ) where
  pub samples_kept : (κ : Form) → T (depths_suit κ s.depths) → (p : Planes) → InRanges (sample_ranges s) p → Kept (setup κ β s φ) p
  samples_kept Plain h p i c k = refl
  samples_kept Wrapped h p i c k =
      floor_mod_own (2 ^ s.depths.c1) (pow_pos s.depths.c1) (at (get p c) k)
      (subst (λ (r : Range). In r.below r.above (at (get p c) k)) (range_first s h c) ((i c).each k))

  pub kept_samples : T (depths_suit Wrapped s.depths) → (p : Planes) → Kept (setup Wrapped β s φ) p → InRanges (sample_ranges s) p
  kept_samples h p k c = record {
    each = λ i.
        subst (λ (r : Range). In r.below r.above (at (get p c) i)) (sym (range_first s h c))
        (subst (In 0 (max_sample s.depths.c1)) (k c i) (floor_mod_in (2 ^ s.depths.c1) (pow_pos s.depths.c1) (at (get p c) i)));
  }

-- ---- all steps of a transform
module _ (κ : Form) (β : Bands) (s : Settings) (φ : List ℕ) where
  pub forms_cancel : (p : Planes) → Kept (setup κ β s φ) p → (untransformed κ β s φ (transformed κ β s φ p) ≡ p) × (transformed κ β s φ (untransformed κ β s φ p) ≡ p)
  unfolding transformed untransformed
  forms_cancel p k =
      let r = reversible κ s.depths.c1 in
      let t = s.transform in
      (undo_run (setup κ β s φ) r (steps t) (apart t) p k, run_undo (setup κ β s φ) r (steps t) (apart t) p k)

  -- they leave every plane's length
  pub same_size : (p q : Planes) → transformed κ β s φ p ≡ q → (c : Plane) → length (get q c) ≡ length (get p c)
  unfolding transformed
  same_size p q e c = ap (λ (x : Planes). length (get x c)) (sym e) ∙ run_length (setup κ β s φ) (steps s.transform) p c

pub steps_cancel : StepsCancel
steps_cancel β s φ p = forms_cancel Plain β s φ p (λ c k. refl)

pub wrapped_steps_cancel : WrappedStepsCancel
wrapped_steps_cancel β s φ p h i = forms_cancel Wrapped β s φ p (samples_kept β s φ Wrapped h p i)

-- after any steps, and after undoing any
module _ (β : Bands) (s : Settings) (φ : List ℕ) (h : T (depths_suit Wrapped s.depths)) (p : Planes) (i : InRanges (sample_ranges s) p) where
  pub wrapped_run_in : (l : List Step) → InRanges (sample_ranges s) (run (setup Wrapped β s φ) l p)
  wrapped_run_in l = kept_samples β s φ h _ (run_kept (setup Wrapped β s φ) (reversible Wrapped s.depths.c1) l p (samples_kept β s φ Wrapped h p i))

  pub wrapped_undo_in : (l : List Step) → InRanges (sample_ranges s) (undo (setup Wrapped β s φ) l p)
  wrapped_undo_in l = kept_samples β s φ h _ (undo_kept (setup Wrapped β s φ) (reversible Wrapped s.depths.c1) l p (samples_kept β s φ Wrapped h p i))

-- what a picture goes to lies within the ranges of finished planes
pub goes_within : (κ : Form) (β : Bands) (s : Settings) (φ : List ℕ) (p q : Planes) → T (depths_suit κ s.depths) → GoesTo κ β s φ p q → InRanges (form_ranges κ s) q
unfolding transformed
goes_within Plain β s φ p q h g =
    subst (InRanges (finished_ranges s)) g.goes
    (run_in (setup Plain β s φ) (steps s.transform) (sample_ranges s) p (plain_keeps β s φ _) g.picture.samples)
goes_within Wrapped β s φ p q h g =
    subst (InRanges (sample_ranges s)) g.goes (wrapped_run_in β s φ h p g.picture.samples (steps s.transform))
