-- Null steps, unskipped, add or subtract 0, or negate: so only those that negate differ by their skip.
use mathlib.Core.Path.{◌≡◌, refl, sym, ap, ap₂, ◌∙◌}
use mathlib.Core.Bool.{cond, not, ◌&&◌}
use mathlib.Core.List.{List, [], ◌∷◌}
use Prim.Native.Nat.{ℕ, zero, suc, ◌≤◌}
use native.Mathlib.Omega.{arith}
use lib.Dec.{T, eqb→eq}
use lib.IntN.{ℤ, pos, ◌+ℤ◌}
use Rattle.integers.specs.Parts.{floor_div}
use Rattle.integers.proofs.Booleans.{and_iff, not_both, choice_same}
use Rattle.integers.proofs.Linear.{flat, count, eq_lin}
use Rattle.integers.proofs.Lists.{map_indexed_same}
use Rattle.stage.specs.Settings.{Plain}
use Rattle.stage.specs.Planes.{Planes, get, put}
use Rattle.stage.specs.Filter.{filtered}
use Rattle.stage.specs.Steps.{Setup, Step, Term, Lifting, add, subtract, negate, ◌ᵈ◌, ◌⊕◌, ◌/2, ◌/4, value, all_null, skipped, lift, lifted, opposite, reversed, step, run, undo, steps}
use Rattle.stage.specs.Transform.{setup, transformed, untransformed}
use Rattle.stage.specs.NullSteps.{negates, NoNullNegation, unskipped, SkipsMatterOnlyInNegation, FirstTwoUnaffected}
use Rattle.stage.proofs.Setups.{value_same, same_filters, same_term}

pub lift_nothing : (k : Lifting) (z : ℤ) → T (not (negates k)) → lift k (pos 0) z ≡ z
lift_nothing add z h = eq_lin (simp flat (simp count (omega arith)))
lift_nothing subtract z h = eq_lin (simp flat (simp count (omega arith)))
lift_nothing negate z h = absurd h

module _ (σ : Setup) (unchanged : (z : ℤ) → σ.keep z ≡ z) (p : Planes) where
  pub null_value : (t : Term) (i : ℕ) → T (all_null σ t i) → value σ p t i ≡ pos 0
  unfolding filtered
  null_value (c ᵈ k) i n = ap (λ (f : ℕ). filtered σ.width σ.height f (get p c) i) (eqb→eq (σ.filter k i) 12 n)
  null_value (t ⊕ u) i n = let b = (and_iff (all_null σ t i) (all_null σ u i)).0 n in ap₂ ◌+ℤ◌ (null_value t i b.0) (null_value u i b.1)
  null_value (t /2) i n = ap (λ (z : ℤ). floor_div z 2) (null_value t i n)
  null_value (t /4) i n = ap (λ (z : ℤ). floor_div z 4) (null_value t i n)

  pub unskipped_value : (t : Term) (i : ℕ) → value (unskipped σ) p t i ≡ value σ p t i
  unskipped_value t i =
      value_same (unskipped σ) σ p p i i t (same_term (unskipped σ) σ refl refl p t i (same_filters (unskipped σ) σ i (λ k. refl) t))

  -- a step that does not negate where it is null makes the same of a sample, skipped or not
  pub lifted_unskipped : (x : Step) (i : ℕ) (z : ℤ) → T (not (negates x.lifting && all_null σ x.term i)) → lifted σ p x i z ≡ lift x.lifting (value σ p x.term i) z
  lifted_unskipped x i z h =
      let v = value σ p x.term i in
      ap (cond (skipped σ x.term i) z) (unchanged (lift x.lifting v z))
      ∙ choice_same (skipped σ x.term i) z (lift x.lifting v z)
      (λ s. let n = ((and_iff σ.skips (all_null σ x.term i)).0 s).1 in
      sym (ap (λ (v : ℤ). lift x.lifting v z) (null_value x.term i n) ∙ lift_nothing x.lifting z (not_both (negates x.lifting) (all_null σ x.term i) h n)))

  step_unskipped : (x : Step) → ((i : ℕ) → T (not (negates x.lifting && all_null σ x.term i))) → step σ x p ≡ step (unskipped σ) x p
  step_unskipped x h =
      ap (put p x.plane)
      (map_indexed_same (lifted σ p x) (lifted (unskipped σ) p x)
      (λ i z. lifted_unskipped x i z (h i)
      ∙ ap (λ (v : ℤ). lift x.lifting v z) (sym (unskipped_value x.term i))
      ∙ sym (unchanged _))
      0 (get p x.plane))

module _ (σ : Setup) (unchanged : (z : ℤ) → σ.keep z ≡ z) where
  run_unskipped : (l : List Step) (p : Planes) → NoNullNegation σ l → run σ l p ≡ run (unskipped σ) l p
  run_unskipped [] p h = refl
  run_unskipped (x ∷ l) p h = run_unskipped l (step σ x p) h.1 ∙ ap (run (unskipped σ) l) (step_unskipped σ unchanged p x h.0)

  negates_opposite : (k : Lifting) → negates (opposite k) ≡ negates k
  negates_opposite add = refl
  negates_opposite subtract = refl
  negates_opposite negate = refl

  undo_unskipped : (l : List Step) (p : Planes) → NoNullNegation σ l → undo σ l p ≡ undo (unskipped σ) l p
  undo_unskipped [] p h = refl
  undo_unskipped (x ∷ l) p h =
      step_unskipped σ unchanged (undo σ l p) (reversed x) (λ i. rw (negates_opposite x.lifting) (h.0 i))
      ∙ ap (step (unskipped σ) (reversed x)) (undo_unskipped l p h.1)

pub skips_matter_only_in_negation : SkipsMatterOnlyInNegation
unfolding transformed untransformed
skips_matter_only_in_negation β s φ p h = record {
  there = run_unskipped (setup Plain β s φ) (λ z. refl) (steps s.transform) p h;
  back = undo_unskipped (setup Plain β s φ) (λ z. refl) (steps s.transform) p h;
}

pub first_two_unaffected : FirstTwoUnaffected
first_two_unaffected β s φ p h = skips_matter_only_in_negation β s φ p (none s.transform h)
  where
    none : (t : ℕ) → t ≤ 1 → NoNullNegation (setup Plain β s φ) (steps t)
    none zero h = (λ i. tt, (λ i. tt, (λ i. tt, tt)))
    none (suc zero) h = (λ i. tt, (λ i. tt, (λ i. tt, (λ i. tt, tt))))
    none (suc (suc t)) h = absurd (omega arith)
