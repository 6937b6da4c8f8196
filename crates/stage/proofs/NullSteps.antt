-- Null steps, skipped, leave their planes as they are, and at an index where all of a transform's places are null all planes stay.
use mathlib.Core.Path.{◌≡◌, refl, sym, ap, ◌∙◌, subst}
use mathlib.Core.Bool.{Bool, true, cond}
use mathlib.Core.List.{List, [], ◌∷◌}
use Prim.Native.Nat.{ℕ, zero, suc, ◌<◌}
use native.Mathlib.Nat.{zero-add}
use native.Mathlib.Omega.{arith}
use lib.Dec.{T, eqb, ltb, ltb→lt}
use lib.IntN.{ℤ}
use lib.ListN.{length, get_or-replicate}
use Rattle.integers.specs.Lists.{at}
use Rattle.integers.proofs.Booleans.{and_iff, holds_true}
use Rattle.integers.proofs.Lists.{map_indexed_cong, map_indexed_id, at_stays, ext_at}
use Rattle.stage.specs.Settings.{pixels}
use Rattle.stage.specs.Planes.{Plane, Planes, get, put}
use Rattle.stage.specs.Steps.{Setup, Step, Term, ◌ᵈ◌, ◌⊕◌, ◌/2, ◌/4, value, all_null, skipped, lift, lifted, reversed, step, run, undo, steps, places}
use Rattle.stage.specs.Transform.{choice_count, choice_at, Fit, filter_at, setup, transformed, untransformed}
use Rattle.stage.specs.Demand3.{GoesTo}
use Rattle.stage.specs.NullSteps.{NullStepsSkipped, nulls, NullsLeavePictures}
use Rattle.stage.specs.BandedForms.{MasksStay}
use Rattle.stage.proofs.Triples.{put-get, put_both, triple_ext}
use Rattle.stage.proofs.Choices.{choices_equal, choice_within}
use Rattle.stage.proofs.Forms.{same_size}
use Rattle.stage.proofs.Demand3.{forward_iff, inverse_iff}

-- ---- skipped
module _ (σ : Setup) (skips : T σ.skips) where
  lifted_null : (x : Step) (p : Planes) (i : ℕ) (z : ℤ) → T (all_null σ x.term i) → lifted σ p x i z ≡ z
  lifted_null x p i z n =
      let is_skipped : skipped σ x.term i ≡ true = holds_true _ ((and_iff σ.skips (all_null σ x.term i)).1 (skips, n)) in
      ap (λ (b : Bool). cond b z (σ.keep (lift x.lifting (value σ p x.term i) z))) is_skipped

  step_null : (x : Step) (p : Planes) → ((i : ℕ) → i < length (get p x.plane) → T (all_null σ x.term i)) → step σ x p ≡ p
  step_null x p n =
      let a = get p x.plane in
      ap (put p x.plane) (map_indexed_cong (lifted σ p x) (λ i z. z) (length a) (λ i z h. lifted_null x p i z (n i h)) 0 a (omega arith) ∙ map_indexed_id 0 a)
      ∙ put-get p x.plane

  -- at one index
  step_stays : (x : Step) (p : Planes) (i : ℕ) → T (all_null σ x.term i) → (c : Plane) → at (get (step σ x p) c) i ≡ at (get p c) i
  step_stays x p i n c =
      put_both (λ _ (a b : List ℤ). at a i ≡ at b i) p p (λ c. refl) _ (get p x.plane) x.plane
      (at_stays (lifted σ p x) 0 (get p x.plane) i (λ z. rw (zero-add i) (lifted_null x p i z n))) c
      ∙ ap (λ (q : Planes). at (get q c) i) (put-get p x.plane)

  abbrev NullAt : ℕ → List Step → Type 0
  NullAt i [] = Unit {0}
  NullAt i (x ∷ l) = T (all_null σ x.term i) × NullAt i l

  run_stays : (l : List Step) (p : Planes) (i : ℕ) → NullAt i l → (c : Plane) → at (get (run σ l p) c) i ≡ at (get p c) i
  run_stays [] p i n c = refl
  run_stays (x ∷ l) p i n c = run_stays l (step σ x p) i n.1 c ∙ step_stays x p i n.0 c

  undo_stays : (l : List Step) (p : Planes) (i : ℕ) → NullAt i l → (c : Plane) → at (get (undo σ l p) c) i ≡ at (get p c) i
  undo_stays [] p i n c = refl
  undo_stays (x ∷ l) p i n c = step_stays (reversed x) (undo σ l p) i n.0 c ∙ undo_stays l p i n.1 c

pub null_steps_skipped : NullStepsSkipped
null_steps_skipped σ x p s n = (step_null σ s x p n, step_null σ s (reversed x) p n)

-- ---- all places of a transform null at an index
-- a term's places are below n, and so are all of the steps'
abbrev Below : ℕ → Term → Type 0
Below n (c ᵈ k) = T (ltb k n)
Below n (t ⊕ u) = Below n t × Below n u
Below n (t /2) = Below n t
Below n (t /4) = Below n t

abbrev AllBelow : ℕ → List Step → Type 0
AllBelow n [] = Unit {0}
AllBelow n (x ∷ l) = Below n x.term × AllBelow n l

all_below : (t : ℕ) → AllBelow (places (steps t)) (steps t)
all_below zero = (tt, (tt, ((tt, tt), tt)))
all_below (suc zero) = (tt, (tt, (tt, (tt, tt))))
all_below (suc (suc zero)) = (tt, (tt, tt))
all_below (suc (suc (suc zero))) = (tt, (tt, (tt, tt)))
all_below (suc (suc (suc (suc t)))) = tt

module _ (σ : Setup) (skips : T σ.skips) (n i : ℕ) (null : (k : ℕ) → k < n → σ.filter k i ≡ 12) where
  null_term : (t : Term) → Below n t → T (all_null σ t i)
  null_term (c ᵈ k) h = subst (λ (f : ℕ). T (eqb f 12)) (sym (null k (ltb→lt k n h))) tt
  null_term (t ⊕ u) h = (and_iff (all_null σ t i) (all_null σ u i)).1 (null_term t h.0, null_term u h.1)
  null_term (t /2) h = null_term t h
  null_term (t /4) h = null_term t h

  null_at : (l : List Step) → AllBelow n l → NullAt σ skips i l
  null_at [] h = tt
  null_at (x ∷ l) h = (null_term x.term h.0, null_at l h.1)

pub masks_stay : MasksStay
unfolding transformed untransformed
masks_stay κ β s φ p i null c =
    let σ = setup κ β s φ in
    let l = steps s.transform in
    let n = null_at σ tt (places l) i null l (all_below s.transform) in
    record { there = run_stays σ tt l p i n c; back = undo_stays σ tt l p i n c }

-- ---- every filter null
pub nulls_leave_pictures : NullsLeavePictures
nulls_leave_pictures κ β s p a d f h =
    let φ = nulls β s in
    let null : (i : ℕ) → i < pixels s → (k : ℕ) → k < places (steps s.transform) → filter_at β s φ k i ≡ 12 =
    λ i b k l. get_or-replicate (choice_count β s) (choice_at β s k i) 12 0 (choice_within β s a.width_least f k i l b) in
    let fit : Fit κ β s φ = record { allowed = a; depths = d; bands = f; choices = choices_equal β s (choice_count β s) 12 tt refl } in
    let g : GoesTo κ β s φ p p = record { picture = h; goes = triple_ext (λ c. ext_at _ _ (same_size κ β s φ p _ refl c) (λ i b. (masks_stay κ β s φ p i (null i (rw (same_size κ β s φ p _ refl c, h.size c) at b)) c).there)) } in
    record { goes = g; there = (forward_iff κ β s φ p p).1 (fit, g); back = (inverse_iff κ β s φ p p).1 (fit, g) }
