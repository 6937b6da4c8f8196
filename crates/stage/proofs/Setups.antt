-- What a step makes of a sample depends on what it runs with only by its places' filters and the values that these give, by whether null steps
-- are skipped, and by how a result is kept. So for two setups, the planes of two pictures and an index in each; and for one picture by the filters
-- alone.
use mathlib.Core.Path.{◌≡◌, refl, ap, ap₂, ◌∙◌}
use mathlib.Core.Bool.{cond, ◌&&◌}
use mathlib.Core.List.{List, [], ◌∷◌}
use Prim.Native.Nat.{ℕ, ◌<◌}
use native.Mathlib.Omega.{arith}
use lib.Dec.{eqb}
use lib.IntN.{ℤ, ◌+ℤ◌}
use lib.ListN.{length}
use Rattle.integers.specs.Parts.{floor_div}
use Rattle.integers.proofs.Lists.{map_indexed_cong}
use Rattle.stage.specs.Planes.{Plane, Planes, get, put}
use Rattle.stage.specs.Filter.{filtered}
use Rattle.stage.specs.Steps.{Setup, Step, Term, ◌ᵈ◌, ◌⊕◌, ◌/2, ◌/4, value, all_null, lift, lifted, reversed, step, run, undo}
use Rattle.stage.proofs.Reversal.{step_length, undo_length}

module _ (σ τ : Setup) (p q : Planes) (i j : ℕ) where
  -- the term's places have the same filters, and these give the same values
  abbrev pub SameTerm : Term → Type 0
  SameTerm (c ᵈ k) = (σ.filter k i ≡ τ.filter k j) × (value σ p (c ᵈ k) i ≡ value τ q (c ᵈ k) j)
  SameTerm (t ⊕ u) = SameTerm t × SameTerm u
  SameTerm (t /2) = SameTerm t
  SameTerm (t /4) = SameTerm t

  null_same : (t : Term) → SameTerm t → all_null σ t i ≡ all_null τ t j
  null_same (c ᵈ k) h = ap (λ (f : ℕ). eqb f 12) h.0
  null_same (t ⊕ u) h = ap₂ ◌&&◌ (null_same t h.0) (null_same u h.1)
  null_same (t /2) h = null_same t h
  null_same (t /4) h = null_same t h

  pub value_same : (t : Term) → SameTerm t → value σ p t i ≡ value τ q t j
  value_same (c ᵈ k) h = h.1
  value_same (t ⊕ u) h = ap₂ ◌+ℤ◌ (value_same t h.0) (value_same u h.1)
  value_same (t /2) h = ap (λ (z : ℤ). floor_div z 2) (value_same t h)
  value_same (t /4) h = ap (λ (z : ℤ). floor_div z 4) (value_same t h)

  pub lifted_same : σ.skips ≡ τ.skips → ((z : ℤ) → σ.keep z ≡ τ.keep z) → (x : Step) → SameTerm x.term → {y z : ℤ} → y ≡ z → lifted σ p x i y ≡ lifted τ q x j z
  lifted_same s k x h {y} e =
      let v = value_same x.term h in
      let n = null_same x.term h in
      let m = k (lift x.lifting (value σ p x.term i) y) ∙ ap τ.keep (ap₂ (lift x.lifting) v e) in
      λ o. cond (s o && n o) (e o) (m o)

-- ---- one picture
-- the filters of the term's places at index i
abbrev pub SameFilters : Setup → Setup → Term → ℕ → Type 0
SameFilters σ τ (c ᵈ k) i = σ.filter k i ≡ τ.filter k i
SameFilters σ τ (t ⊕ u) i = SameFilters σ τ t i × SameFilters σ τ u i
SameFilters σ τ (t /2) i = SameFilters σ τ t i
SameFilters σ τ (t /4) i = SameFilters σ τ t i

pub same_filters : (σ τ : Setup) (i : ℕ) → ((k : ℕ) → σ.filter k i ≡ τ.filter k i) → (t : Term) → SameFilters σ τ t i
same_filters σ τ i h (c ᵈ k) = h k
same_filters σ τ i h (t ⊕ u) = (same_filters σ τ i h t, same_filters σ τ i h u)
same_filters σ τ i h (t /2) = same_filters σ τ i h t
same_filters σ τ i h (t /4) = same_filters σ τ i h t

module _ (σ τ : Setup) (w : σ.width ≡ τ.width) (h : σ.height ≡ τ.height) (p : Planes) where
  pub same_term : (t : Term) (i : ℕ) → SameFilters σ τ t i → SameTerm σ τ p p i i t
  same_term (c ᵈ k) i e = (e, λ o. filtered (w o) (h o) (e o) (get p c) i)
  same_term (t ⊕ u) i e = (same_term t i e.0, same_term u i e.1)
  same_term (t /2) i e = same_term t i e
  same_term (t /4) i e = same_term t i e

  -- filters count only where the step's plane has samples
  pub step_same : σ.skips ≡ τ.skips → ((z : ℤ) → σ.keep z ≡ τ.keep z) → (x : Step) → ((i : ℕ) → i < length (get p x.plane) → SameFilters σ τ x.term i)
      → step σ x p ≡ step τ x p
  step_same s k x e =
      ap (put p x.plane)
      (map_indexed_cong (lifted σ p x) (lifted τ p x) (length (get p x.plane))
      (λ i z b. lifted_same σ τ p p i i s k x (same_term x.term i (e i b)) refl) 0 (get p x.plane) (omega arith))

-- all steps, on planes of n samples each
module _ (σ τ : Setup) (w : σ.width ≡ τ.width) (h : σ.height ≡ τ.height) (s : σ.skips ≡ τ.skips) (k : (z : ℤ) → σ.keep z ≡ τ.keep z)
    (n : ℕ) (e : (k i : ℕ) → i < n → σ.filter k i ≡ τ.filter k i) where
  abbrev Long : Planes → Type 0
  Long p = (c : Plane) → length (get p c) ≡ n

  one_same : (x : Step) (p : Planes) → Long p → step σ x p ≡ step τ x p
  one_same x p z = step_same σ τ w h p s k x (λ i b. same_filters σ τ i (λ k. e k i (rw (z x.plane) at b)) x.term)

  pub run_same : (l : List Step) (p : Planes) → Long p → run σ l p ≡ run τ l p
  run_same [] p z = refl
  run_same (x ∷ l) p z = run_same l (step σ x p) (λ c. step_length σ x p c ∙ z c) ∙ ap (run τ l) (one_same x p z)

  pub undo_same : (l : List Step) (p : Planes) → Long p → undo σ l p ≡ undo τ l p
  undo_same [] p z = refl
  undo_same (x ∷ l) p z = one_same (reversed x) (undo σ l p) (λ c. undo_length σ l p c ∙ z c) ∙ ap (step τ (reversed x)) (undo_same l p z)
