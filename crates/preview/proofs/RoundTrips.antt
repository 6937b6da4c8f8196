-- The theorems of specs/Theorems.antt on the calls.
use mathlib.Core.Path.{◌≡◌, refl, sym, ap, subst, ◌∙◌}
use mathlib.Core.Bool.{Bool, true, false, ◌&&◌}
use mathlib.Core.List.{[], ◌∷◌}
use Prim.Native.Nat.{ℕ}
use native.Mathlib.Omega.{arith}
use lib.Dec.{T}
use lib.IntN.{ℤ}
use Rattle.integers.proofs.Booleans.{holds_true, true_holds, and_iff}
use Rattle.stage.specs.Answers.{Reply, done, refused, ◌else◌, refusal, answer, between}
use Rattle.stage.specs.declared.Triple.{Triple}
use Rattle.preview.specs.declared.Rgb.{Rgb}
use Rattle.preview.specs.Quarters.{Maybe, just, nothing}
use Rattle.preview.specs.Spaces.{Space, quarters, samples}
use Rattle.preview.specs.Calls.{Shown, shown, are_samples, preview_tests, preview_call, has, found, back_call}
use Rattle.preview.specs.Theorems.{Shows, BackIff, RefusedIff, ForwardThenBack, BackThenForward}
use Rattle.preview.proofs.Values.{same_three_lem, three_itself, back_again}

module _ (b : ℕ) where
  -- samples within the depth, and their values in a space
  pub shown_call : (σ : Space) (s : Rgb) → T (between 2 16 b) → T (are_samples b s) → preview_call σ b s ≡ done (shown σ (just (quarters σ s)))
  shown_call σ s d u = rw (holds_true (between 2 16 b) d, holds_true (are_samples b s) u) refl

  -- where samples have the floats of v, they are what v leads to
  pub leads_to : (v : Reply Shown) (s : Rgb) → T (has v s) → found v ≡ s
  leads_to (done (shown σ (just q))) s h = ap (samples σ) (sym (same_three_lem (quarters σ s) q h)) ∙ back_again σ s
  leads_to (done (shown σ nothing)) s h = absurd h
  leads_to (refused n) s h = absurd h

  -- the answer by its two tests
  answered : (d f : Bool) (t s : Rgb) → answer ((d else 5) ∷ (f else 15) ∷ []) t ≡ done s → T d × T f × (t ≡ s)
  answered true true t s h = (tt, tt, cc)
  answered true false t s h = let z : ◌≡◌ {A = ℕ} 0 1 = cc in absurd (omega arith)
  answered false f t s h = let z : ◌≡◌ {A = ℕ} 0 1 = cc in absurd (omega arith)

  pub found_answer : (v : Reply Shown) (s : Rgb) → T (between 2 16 b) → T (are_samples b s) → T (has v s) → back_call b v ≡ done s
  found_answer v s d u h = rw (leads_to v s h, holds_true (between 2 16 b) d, holds_true (are_samples b s) u, holds_true (has v s) h) refl

  shown_again : (σ : Space) (m : Maybe (Triple ℤ)) (s : Rgb) → T (between 2 16 b) → T (are_samples b s) → T (has (done (shown σ m)) s)
      → preview_call σ b s ≡ done (shown σ m)
  shown_again σ (just q) s d u h = shown_call σ s d u ∙ ap (λ (t : Triple ℤ). done (shown σ (just t))) (same_three_lem (quarters σ s) q h)
  shown_again σ nothing s d u h = absurd h

  shows : (v : Reply Shown) (s : Rgb) → T (between 2 16 b) → T (are_samples b s) → T (has v s) → Shows b s v
  shows (done (shown σ m)) s d u h = record { space = σ; depth = d; samples = u; shown = sym (shown_again σ m s d u h) }
  shows (refused n) s d u h = absurd h

  has_shown : (v : Reply Shown) (s : Rgb) → Shows b s v → T (has v s)
  has_shown v s w =
      let e = w.shown ∙ shown_call w.space s w.depth w.samples in
      subst (λ (r : Reply Shown). T (has r s)) (sym e) (true_holds (three_itself (quarters w.space s)))

  -- what an answer of samples says of them
  back_found : (v : Reply Shown) (s : Rgb) → back_call b v ≡ done s → T (between 2 16 b) × T (are_samples b s) × T (has v s)
  back_found v s h =
      let t = found v in
      let a = answered (between 2 16 b) (are_samples b t && has v t) t s h in
      let f = (and_iff (are_samples b t) (has v t)).0 a.1 in
      (a.0, subst (λ (r : Rgb). T (are_samples b r)) a.2 f.0, subst (λ (r : Rgb). T (has v r)) a.2 f.1)

  found_back : (v : Reply Shown) (s : Rgb) → Shows b s v → back_call b v ≡ done s
  found_back v s w = found_answer v s w.depth w.samples (has_shown v s w)

  -- no samples: 15
  refused_by : (f : Bool) (t : Rgb) → (T f → ⊥) → answer ((true else 5) ∷ (f else 15) ∷ []) t ≡ refused 15
  refused_by true t n = absurd (n tt)
  refused_by false t n = refl

  pub none_found : (v : Reply Shown) → T (between 2 16 b) → (T (are_samples b (found v)) → T (has v (found v)) → ⊥) → back_call b v ≡ refused 15
  none_found v d n =
      let t = found v in
      rw (holds_true (between 2 16 b) d) (refused_by (are_samples b t && has v t) t (λ f. let g = (and_iff (are_samples b t) (has v t)).0 f in n g.0 g.1))

  not_both : (s : Rgb) {r : Reply Rgb} → r ≡ done s → r ≡ refused 15 → ⊥
  not_both s h g = let z : ◌≡◌ {A = ℕ} 0 1 = cc in omega arith

pub back_iff : BackIff
back_iff b s v = ((λ h. let f = back_found b v s h in shows b v s f.0 f.1 f.2), (λ w. found_back b v s w))

pub refused_iff : RefusedIff
refused_iff b v d =
    ((λ h s w. not_both b s (found_back b v s w) h), (λ n. none_found b v d (λ u h. n (found v) (shows b v (found v) d u h))))

-- ---- one call after the other
accepted_by : (d u : Bool) → refusal ((d else 5) ∷ (u else 11) ∷ []) ≡ 0 → T d × T u
accepted_by true true h = (tt, tt)
accepted_by true false h = absurd (omega arith)
accepted_by false u h = absurd (omega arith)

-- what the forward calls accept
pub accepted : (b : ℕ) (s : Rgb) → refusal (preview_tests b s) ≡ 0 → T (between 2 16 b) × T (are_samples b s)
accepted b s h = accepted_by (between 2 16 b) (are_samples b s) h

pub forward_then_back : ForwardThenBack
forward_then_back σ b s h =
    let a = accepted b s h in
    found_back b (preview_call σ b s) s (record { space = σ; depth = a.0; samples = a.1; shown = refl })

pub back_then_forward : BackThenForward
back_then_forward σ b m s h = let f = back_found b (done (shown σ m)) s h in shown_again b σ m s f.0 f.1 f.2
