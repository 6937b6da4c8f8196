-- Two pictures that share a part: after steps it is the same where the margin is as wide as these reach. By terms, by steps, and by one induction over a
-- list of steps each way.
use mathlib.Core.Path.{ap, sym, ◌∙◌, subst}
use mathlib.Core.List.{List, [], ◌∷◌}
use Prim.Native.Nat.{ℕ, ◌+◌, ◌≤◌}
use native.Mathlib.Nat.{le_refl}
use native.Mathlib.Omega.{arith}
use Rattle.integers.proofs.Lists.{at_mapped}
use Rattle.stage.specs.declared.Plane.{Plane}
use Rattle.stage.specs.declared.Triple.{Triple}
use Rattle.stage.specs.Planes.{Planes, get}
use Rattle.stage.specs.Filter.{filtered}
use Rattle.stage.specs.Steps.{Setup, Step, Term, ◌ᵈ◌, ◌⊕◌, ◌/2, ◌/4, lifted, step, run, undo, reversed}
use Rattle.stage.proofs.Triples.{put_both, put-get, get-put}
use Rattle.stage.proofs.Reversal.{step_length, undo_length}
use Rattle.stage.proofs.Setups.{SameTerm, lifted_same}
use Rattle.locality.specs.Reach.{RadiiUpTo, term_reach, step_reach, reaches, undone_reaches, there, back}
use Rattle.locality.specs.Parts.{Sized, Corner, index, SpotMargin, SameSetup, SameWithMargin, SamePart}
use Rattle.locality.specs.Locality.{SharedPart}
use Rattle.locality.proofs.Parts.{spot_lesser, spot_below, filtered_same}

-- a step makes no reach less
step_further : (ρ : ℕ → ℕ) (s : Step) (r : Triple ℕ) (c : Plane) → get r c ≤ get (step_reach ρ s r) c
step_further ρ s r =
    subst (λ (q : Triple ℕ). (c : Plane) → get q c ≤ get (step_reach ρ s r) c) (put-get r s.plane)
    (put_both (λ _ (m n : ℕ). m ≤ n) r r (λ c. le_refl (get r c)) (get r s.plane) _ s.plane (omega arith))

module _ (ρ : ℕ → ℕ) (u v : ℕ) (σ τ : Setup) (a b : Corner) (radii : RadiiUpTo ρ σ) (C : SameSetup u v σ τ a b) where
  -- at a spot with a margin as wide as the term reaches
  module _ (r : Triple ℕ) (p q : Planes) (same : SamePart u v σ τ a b r p q) (d x y : ℕ) (h : SpotMargin u v σ a d x y) (k : SpotMargin u v τ b d x y) where
    term_same : (t : Term) → term_reach ρ r t ≤ d → SameTerm σ τ p q (index σ a x y) (index τ b x y) t
    term_same (c ᵈ n) l =
        let e = C.filter n x y h.column.here h.row.here in
        let m : get r c + ρ n ≤ d = omega arith in (
          e,
          filtered_same C.first C.second (get p c) (get q c) (same c) (σ.filter n (index σ a x y)) (ρ n) (radii n (index σ a x y)) (spot_lesser m h) (spot_lesser m k)
              ∙ ap (λ (f : ℕ). filtered τ.width τ.height f (get q c) (index τ b x y)) e,
        )
    term_same (t ⊕ w) l = (term_same t (omega arith), term_same w (omega arith))
    term_same (t /2) l = term_same t l
    term_same (t /4) l = term_same t l

  step_same : (s : Step) (r : Triple ℕ) (p q : Planes) → Sized σ p → Sized τ q → SamePart u v σ τ a b r p q
      → SamePart u v σ τ a b (step_reach ρ s r) (step σ s p) (step τ s q)
  step_same s r p q m n same =
      put_both (λ c. SameWithMargin u v σ τ a b (get (step_reach ρ s r) c)) p q
      -- planes that the step leaves
      (λ c x y h k. let l = step_further ρ s r c in same c x y (spot_lesser l h) (spot_lesser l k))
      _ _ s.plane
      -- the plane that it changes
      (λ x y h k.
      let l = step_further ρ s r s.plane in
      let t : term_reach ρ r s.term ≤ get (step_reach ρ s r) s.plane = rw get-put (omega arith) in
      at_mapped (lifted σ p s) (get p s.plane) (index σ a x y) (rw (m s.plane) (spot_below C.first h))
      ∙ lifted_same σ τ p q (index σ a x y) (index τ b x y) C.skips C.keep s (term_same r p q same _ x y h k s.term t)
      (same s.plane x y (spot_lesser l h) (spot_lesser l k))
      ∙ sym (at_mapped (lifted τ q s) (get q s.plane) (index τ b x y) (rw (n s.plane) (spot_below C.second k))))

  run_same : (l : List Step) (r : Triple ℕ) (p q : Planes) → Sized σ p → Sized τ q → SamePart u v σ τ a b r p q
      → SamePart u v σ τ a b (reaches ρ l r) (run σ l p) (run τ l q)
  run_same [] r p q m n same = same
  run_same (s ∷ l) r p q m n same =
      run_same l (step_reach ρ s r) (step σ s p) (step τ s q) (λ c. step_length σ s p c ∙ m c) (λ c. step_length τ s q c ∙ n c)
      (step_same s r p q m n same)

  undo_same : (l : List Step) (r : Triple ℕ) (p q : Planes) → Sized σ p → Sized τ q → SamePart u v σ τ a b r p q
      → SamePart u v σ τ a b (undone_reaches ρ l r) (undo σ l p) (undo τ l q)
  undo_same [] r p q m n same = same
  undo_same (s ∷ l) r p q m n same =
      step_same (reversed s) (undone_reaches ρ l r) (undo σ l p) (undo τ l q) (λ c. undo_length σ l p c ∙ m c) (λ c. undo_length τ l q c ∙ n c)
      (undo_same l r p q m n same)

pub shared_part : SharedPart
shared_part there = run_same
shared_part back = undo_same
