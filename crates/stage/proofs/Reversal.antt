-- Steps are undone, whichever they are: no step reads the plane that it changes. This holds for every way to keep a step's
-- result under which one change can be undone.
use mathlib.Core.Path.{◌≡◌, refl, ap, ap₂, ◌∙◌, subst}
use mathlib.Core.Bool.{Bool, true, false, not, cond}
use mathlib.Core.List.{List, [], ◌∷◌}
use Prim.Native.Nat.{ℕ, zero, suc}
use lib.Dec.{T}
use lib.IntN.{ℤ, pos, ◌+ℤ◌, +ℤ-neg_ℤ_cancel, -ℤ-+ℤ_cancel, neg_ℤ-+ℤ, neg_ℤ-neg_ℤ}
use lib.ListN.{length, take, drop}
use Rattle.integers.specs.Parts.{floor_div}
use Rattle.integers.specs.Lists.{at, map_indexed}
use Rattle.integers.proofs.Lists.{map_indexed_inverse, map_indexed_every, length-map_indexed}
use Rattle.stage.specs.Planes.{Plane, Planes, get, put, same_plane}
use Rattle.stage.specs.Filter.{filtered}
use Rattle.stage.specs.Steps.{Setup, Step, Term, Lifting, add, subtract, negate, ◌ᵈ◌, ◌⊕◌, ◌/2, ◌/4, value, lift, lifted, skipped, step, opposite, reversed, run, undo, steps}
use Rattle.stage.proofs.Triples.{get-put, put-put, put-get, get_other, put_both}

-- the term does not read plane c
abbrev pub Unread : Term → Plane → Type 0
Unread (b ᵈ k) c = T (not (same_plane b c))
Unread (t ⊕ u) c = Unread t c × Unread u c
Unread (t /2) c = Unread t c
Unread (t /4) c = Unread t c

-- no step reads the plane that it changes
abbrev pub Apart : List Step → Type 0
Apart [] = Unit {0}
Apart (s ∷ l) = Unread s.term s.plane × Apart l

pub apart : (t : ℕ) → Apart (steps t)
apart zero = (tt, (tt, ((tt, tt), tt)))
apart (suc zero) = (tt, (tt, (tt, (tt, tt))))
apart (suc (suc zero)) = (tt, (tt, tt))
apart (suc (suc (suc zero))) = (tt, (tt, (tt, tt)))
apart (suc (suc (suc (suc t)))) = tt

pub apart_take : (i : ℕ) (l : List Step) → Apart l → Apart (take i l)
apart_take zero l h = tt
apart_take (suc i) [] h = tt
apart_take (suc i) (s ∷ l) h = (h.0, apart_take i l h.1)

pub apart_drop : (i : ℕ) (l : List Step) → Apart l → Apart (drop i l)
apart_drop zero l h = h
apart_drop (suc i) [] h = tt
apart_drop (suc i) (s ∷ l) h = apart_drop i l h.1

-- a change and its opposite, each result kept
pub record Reversible (keep : ℤ → ℤ) : Type 0 where
  pub undoes : (k : Lifting) (v x : ℤ) → keep (lift (opposite k) v (keep (lift k v x))) ≡ keep x
  pub again : (x : ℤ) → keep (keep x) ≡ keep x
  pub zero : keep (pos 0) ≡ pos 0

pub lift_undone : (k : Lifting) (v x : ℤ) → lift (opposite k) v (lift k v x) ≡ x
lift_undone add v x = +ℤ-neg_ℤ_cancel x v
lift_undone subtract v x = -ℤ-+ℤ_cancel x v
lift_undone negate v x = rw (neg_ℤ-+ℤ, neg_ℤ-neg_ℤ) (-ℤ-+ℤ_cancel x v)

-- results kept as they are
pub unchanged : {keep : ℤ → ℤ} → ((x : ℤ) → keep x ≡ x) → Reversible keep
unchanged e = record { undoes = λ k v x. simp e (lift_undone k v x); again = λ x. e _; zero = e _ }

pub reversed_twice : (s : Step) → reversed (reversed s) ≡ s
reversed_twice s = ap (λ (k : Lifting). record { plane = s.plane; lifting = k; term = s.term }) (twice s.lifting)
  where
    twice : (k : Lifting) → opposite (opposite k) ≡ k
    twice add = refl
    twice subtract = refl
    twice negate = refl

module _ (σ : Setup) where
  -- a term's value does not depend on a plane that it does not read
  pub value_put : (p : Planes) (c : Plane) (a : List ℤ) (t : Term) → Unread t c → (i : ℕ) → value σ (put p c a) t i ≡ value σ p t i
  value_put p c a (b ᵈ k) h i = ap (λ (l : List ℤ). filtered σ.width σ.height (σ.filter k i) l i) (get_other p b c a h)
  value_put p c a (t ⊕ u) h i = ap₂ ◌+ℤ◌ (value_put p c a t h.0 i) (value_put p c a u h.1 i)
  value_put p c a (t /2) h i = ap (λ (z : ℤ). floor_div z 2) (value_put p c a t h i)
  value_put p c a (t /4) h i = ap (λ (z : ℤ). floor_div z 4) (value_put p c a t h i)

  -- a step keeps every plane's length
  pub step_length : (s : Step) (p : Planes) (c : Plane) → length (get (step σ s p) c) ≡ length (get p c)
  step_length s p c =
      put_both (λ _ (a b : List ℤ). length a ≡ length b) p p (λ c. refl) _ (get p s.plane) s.plane
      (length-map_indexed (lifted σ p s) 0 (get p s.plane)) c
      ∙ ap (λ (q : Planes). length (get q c)) (put-get p s.plane)

  pub run_length : (l : List Step) (p : Planes) (c : Plane) → length (get (run σ l p) c) ≡ length (get p c)
  run_length [] p c = refl
  run_length (s ∷ l) p c = run_length l (step σ s p) c ∙ step_length s p c

  pub undo_length : (l : List Step) (p : Planes) (c : Plane) → length (get (undo σ l p) c) ≡ length (get p c)
  undo_length [] p c = refl
  undo_length (s ∷ l) p c = step_length (reversed s) (undo σ l p) c ∙ undo_length l p c

  -- every sample is as it is kept
  abbrev pub Keeps : ℤ → Type 0
  Keeps x = σ.keep x ≡ x

  abbrev pub Kept : Planes → Type 0
  Kept p = (c : Plane) (k : ℕ) → Keeps (at (get p c) k)

  module _ (K : Reversible σ.keep) where
    sample_undone : (b : Bool) (k : Lifting) (v x : ℤ) → Keeps x
        → cond b (cond b x (σ.keep (lift k v x))) (σ.keep (lift (opposite k) v (cond b x (σ.keep (lift k v x))))) ≡ x
    sample_undone true k v x h = refl
    sample_undone false k v x h = K.undoes k v x ∙ h

    sample_kept : (b : Bool) (x y : ℤ) → Keeps x → Keeps (cond b x (σ.keep y))
    sample_kept true x y h = h
    sample_kept false x y h = K.again y

    pub step_kept : (s : Step) (p : Planes) → Kept p → Kept (step σ s p)
    step_kept s p h =
        put_both (λ _ (_ a : List ℤ). (k : ℕ) → Keeps (at a k)) p p h [] _ s.plane
        (map_indexed_every Keeps Keeps K.zero (lifted σ p s)
        (λ i x. sample_kept (skipped σ s.term i) x (lift s.lifting (value σ p s.term i) x)) 0 (get p s.plane) (h s.plane))

    pub step_undone : (s : Step) → Unread s.term s.plane → (p : Planes) → Kept p → step σ (reversed s) (step σ s p) ≡ p
    step_undone s d p h =
        let a : List ℤ = map_indexed (lifted σ p s) 0 (get p s.plane) in
        rw (get-put p s.plane a, put-put p s.plane a)
        (ap (put p s.plane)
        (map_indexed_inverse Keeps (lifted σ p s) (lifted σ (step σ s p) (reversed s))
        (λ i x k. rw (value_put p s.plane a s.term d i) (sample_undone (skipped σ s.term i) s.lifting (value σ p s.term i) x k))
        0 (get p s.plane) (h s.plane))
        ∙ put-get p s.plane)

    pub run_kept : (l : List Step) (p : Planes) → Kept p → Kept (run σ l p)
    run_kept [] p h = h
    run_kept (s ∷ l) p h = run_kept l (step σ s p) (step_kept s p h)

    pub undo_kept : (l : List Step) (p : Planes) → Kept p → Kept (undo σ l p)
    undo_kept [] p h = h
    undo_kept (s ∷ l) p h = step_kept (reversed s) (undo σ l p) (undo_kept l p h)

    pub undo_run : (l : List Step) → Apart l → (p : Planes) → Kept p → undo σ l (run σ l p) ≡ p
    undo_run [] d p h = refl
    undo_run (s ∷ l) d p h = rw (undo_run l d.1 (step σ s p) (step_kept s p h)) (step_undone s d.0 p h)

    pub run_undo : (l : List Step) → Apart l → (p : Planes) → Kept p → run σ l (undo σ l p) ≡ p
    run_undo [] d p h = refl
    run_undo (s ∷ l) d p h =
        ap (run σ l)
        (subst (λ (u : Step). step σ u (step σ (reversed s) (undo σ l p)) ≡ undo σ l p) (reversed_twice s)
        (step_undone (reversed s) d.0 (undo σ l p) (undo_kept l p h)))
        ∙ run_undo l d.1 p h
