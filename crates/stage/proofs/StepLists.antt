-- Steps run and undone in parts, for every setup.
use mathlib.Core.Path.{◌≡◌, refl, sym, ap, ◌∙◌}
use mathlib.Core.List.{List, [], ◌∷◌, ◌++◌}
use Prim.Native.Nat.{ℕ, suc, ◌+◌, ◌-◌, ◌≤◌, ◌<◌}
use lib.ListN.{length, get_or, take, drop, take-append-drop}
use Rattle.integers.specs.Slices.{slice}
use Rattle.integers.proofs.Slices.{slice_more, slice-cons, slice_split}
use Rattle.stage.specs.Settings.{Settings, Plain, Bands}
use Rattle.stage.specs.Planes.{Plane, Triple, Planes, get}
use Rattle.stage.specs.Steps.{Setup, Step, steps, step, run, undo, reversed}
use Rattle.stage.specs.Ranges.{Range, step_ranges, ranges}
use Rattle.stage.specs.Transform.{setup}
use Rattle.stage.proofs.Reversal.{apart, apart_take, apart_drop, unchanged, undo_run, run_undo, run_length, undo_length}

module _ (σ : Setup) where
  pub run-append : (l m : List Step) (p : Planes) → run σ (l ++ m) p ≡ run σ m (run σ l p)
  run-append [] m p = refl
  run-append (s ∷ l) m p = run-append l m (step σ s p)

  pub undo_append : (l m : List Step) (p : Planes) → undo σ (l ++ m) p ≡ undo σ l (undo σ m p)
  undo_append [] m p = refl
  undo_append (s ∷ l) m p = ap (step σ (reversed s)) (undo_append l m p)

  module _ (l : List Step) (d : Step) where
    -- one step more, forward and back
    pub run_more : (i k : ℕ) (p : Planes) → i ≤ k → k < length l → run σ (slice l i (k + 1)) p ≡ step σ (get_or l k d) (run σ (slice l i k) p)
    run_more i k p h b = ap (λ (m : List Step). run σ m p) (slice_more l d i k h b) ∙ run-append (slice l i k) (get_or l k d ∷ []) p

    pub undo_more : (k n : ℕ) (p : Planes) → k < n → n ≤ length l → undo σ (slice l k n) p ≡ step σ (reversed (get_or l k d)) (undo σ (slice l (suc k) n) p)
    undo_more k n p h b = ap (λ (m : List Step). undo σ m p) (slice-cons l d k n h b)

  -- two parts, one after the other
  pub run_split : (l : List Step) (i j k : ℕ) (p : Planes) → i ≤ j → j ≤ k → run σ (slice l i k) p ≡ run σ (slice l j k) (run σ (slice l i j) p)
  run_split l i j k p g h = ap (λ (m : List Step). run σ m p) (slice_split l i j k g h) ∙ run-append (slice l i j) (slice l j k) p

  -- the first i steps, and then the rest
  pub run_rest : (i : ℕ) (l : List Step) (p : Planes) → run σ (drop i l) (run σ (take i l) p) ≡ run σ l p
  run_rest i l p = sym (run-append (take i l) (drop i l) p) ∙ ap (λ (m : List Step). run σ m p) (take-append-drop i l)

  -- planes that steps have made keep their lengths
  pub run_same : (l : List Step) (p q : Planes) → q ≡ run σ l p → (c : Plane) → length (get q c) ≡ length (get p c)
  run_same l p q e c = ap (λ (x : Planes). length (get x c)) e ∙ run_length σ l p c

  pub undo_same : (l : List Step) (p q : Planes) → q ≡ undo σ l p → (c : Plane) → length (get q c) ≡ length (get p c)
  undo_same l p q e c = ap (λ (x : Planes). length (get x c)) e ∙ undo_length σ l p c

-- ---- ranges
pub ranges_append : (l m : List Step) (r : Triple Range) → ranges (l ++ m) r ≡ ranges m (ranges l r)
ranges_append [] m r = refl
ranges_append (s ∷ l) m r = ranges_append l m (step_ranges s r)

-- ---- a transform's own steps
module _ (β : Bands) (s : Settings) (φ : List ℕ) where
  abbrev l : List Step
  l = steps s.transform

  abbrev σ : Setup
  σ = setup Plain β s φ

  -- a part of them, run and undone
  pub slice_undone : (i j : ℕ) (p : Planes) → undo σ (slice l i j) (run σ (slice l i j) p) ≡ p
  slice_undone i j p =
      undo_run σ (unchanged (λ x. refl)) (slice l i j) (apart_take (j - i) (drop i l) (apart_drop i l (apart s.transform))) p (λ c k. refl)

  -- run to k, undone back to j: run to j
  pub run_back : (i j k : ℕ) (p : Planes) → i ≤ j → j ≤ k → undo σ (slice l j k) (run σ (slice l i k) p) ≡ run σ (slice l i j) p
  run_back i j k p g h = ap (undo σ (slice l j k)) (run_split σ l i j k p g h) ∙ slice_undone j k (run σ (slice l i j) p)

  -- all of them undone and the first k run again: the others are undone
  pub undo_part : (k : ℕ) (q : Planes) → run σ (take k l) (undo σ l q) ≡ undo σ (drop k l) q
  undo_part k q =
      ap (λ (m : List Step). run σ (take k l) (undo σ m q)) (sym (take-append-drop k l))
      ∙ ap (run σ (take k l)) (undo_append σ (take k l) (drop k l) q)
      ∙ run_undo σ (unchanged (λ x. refl)) (take k l) (apart_take k l (apart s.transform)) (undo σ (drop k l) q) (λ c i. refl)
