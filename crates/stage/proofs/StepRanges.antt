-- What a step makes of planes within ranges lies within the ranges computed from the step; so forward and back. Wider ranges
-- to begin with give wider ranges to end with.
use mathlib.Core.Path.{subst}
use mathlib.Core.Bool.{Bool, true, false, cond}
use mathlib.Core.List.{List, [], ◌∷◌}
use Prim.Native.Nat.{ℕ, zero, suc}
use native.Mathlib.Omega.{arith}
use lib.IntN.{ℤ, neg_ℤ}
use lib.ListN.{take, drop}
use Rattle.integers.specs.Lists.{AllIn}
use Rattle.integers.proofs.Parts.{add_difference, neg_parts, floor_div_parts}
use Rattle.integers.proofs.Lists.{map_indexed_in, all_wider}
use Rattle.stage.specs.Settings.{Settings, Plain, Bands}
use Rattle.stage.specs.Planes.{Plane, Triple, Planes, get}
use Rattle.stage.specs.Steps.{Setup, Step, Term, Lifting, add, subtract, negate, ◌ᵈ◌, ◌⊕◌, ◌/2, ◌/4, value, lift, lifted, skipped, step, run, undo, reversed}
use Rattle.stage.specs.Ranges.{Range, Within, Inside, AllInside, KeepsRanges, term_range, lift_range, step_ranges, ranges, undone_ranges, InRanges}
use Rattle.stage.specs.Transform.{setup}
use Rattle.stage.proofs.Triples.{put_both, put-get}
use Rattle.stage.proofs.Means.{filtered_in}

lift_in : (k : Lifting) (R X : Range) (v x : ℤ) → Within R v → Within X x → Within (lift_range k R X) (lift k v x)
lift_in add R X v x h g = let e = add_difference x v in omega arith
lift_in subtract R X v x h g = let e = add_difference x (neg_ℤ v) in let n = neg_parts v in omega arith
lift_in negate R X v x h g = let e = add_difference (neg_ℤ x) v in let n = neg_parts x in omega arith

pub inside_trans : (q r s : Triple Range) → AllInside q r → AllInside r s → AllInside q s
inside_trans q r s h g c = let a = h c in let b = g c in omega arith

-- the range after a step holds the range before it
lift_grows : (k : Lifting) (v x : Range) → Inside x (lift_range k v x)
lift_grows add v x = omega arith
lift_grows subtract v x = omega arith
lift_grows negate v x = omega arith

step_grows : (s : Step) (r : Triple Range) → AllInside r (step_ranges s r)
step_grows s r =
    subst (λ (q : Triple Range). AllInside q (step_ranges s r)) (put-get r s.plane)
    (put_both (λ _. Inside) r r (λ c. omega arith) (get r s.plane) _ s.plane (lift_grows s.lifting _ _))

pub ranges_grow : (l : List Step) (r : Triple Range) → AllInside r (ranges l r)
ranges_grow [] r = λ c. omega arith
ranges_grow (s ∷ l) r = inside_trans r (step_ranges s r) _ (step_grows s r) (ranges_grow l (step_ranges s r))

undone_grows : (l : List Step) (r : Triple Range) → AllInside r (undone_ranges l r)
undone_grows [] r = λ c. omega arith
undone_grows (s ∷ l) r = inside_trans r (undone_ranges l r) _ (undone_grows l r) (step_grows (reversed s) (undone_ranges l r))

-- the plain setup keeps every range; a setup that keeps ranges keeps wider ones
pub plain_keeps : (β : Bands) (s : Settings) (φ : List ℕ) (r : Triple Range) → KeepsRanges r (setup Plain β s φ)
plain_keeps β s φ r c R i z h = h

pub keeps_wider : (σ : Setup) (r R : Triple Range) → AllInside r R → KeepsRanges r σ → KeepsRanges R σ
keeps_wider σ r R h k c X i z w = let a = h c in let j : Inside (get r c) X = omega arith in k c X j z w

module _ (σ : Setup) (r : Triple Range) (keeps : KeepsRanges r σ) (p : Planes) (h : InRanges r p) where
  pub value_in : (t : Term) (i : ℕ) → Within (term_range r t) (value σ p t i)
  value_in (c ᵈ k) i = filtered_in σ.width σ.height (σ.filter k i) (get r c).below (get r c).above (get p c) (h c) i
  value_in (t ⊕ u) i =
      let a = value_in t i in
      let b = value_in u i in
      let e = add_difference (value σ p t i) (value σ p u i) in
      omega arith
  value_in (t /2) i = let a = value_in t i in let e = floor_div_parts 1 (value σ p t i) in omega arith
  value_in (t /4) i = let a = value_in t i in let e = floor_div_parts 3 (value σ p t i) in omega arith

  sample_in : (c : Plane) (skip : Bool) (k : Lifting) (R : Range) (v x : ℤ) → Within R v → Within (get r c) x
      → Within (lift_range k R (get r c)) (cond skip x (σ.keep (lift k v x)))
  sample_in c true k R v x h g = let i = lift_grows k R (get r c) in omega arith
  sample_in c false k R v x h g = keeps c _ (lift_grows k R (get r c)) _ (lift_in k R (get r c) v x h g)

  pub step_in : (s : Step) → InRanges (step_ranges s r) (step σ s p)
  step_in s =
      put_both (λ _ (X : Range). AllIn X.below X.above) r p h _ _ s.plane
      (map_indexed_in (lifted σ p s)
      (λ i x. sample_in s.plane (skipped σ s.term i) s.lifting (term_range r s.term) (value σ p s.term i) x (value_in s.term i))
      0 (get p s.plane) (h s.plane))

module _ (σ : Setup) where
  pub run_in : (l : List Step) (r : Triple Range) (p : Planes) → KeepsRanges r σ → InRanges r p → InRanges (ranges l r) (run σ l p)
  run_in [] r p k h = h
  run_in (s ∷ l) r p k h = run_in l (step_ranges s r) (step σ s p) (keeps_wider σ r _ (step_grows s r) k) (step_in σ r k p h s)

  pub undo_in : (l : List Step) (r : Triple Range) (p : Planes) → KeepsRanges r σ → InRanges r p → InRanges (undone_ranges l r) (undo σ l p)
  undo_in [] r p k h = h
  undo_in (s ∷ l) r p k h =
      step_in σ (undone_ranges l r) (keeps_wider σ r _ (undone_grows l r) k) (undo σ l p) (undo_in l r p k h) (reversed s)

-- ---- wider ranges to begin with
term_range_inside : (r R : Triple Range) → AllInside r R → (t : Term) → Inside (term_range r t) (term_range R t)
term_range_inside r R h (c ᵈ k) = h c
term_range_inside r R h (t ⊕ u) = let a = term_range_inside r R h t in let b = term_range_inside r R h u in omega arith
term_range_inside r R h (t /2) = let a = term_range_inside r R h t in omega arith
term_range_inside r R h (t /4) = let a = term_range_inside r R h t in omega arith

lift_range_inside : (k : Lifting) (v R x X : Range) → Inside v R → Inside x X → Inside (lift_range k v x) (lift_range k R X)
lift_range_inside add v R x X g h = omega arith
lift_range_inside subtract v R x X g h = omega arith
lift_range_inside negate v R x X g h = omega arith

pub step_ranges_inside : (s : Step) (r R : Triple Range) → AllInside r R → AllInside (step_ranges s r) (step_ranges s R)
step_ranges_inside s r R h = put_both (λ _. Inside) r R h _ _ s.plane (lift_range_inside s.lifting _ _ _ _ (term_range_inside r R h s.term) (h s.plane))

pub undone_ranges_inside : (l : List Step) (r R : Triple Range) → AllInside r R → AllInside (undone_ranges l r) (undone_ranges l R)
undone_ranges_inside [] r R h = h
undone_ranges_inside (s ∷ l) r R h = step_ranges_inside (reversed s) (undone_ranges l r) (undone_ranges l R) (undone_ranges_inside l r R h)

pub ranges_inside : (l : List Step) (r R : Triple Range) → AllInside r R → AllInside (ranges l r) (ranges l R)
ranges_inside [] r R h = h
ranges_inside (s ∷ l) r R h = ranges_inside l (step_ranges s r) (step_ranges s R) (step_ranges_inside s r R h)

pub in_inside : (r R : Triple Range) → AllInside r R → (p : Planes) → InRanges r p → InRanges R p
in_inside r R h p k c = all_wider (k c) (h c).low (h c).high

-- ---- ranges on the way
pub take_inside : (l : List Step) (k : ℕ) (r : Triple Range) → AllInside (ranges (take k l) r) (ranges l r)
take_inside [] zero r = λ c. omega arith
take_inside [] (suc k) r = λ c. omega arith
take_inside (s ∷ l) zero r = ranges_grow (s ∷ l) r
take_inside (s ∷ l) (suc k) r = take_inside l k (step_ranges s r)

pub drop_inside : (l : List Step) (k : ℕ) (r : Triple Range) → AllInside (undone_ranges (drop k l) r) (undone_ranges l r)
drop_inside [] zero r = λ c. omega arith
drop_inside [] (suc k) r = λ c. omega arith
drop_inside (s ∷ l) zero r = λ c. omega arith
drop_inside (s ∷ l) (suc k) r = inside_trans _ (undone_ranges l r) _ (drop_inside l k r) (step_grows (reversed s) (undone_ranges l r))
