-- A plane of one colour: its residuals and how often they occur.
use mathlib.Core.Path.{◌≡◌, refl, ap}
use mathlib.Core.Bool.{Bool, true, false, cond}
use mathlib.Core.List.{[], ◌∷◌}
use Prim.Native.Nat.{ℕ, zero, suc, ◌-◌, ◌%◌, ◌≤◌, ◌<◌}
use native.Mathlib.Omega.{arith}
use native.Mathlib.Numerals.{unary_clauses}
use lib.Dec.{ltb, eqb}
use lib.IntN.{ℤ, pos, neg_ℤ, ◌-ℤ◌}
use lib.Signed.{le_z}
use lib.ListN.{replicate, length-replicate, get_or-replicate}
use borrow.Author.Tests.{lt-ltb, ne_eqb}
use borrow.Table.Steps.{cases}
use Rattle.integers.specs.Lists.{at}
use Rattle.integers.proofs.Booleans.{and-false}
use Rattle.integers.proofs.Parts.{add_difference, neg_parts, eq_parts}
use Rattle.integers.proofs.Order.{true_le_z, false_le_z}
use Rattle.stage.specs.Estimate.{med, prediction, residual, counted, counted_index, occurrences, histogram, same_number, counted_residual, estimate_of_counts, plane_estimate}
use Rattle.stage.specs.EstimateTheorems.{OneColour}
use Rattle.stage.proofs.Counting.{counted_rule}
use Rattle.stage.proofs.Prediction.{same_itself}

-- ---- the residuals of t samples z
less_zero : (z : ℤ) → z -ℤ pos 0 ≡ z
less_zero z = eq_parts (z -ℤ pos 0) z (omega (arith, add_difference z (neg_ℤ (pos 0)), neg_parts (pos 0)))

less_itself : (z : ℤ) → z -ℤ z ≡ pos 0
less_itself z = eq_parts (z -ℤ z) (pos 0) (omega (arith, add_difference z (neg_ℤ z), neg_parts z))

med_same : (z : ℤ) → med z z z ≡ z
unfolding med
med_same z = rw (true_le_z z z (omega arith))

module _ (w t : ℕ) (z : ℤ) (p : 1 ≤ w) where
  there : (i : ℕ) → i < t → at (replicate t z) i ≡ z
  there i h = get_or-replicate t i z (pos 0) h

  first_residual : 1 ≤ t → residual w (replicate t z) 0 ≡ z
  unfolding residual prediction
  first_residual h = rw (lt-ltb 0 w p, there 0 h) (less_zero z)

  later_prediction : (i : ℕ) → 1 ≤ i → i < t → prediction w (replicate t z) i ≡ z
  unfolding prediction
  later_prediction i g h = cases (ltb i w)
      (λ e. rw (e, ne_eqb i 0 (λ q. omega arith)) (there (i - 1) (omega arith)))
      (λ e. rw (e, there (i - 1) (omega arith), there (i - w) (omega arith), there (i - w - 1) (omega arith), med_same z) (either (eqb (i % w) 0)))
    where
      either : (b : Bool) → cond b z z ≡ z
      either true = refl
      either false = refl

  later_residual : (i : ℕ) → 1 ≤ i → i < t → residual w (replicate t z) i ≡ pos 0
  unfolding residual
  later_residual i g h = rw (later_prediction i g h, there i h) (less_itself z)

-- ---- how often x and y occur, if the first number is x and the next q are y
module _ {A : Type 0} (same : A → A → Bool) (itself : (a : A) → same a a ≡ true) (r : ℕ → A) (x y : A) (xy : same x y ≡ false) (yx : same y x ≡ false) (first : r 0 ≡ x) (q : ℕ) (later : (j : ℕ) → j < q → r (suc j) ≡ y) where
  none : (v : A) → occurrences same r 0 v ≡ 0
  unfolding occurrences
  none v = refl

  first_once : (k : ℕ) → k ≤ q → occurrences same r (suc k) x ≡ 1
  unfolding occurrences
  first_once zero h = rw (first, itself x)
  first_once (suc k) h = rw (later k h, yx) (omega (arith, first_once k (omega arith)))

  later_each : (k : ℕ) → k ≤ q → occurrences same r (suc k) y ≡ k
  unfolding occurrences
  later_each zero h = rw (first, xy)
  later_each (suc k) h = rw (later k h, itself y) (omega (arith, later_each k (omega arith)))

  two_counts : (k : ℕ) → k < q → histogram same r (suc q) (suc (suc k)) ≡ q ∷ 1 ∷ []
  unfolding histogram
  two_counts zero h = rw (later 0 h, first, none x, later_each 0 (omega arith), later_each q (omega arith), first_once q (omega arith))
  two_counts (suc k) h = rw (later (suc k) h, later_each (suc k) (omega arith), ne_eqb (suc k) 0 (λ e. omega arith)) (two_counts k (omega arith))

-- the same of n numbers, two or more
two_values : {A : Type 0} (same : A → A → Bool) (itself : (a : A) → same a a ≡ true) (r : ℕ → A) (x y : A) (n : ℕ) →
    same x y ≡ false → same y x ≡ false → 2 ≤ n → r 0 ≡ x → ((j : ℕ) → 1 ≤ j → j < n → r j ≡ y) → histogram same r n n ≡ (n - 1) ∷ 1 ∷ []
two_values same itself r x y zero xy yx h e f = absurd (omega arith)
two_values same itself r x y (suc zero) xy yx h e f = absurd (omega arith)
two_values same itself r x y (suc (suc k)) xy yx h e f =
    simp unary_clauses (two_counts same itself r x y xy yx e (suc k) (λ j g. f (suc j) (omega arith) (omega arith)) k (omega arith))

-- ---- a colour is not 0
colour_some : (c : ℕ) → same_number (pos (suc c)) (pos 0) ≡ false
colour_some c = rw (false_le_z (pos (suc c)) (pos 0) (omega arith))

some_colour : (c : ℕ) → same_number (pos 0) (pos (suc c)) ≡ false
some_colour c = rw (false_le_z (pos (suc c)) (pos 0) (omega arith)) (and-false (le_z (pos 0) (pos (suc c))))

counted_two : (t : ℕ) → 2 ≤ t → 2 ≤ counted t
unfolding counted
counted_two t h = omega arith

pub one_colour_lem : OneColour
unfolding plane_estimate
one_colour_lem w t c p h =
    let z = pos (suc c) in
    let e = length-replicate {A = ℤ} t z in
    let rule = counted_rule t (omega arith) in
    rw e (ap estimate_of_counts
    (two_values same_number same_itself (counted_residual w (replicate t z)) z (pos 0) (counted t) (colour_some c) (some_colour c) (counted_two t h)
    (rw (e, rule.first) (first_residual w t z p (omega arith)))
    (λ j g f. rw e (later_residual w t z p (counted_index t j) (omega (arith, rule.first, rule.rising 0 j g)) ((rule.inside j).0 f)))))
