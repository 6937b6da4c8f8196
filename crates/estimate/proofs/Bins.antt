-- The counters of residuals: each is there, and two residuals have one counter exactly where they are equal.
use mathlib.Core.Path.{◌≡◌, refl, sym, ap, ◌∙◌, subst}
use mathlib.Core.Bool.{Bool, true}
use mathlib.Core.List.{List}
use Prim.Native.Nat.{ℕ, zero, suc, ◌*◌, ◌≤◌, ◌<◌}
use native.Mathlib.Omega.{arith}
use lib.Dec.{eqb, lit<, lit≤}
use lib.IntN.{ℤ, pos}
use mir.Syntax.{w32}
use mir.Val.{to_z, of_z}
use mir.Facts.{to_z-of_z}
use borrow.Author.Tests.{eqb-true, eqb-false}
use borrow.Table.Steps.{cases}
use Rattle.integers.specs.Parts.{In}
use Rattle.integers.specs.Lists.{AllIn}
use Rattle.integers.proofs.Parts.{add_difference, eq_parts}
use Rattle.integers.proofs.Ranges.{in_wider, in_fits}
use Rattle.stage.specs.Estimate.{residual, occurrences, histogram, same_number}
use Rattle.stage.proofs.Prediction.{residual_in_range, same_equal, same_itself}
use Rattle.estimate.specs.Counting.{RangeWithin, bin, Holds, AllBelow, entry}

pub within_residual : {d : ℕ} (w : ℕ) (a : List ℤ) (i : ℕ) → RangeWithin d a → In d d (residual w a i)
within_residual {d} w a i x =
    let h = x.extent in
    in_wider (residual_in_range x.below x.above w a i x.all) h h

pub within_all : {d : ℕ} {a : List ℤ} → RangeWithin d a → d ≤ 262144 → AllIn 262144 262144 a
within_all x h = let e = x.extent in record { each = λ k. in_wider (x.all.each k) (omega arith) (omega arith) }

pub bin_most : (d : ℕ) (z : ℤ) → In d d z → bin d z ≤ 2 * d
unfolding bin
bin_most d z x = omega (arith, add_difference z (pos d))

bin_equal : (d : ℕ) (y z : ℤ) → In d d y → In d d z → bin d y ≡ bin d z → y ≡ z
unfolding bin
bin_equal d y z p q e = eq_parts y z (omega (arith, add_difference y (pos d), add_difference z (pos d)))

pub bin_same : (d : ℕ) (y z : ℤ) → In d d y → In d d z → eqb (bin d y) (bin d z) ≡ same_number y z
bin_same d y z p q = cases (eqb (bin d y) (bin d z))
    (λ e. e ∙ sym (subst (λ (x : ℤ). same_number y x ≡ true) (bin_equal d y z p q (eqb-true (bin d y) (bin d z) e)) (same_itself y)))
    (λ e. e ∙ cases (same_number y z)
    (λ f. absurd (eqb-false (bin d y) (bin d z) e (ap (bin d) (same_equal y z f))))
    (λ f. sym f))

-- ---- a histogram by another name of the same numbers
module _ {A B : Type 0} (p : A → A → Bool) (q : B → B → Bool) (r : ℕ → A) (s : ℕ → B) (k : ℕ) (e : (i j : ℕ) → i < k → j < k → p (r i) (r j) ≡ q (s i) (s j)) where
  occurrences_renamed : (n j : ℕ) → n ≤ k → j < k → occurrences p r n (r j) ≡ occurrences q s n (s j)
  unfolding occurrences
  occurrences_renamed zero j g h = refl
  occurrences_renamed (suc n) j g h = rw (e n j g h, occurrences_renamed n j (omega arith) h)

  pub histogram_renamed : (n m : ℕ) → n ≤ k → m ≤ k → histogram p r n m ≡ histogram q s n m
  unfolding histogram
  histogram_renamed n zero g h = refl
  histogram_renamed n (suc m) g h = rw (occurrences_renamed m m (omega arith) h, occurrences_renamed n m g h, histogram_renamed n m g (omega arith))

-- ---- a list of the counters of n residuals
module _ {d n : ℕ} {r : ℕ → ℤ} {l : List ℕ} (small : (j : ℕ) → In d d (r j)) (x : Holds (λ j. bin d (r j)) n l) where
  pub bins_below : (m : ℕ) → 2 * d < m → AllBelow m n l
  bins_below m h = record { each = λ j g. rw (x.each j g) (omega (arith, bin_most d (r j) (small j))) }

  pub bins_histogram : histogram eqb (entry l) n n ≡ histogram same_number r n n
  bins_histogram =
      histogram_renamed eqb same_number (entry l) r n
      (λ i j g h. rw (x.each i g, x.each j h) (bin_same d (r i) (r j) (small i) (small j)))
      n n (omega arith) (omega arith)

-- a number that the machine holds as it is
pub read_back : {z : ℤ} → In 262144 262144 z → to_z w32 (of_z w32 z) ≡ z
read_back {z} x = to_z-of_z {w = w32} (in_fits x (lit≤ tt) (lit< tt))
