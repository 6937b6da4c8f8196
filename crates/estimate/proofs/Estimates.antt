-- A plane's estimate by the counters of its residuals.
use mathlib.Core.Path.{◌≡◌, ap}
use mathlib.Core.List.{List}
use Prim.Native.Nat.{ℕ, ◌*◌, ◌-◌, ◌≤◌, ◌<◌}
use lib.Dec.{eqb}
use lib.IntN.{ℤ}
use lib.ListN.{length}
use Rattle.stage.specs.Logarithm.{L}
use Rattle.stage.specs.Estimate.{counted, counted_index, counted_residual, histogram, same_number, plane_counts, log_sum, estimate_of_counts, plane_estimate}
use Rattle.stage.proofs.Counting.{counted_some, counted_most}
use Rattle.stage.proofs.Histogram.{log_sum_bound, log_product_most}
use Rattle.stage.proofs.Prediction.{histogram_total}
use Rattle.estimate.specs.Counting.{Countable, bin, Holds, AllBelow, entry}
use Rattle.estimate.proofs.Bins.{within_residual, bins_below, bins_histogram}

pub record Size (n : ℕ) : Type 0 where
  pub some : 1 ≤ n
  pub most : n ≤ 4096

-- N × L(N) and what is subtracted from it
pub record Difference (product sum e : ℕ) : Type 0 where
  pub small : product ≤ 3145728
  pub below : sum ≤ product
  pub value : product - sum ≡ e

pub plane_size : {w d n : ℕ} {a : List ℤ} → Countable w d a → n ≡ counted (length a) → Size n
plane_size {a} x e = rw e (record { some = counted_some (length a) x.some; most = counted_most (length a) })

-- bins has the numbers of the counters of n residuals
module _ {w d n : ℕ} {a : List ℤ} {bins : List ℕ} (x : Countable w d a) (e : n ≡ counted (length a)) (h : Holds (λ j. bin d (counted_residual w a j)) n bins) where
  pub plane_bins : (m : ℕ) → 2 * d < m → AllBelow m n bins
  plane_bins = bins_below (λ j. within_residual w a (counted_index (length a) j) x.range) h

  pub plane_sum : log_sum (histogram eqb (entry bins) n n) ≡ log_sum (plane_counts w a)
  plane_sum = rw (← e) (ap log_sum (bins_histogram (λ j. within_residual w a (counted_index (length a) j) x.range) h))

pub plane_difference : {w d n l s : ℕ} {a : List ℤ} → Countable w d a → n ≡ counted (length a) → l ≡ L n → s ≡ log_sum (plane_counts w a) → Difference (n * l) s (plane_estimate w a)
unfolding plane_estimate estimate_of_counts
plane_difference {w} {n} {a} x e p q =
    let t = histogram_total (counted_residual w a) n in
    let b = log_sum_bound (histogram same_number (counted_residual w a) n n) in
    record {
      small = rw p (log_product_most n (plane_size x e).most);
      below = rw (p, q, ← e) (rw t at b);
      value = rw (p, q, ← e, t);
    }
