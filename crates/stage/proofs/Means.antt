-- A filter keeps its plane's range, whatever the centre weight, the border and the samples.
use mathlib.Core.Path.{◌≡◌, ap, ◌∙◌}
use mathlib.Core.Bool.{Bool, true, false, cond}
use Prim.Native.Nat.{ℕ, zero, suc, ◌+◌, ◌*◌, ◌-◌, ◌/◌, ◌≤◌, ◌<◌}
use native.Mathlib.Nat.{mul-zero, mul_comm, mul_left_comm, suc-mul, add-mul, mul-le-mul_left, div-lt_iff_lt-mul, div-zero}
use native.Mathlib.Omega.{arith}
use lib.Dec.{eqb}
use lib.IntN.{ℤ, pos, negsuc, ◌+ℤ◌, ◌*ℤ◌}
use lib.ListN.{get_or}
use Rattle.integers.specs.Parts.{pos_part, neg_part, In, floor_div}
use Rattle.integers.specs.Lists.{at}
use Rattle.integers.proofs.Parts.{Difference, add_difference, scale_parts}
use Rattle.integers.proofs.Ranges.{in_zero}
use Rattle.stage.specs.Filter.{weight_sum, weighted_sum, rounded_mean, mean, filtered, weight, window_index, window_sample, centre_weights}
use Rattle.stage.specs.Theorems.{MeanKeepsRange, FilterKeepsRange}

-- a sum of numbers in −below .. above with weights f, W in all, lies in −(W × below) .. W × above
pub weighted_sum_in : {below above : ℕ} (f : ℕ → ℕ) (g : ℕ → ℤ) → ((k : ℕ) → In below above (g k)) → (n : ℕ) → In (weight_sum f n * below) (weight_sum f n * above) (weighted_sum f g n)
weighted_sum_in f g h zero = in_zero _ _
weighted_sum_in {below} {above} f g h (suc n) =
    let i = weighted_sum_in f g h n in
    let e = add_difference (weighted_sum f g n) (pos (f n) *ℤ g n) in
    let p = scale_parts (f n) (g n) in
    let l = mul-le-mul_left (f n) (h n).low in
    let u = mul-le-mul_left (f n) (h n).high in
    record { low = rw add-mul (omega arith); high = rw add-mul (omega arith) }

div_below : (n k m : ℕ) → n < k * m → n / m < k
div_below n k zero h = absurd (omega (arith, mul-zero k))
div_below n k (suc m) h = let p : 0 < suc m = omega arith in (div-lt_iff_lt-mul p).1 h

regroup : (a n : ℕ) → a * (2 * n) ≡ 2 * (n * a)
regroup a n = mul_left_comm a 2 n ∙ ap (λ (x : ℕ). 2 * x) (mul_comm a n)

rounded_most : (m a n : ℕ) → m ≤ 2 * (n * a) + n → m / (2 * n) ≤ a
rounded_most m a zero h = rw div-zero (omega arith)
rounded_most m a (suc n) h = let k = div_below m (suc a) (2 * suc n) (rw (suc-mul a, regroup) (omega arith)) in omega arith

module _ (below above : ℕ) (s : ℤ) (n : ℕ) (h : In (n * below) (n * above) s) where
  divided : (z : ℤ) → Difference z (2 * pos_part s + n) (2 * neg_part s) → In below above (floor_div z (2 * n))
  divided (pos m) e = record { low = omega arith; high = rounded_most m above n (omega arith) }
  divided (negsuc m) e = record { low = div_below m below (2 * n) (rw regroup (omega arith)); high = omega arith }

  pub rounded_mean_in : In below above (rounded_mean s n)
  rounded_mean_in =
      let p = scale_parts 2 s in
      let e = add_difference (pos 2 *ℤ s) (pos n) in
      divided (pos 2 *ℤ s +ℤ pos n) (omega arith)

pub mean_in : MeanKeepsRange
unfolding mean
mean_in w h centre below above a k i =
    let f = weight w h centre i in
    rounded_mean_in below above (weighted_sum f (window_sample w a i) 9) (weight_sum f 9)
    (weighted_sum_in f (window_sample w a i) (λ j. k.each (window_index w i j)) 9)

pub filtered_in : FilterKeepsRange
unfolding filtered
filtered_in w h f below above a k i = pick (eqb f 0) (eqb f 12)
  where
    pick : (b c : Bool) → In below above (cond b (at a i) (cond c (pos 0) (mean w h (get_or centre_weights (f - 1) 0) a i)))
    pick true c = k.each i
    pick false true = in_zero below above
    pick false false = mean_in w h (get_or centre_weights (f - 1) 0) below above a k i
