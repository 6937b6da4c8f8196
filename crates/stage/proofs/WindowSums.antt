-- Window sums fit 32 signed bits, and 29 are too few.
use mathlib.Core.Bool.{Bool, true, false, cond}
use mathlib.Core.List.{List}
use Prim.Native.Nat.{ℕ, ◌+◌, ◌*◌, ◌-◌, ◌^◌, ◌≤◌}
use native.Mathlib.Nat.{mul-le-mul_right}
use native.Mathlib.Omega.{arith}
use lib.Dec.{leb→le, le→leb, eqb}
use lib.IntN.{ℤ, pos, negsuc, ◌*ℤ◌}
use lib.ListN.{replicate}
use mir.Syntax.{w32}
use mir.Val.{SFits}
use Rattle.integers.specs.Lists.{AllIn, all_within}
use Rattle.integers.proofs.Parts.{add_difference, scale_parts}
use Rattle.integers.proofs.Ranges.{in_fits}
use Rattle.stage.specs.Settings.{Settings, each, settings_of, depth_at}
use Rattle.stage.specs.Planes.{Plane, C3, Planes, triple}
use Rattle.stage.specs.Filter.{inside, weight, weight_sum, weighted_sum, window_index, window_sample, rounded_sum, mean, filtered}
use Rattle.stage.specs.Steps.{Setup}
use Rattle.stage.specs.Ranges.{sample_ranges, finished_ranges, InRanges, KeepsRanges}
use Rattle.stage.specs.Transform.{setup}
use Rattle.stage.specs.Case.{minus}
use Rattle.stage.specs.WindowSums.{SignedBits, BitsOfI32, RunSumsFit, WindowFits, SumsIn32Bits, BitsTooFew}
use Rattle.stage.proofs.Means.{weighted_sum_in}
use Rattle.stage.proofs.Forms.{forms_keep_ranges}
use Rattle.stage.proofs.Numbers.{met_forward, met_back, bounded_in}
use Rattle.stage.proofs.Demand3.{within_ranges_iff}

module _ (w h centre i : ℕ) where
  weight_most : (k : ℕ) → weight w h centre i k ≤ cond (eqb k 4) centre 1
  weight_most k = pick (inside w h i k)
    where
      pick : (b : Bool) → cond b (cond (eqb k 4) centre 1) 0 ≤ cond (eqb k 4) centre 1
      pick true = omega arith
      pick false = omega arith

  weight_sum_most : weight_sum (weight w h centre i) 9 ≤ centre + 8
  weight_sum_most =
      omega (arith, weight_most 0, weight_most 1, weight_most 2, weight_most 3, weight_most 4, weight_most 5, weight_most 6, weight_most 7, weight_most 8)

  -- W is at most centre + 8, and S at most W × b, of samples within ±b
  sum_fits : (bits b : ℕ) (a : List ℤ) → AllIn b b a → (centre + 8) * (2 * b + 1) ≤ 2 ^ (bits - 1) - 1
      → SignedBits bits (rounded_sum (weighted_sum (weight w h centre i) (window_sample w a i) 9) (weight_sum (weight w h centre i) 9))
  sum_fits bits b a k most =
      let f = weight w h centre i in
      let W = weight_sum f 9 in
      let S = weighted_sum f (window_sample w a i) 9 in
      let s = weighted_sum_in f (window_sample w a i) (λ j. k.each (window_index w i j)) 9 in
      let m = mul-le-mul_right {m = W} {n = centre + 8} (2 * b + 1) weight_sum_most in
      let p = scale_parts 2 S in
      let e = add_difference (pos 2 *ℤ S) (pos W) in
      omega arith

pub window_fits : WindowFits
window_fits w h a k centre i c = sum_fits w h centre i 32 _ a k (omega arith)

run_fits : (bits : ℕ) → ((centre : ℕ) → centre ≤ 1024 → (centre + 8) * (2 * 2 ^ 19 + 1) ≤ 2 ^ (bits - 1) - 1)
    → (s : Settings) (σ : Setup) → ((c : Plane) → depth_at s c ≤ 16) → KeepsRanges (sample_ranges s) σ → RunSumsFit bits s σ
run_fits bits most s σ d k = record {
  forward = λ n c p h centre i m. sum_fits _ _ centre i bits _ _ (bounded_in _ (met_forward s σ n p d k h) c) (most centre m);
  back = λ n c q h centre i m. sum_fits _ _ centre i bits _ _ (bounded_in _ (met_back s σ n q d k h) c) (most centre m);
}

pub sums_in_32_bits : SumsIn32Bits
sums_in_32_bits = record {
  every = run_fits _ (λ centre m. omega arith);
  calls = λ κ β s φ d h. run_fits _ (λ centre m. omega arith) s (setup κ β s φ) d (forms_keep_ranges κ β s φ h);
}

pub bits_of_i32 : BitsOfI32
bits_of_i32 z = ((λ b. in_fits b (leb→le _ _ tt) (leb→le _ _ tt)), fits z)
  where
    fits : (z : ℤ) → SFits w32 z → SignedBits 32 z
    fits (pos n) f = let h = f.sfits in omega arith
    fits (negsuc n) f = let h = f.sfits in omega arith

-- ---- the planes that need a thirtieth bit
lent : Planes
lent = triple (replicate 9 (minus 65535)) (replicate 9 (minus 98302)) (replicate 9 (pos 147453))

pub bits_too_few : BitsTooFew
unfolding lent filtered mean all_within
bits_too_few fit =
    let s = settings_of 3 3 (each 16) 1 in
    let h : InRanges (finished_ranges s) lent = (within_ranges_iff (finished_ranges s) lent).0 tt in
    let z = fit.back 1 C3 lent h 1024 4 (leb→le _ _ tt) in
    le→leb 473424840 268435455 z.high
