-- The samples of a raster as the numbers of a plane: their range, and a plane that was filled with them.
use mathlib.Core.Path.{◌≡◌, refl, sym, ap, ap₂, ◌∙◌}
use mathlib.Core.Bool.{Bool, true, false, ◌&&◌, true≢false}
use mathlib.Core.List.{List, [], ◌∷◌, map}
use Prim.Native.Nat.{ℕ, zero, suc, ◌+◌, ◌*◌, ◌≤◌, ◌<◌}
use native.Mathlib.Omega.{arith}
use lib.Dec.{leb, leb→le}
use lib.IntN.{ℤ}
use lib.ListN.{length, get_or, length-map}
use borrow.Author.Tests.{le-leb}
use Rattle.integers.specs.Parts.{In, within}
use Rattle.integers.specs.Lists.{at, all_within}
use Rattle.integers.proofs.Booleans.{holds_true, true_holds, fails_false, both_true}
use Rattle.integers.proofs.Lists.{ext_at}
use Rattle.integers.proofs.Ranges.{within_iff}
use Rattle.integers.proofs.Linear.{in_lin, lin_in, flat, count}
use Rattle.stage.specs.declared.Range.{Range}
use Rattle.stage.specs.Ranges.{extent, within_range}
use Rattle.stage.specs.Graymap.{from_lowest}
use Rattle.raster.specs.Samples.{highest, Filled}

module _ (r : Range) where
  low_in : (n : ℕ) → n ≤ extent r → In r.below r.above (from_lowest r n)
  low_in n h = in_lin (simp flat (simp count (omega arith)))

  in_low : (n : ℕ) → In r.below r.above (from_lowest r n) → n ≤ extent r
  in_low n h = omega (arith, simp count at (simp flat at (lin_in h)))

  -- a sample lies in the range exactly where it is at most maxval
  samples_within : (l : List ℕ) → highest l ≤ extent r → within_range r (map (from_lowest r) l) ≡ true
  unfolding highest all_within
  samples_within [] h = refl
  samples_within (n ∷ l) h =
      ap₂ ◌&&◌ (holds_true (within r.below r.above (from_lowest r n)) ((within_iff r.below r.above (from_lowest r n)).1 (low_in n (omega arith)))) (samples_within l (omega arith))

  within_samples : (l : List ℕ) → within_range r (map (from_lowest r) l) ≡ true → highest l ≤ extent r
  unfolding highest all_within
  within_samples [] h = omega arith
  within_samples (n ∷ l) h =
      let b = both_true (within r.below r.above (from_lowest r n)) (within_range r (map (from_lowest r) l)) h in
      omega (arith, in_low n ((within_iff r.below r.above (from_lowest r n)).0 (true_holds b.0)), within_samples l b.1)

  -- so the largest tells whether all lie in it
  pub samples_test : (l : List ℕ) → leb (highest l) (extent r) ≡ within_range r (map (from_lowest r) l)
  samples_test l = by (within_range r (map (from_lowest r) l)) refl
    where
      by : (t : Bool) → within_range r (map (from_lowest r) l) ≡ t → leb (highest l) (extent r) ≡ t
      by true e = le-leb (highest l) (extent r) (within_samples l e)
      by false e = fails_false (leb (highest l) (extent r)) (λ t. true≢false (sym (samples_within l (leb→le (highest l) (extent r) t)) ∙ e))

  at_map : (l : List ℕ) (k : ℕ) → k < length l → at (map (from_lowest r) l) k ≡ from_lowest r (get_or l k 0)
  at_map [] k h = absurd (omega arith)
  at_map (n ∷ l) zero h = refl
  at_map (n ∷ l) (suc k) h = at_map l k (omega arith)

  pub plane_filled : (l : List ℕ) {before after : List ℤ} → Filled l 1 0 r.below before after → length l ≡ length before → after ≡ map (from_lowest r) l
  plane_filled l {before} {after} f e =
      ext_at after (map (from_lowest r) l) (f.long ∙ sym e ∙ sym (length-map l (from_lowest r)))
      (λ k h. let i : 1 * k + 0 ≡ k = omega arith in
      f.each k (omega (arith, f.long)) ∙ ap (λ (j : ℕ). from_lowest r (get_or l j 0)) i ∙ sym (at_map l k (omega (arith, f.long))))
