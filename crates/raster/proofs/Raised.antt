-- The numbers of a plane less the lowest of their range.
use mathlib.Core.Path.{◌≡◌, ap, ◌∙◌}
use mathlib.Core.List.{List, [], ◌∷◌, map}
use Prim.Native.Nat.{ℕ, ◌+◌, ◌≤◌, ◌<◌}
use native.Mathlib.Numerals.{add-one}
use native.Mathlib.Omega.{arith}
use lib.IntN.{ℤ, pos, ◌+ℤ◌}
use lib.ListN.{length, drop, drop_of_length-le}
use lib.Seq.{drop-cons}
use mir.Syntax.{w32}
use mir.Val.{to_z, of_z}
use mir.Facts.{to_z-of_z}
use Rattle.integers.specs.Parts.{In}
use Rattle.integers.specs.Lists.{at}
use Rattle.integers.proofs.Booleans.{true_holds}
use Rattle.integers.proofs.Lists.{all_within_iff}
use Rattle.integers.proofs.Parts.{add_difference}
use Rattle.integers.proofs.Ranges.{in_fits}
use Rattle.stage.specs.declared.Range.{Range}
use Rattle.stage.specs.Ranges.{extent, Within}
use Rattle.stage.specs.Graymap.{less_lowest}
use Rattle.raster.specs.Samples.{Raisable, Writable}

-- the sum is 0 or more, and at most the range's highest less its lowest
pub raised_in : (r : Range) (z : ℤ) → Within r z → In 0 (extent r) (z +ℤ pos r.below)
raised_in r z w = let d = add_difference z (pos r.below) in omega arith

-- ---- one number after another: sample i, as a loop reads it, less the lowest of its range
module _ {r : Range} {l : List ℤ} {most : ℕ} {text : List ℕ} {start : ℕ} {bytes : List ℕ} (w : Writable most text start bytes r l) (h : most ≤ 65535) (i : ℕ) where
  sample_within : Within r (at l i)
  sample_within = ((all_within_iff r.below r.above l).0 (true_holds w.within)).each i

  stored : to_z w32 (of_z w32 (at l i)) ≡ at l i
  stored = to_z-of_z (in_fits {w = w32} sample_within (omega (arith, w.narrow)) (omega (arith, w.narrow)))

  pub sample_raisable : Raisable r (to_z w32 (of_z w32 (at l i)))
  sample_raisable = rw stored (record { within = sample_within; narrow = omega (arith, w.narrow) })

  module _ {n : ℕ} (e : n ≡ less_lowest r (to_z w32 (of_z w32 (at l i)))) where
    pub value_is : n ≡ less_lowest r (at l i)
    value_is = e ∙ ap (less_lowest r) stored

    pub value_most : n ≤ most
    value_most = omega (arith, value_is, raised_in r (at l i) sample_within, w.narrow)

    -- what is left to write is this one and the rest
    pub next_raised : i < length l → map (less_lowest r) (drop i l) ≡ n ∷ map (less_lowest r) (drop (i + 1) l)
    next_raised g = rw (add-one i, drop-cons l i (pos 0) g, value_is)

pub none_raised : (r : Range) (l : List ℤ) (i : ℕ) → length l ≤ i → map (less_lowest r) (drop i l) ≡ []
none_raised r l i h = ap (map (less_lowest r)) (drop_of_length-le l h)
