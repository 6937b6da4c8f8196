use mathlib.Core.Path.{◌≡◌, ◌∙◌}
use Prim.Native.Nat.{ℕ}
use mathlib.Core.List.{List}
use native.Mathlib.Omega.{arith}
use lib.Dec.{lit<, lit≤}
use lib.IntN.{ℤ, pos, nat_abs, ◌+ℤ◌, ◌-ℤ◌}
use mir.Syntax.{w32}
use mir.Val.{to_z, of_z}
use mir.Facts.{to_z-of_z}
use Rattle.integers.specs.Parts.{pos_part, In}
use Rattle.integers.specs.Lists.{at}
use Rattle.integers.proofs.Parts.{add_difference, nat_abs_parts}
use Rattle.integers.proofs.Ranges.{in_wider, in_fits, to_z_nat, nonneg_holds}
use Rattle.integers.proofs.Linear.{fits_lin, flat, count}
use Rattle.stage.specs.Estimate.{prediction, residual}
use Rattle.stage.proofs.Prediction.{prediction_in_range}
use Rattle.estimate.specs.Counting.{Countable, bin}
use Rattle.estimate.proofs.Bins.{within_residual, within_all, read_back}
use Rattle.estimate.proofs.residual.bin.Goals as goal

abbrev stored : ℤ → ℤ
stored z = to_z w32 (of_z w32 z)

-- a sample z less its prediction p, moved by d
abbrev moved : (d : ℕ) (z p : ℤ) → ℤ
moved d z p = z -ℤ p +ℤ pos d

-- every number here fits, and the last is no less than 0
record Known (w d i : ℕ) (a : List ℤ) (p : ℤ) : Type 0 where
  sample_stored : stored (at a i) ≡ at a i
  prediction_stored : stored p ≡ p
  difference_in : In 262144 262144 (at a i -ℤ p)
  d_stored : to_z w32 d ≡ pos d
  moved_in : In 0 524288 (moved d (at a i) p)
  value : pos_part (moved d (at a i) p) ≡ bin d (residual w a i)

known : {w d i : ℕ} {a : List ℤ} {p : ℤ} → Countable w d a → p ≡ prediction w a i → Known w d i a p
unfolding residual bin
known {w} {d} {i} {a} {p} x e =
    let small = x.small in
    let all = within_all x.range small in
    let z : In d d (at a i -ℤ p) = rw e (within_residual w a i x.range) in
    let m = add_difference (at a i -ℤ p) (pos d) in
    record {
      sample_stored = read_back (all.each i);
      prediction_stored = rw e (read_back (prediction_in_range w a i all));
      difference_in = in_wider z small small;
      d_stored = to_z_nat {w = w32} (fits_lin (simp flat (simp count (omega arith))));
      moved_in = omega arith;
      value = rw e;
    }

whole : {w d i : ℕ} {a : List ℤ} {p : ℤ} → Known w d i a p → stored (stored (stored (at a i) -ℤ stored p) +ℤ to_z w32 d) ≡ moved d (at a i) p
whole k = rw (k.sample_stored, k.prediction_stored, read_back k.difference_in, k.d_stored) (to_z-of_z {w = w32} (in_fits k.moved_in (lit≤ tt) (lit< tt)))

pub overflow_sub-z : goal.overflow_sub-z
overflow_sub-z c =
    let k = known c.requires.countable c.prediction-p.ensures in
    rw (k.sample_stored, k.prediction_stored) (in_fits k.difference_in (lit≤ tt) (lit< tt))

pub overflow_add-result : goal.overflow_add-result
overflow_add-result c =
    let k = known c.requires.countable c.prediction-p.ensures in
    rw (k.sample_stored, k.prediction_stored, read_back k.difference_in, k.d_stored) (in_fits k.moved_in (lit≤ tt) (lit< tt))

-- a number that is no less than 0 is its own magnitude
magnitude : (z : ℤ) → In 0 524288 z → nat_abs z ≡ pos_part z
magnitude z x = omega (arith, nat_abs_parts z)

pub overflow_cast-result-2 : goal.overflow_cast-result-2
overflow_cast-result-2 c =
    let k = known c.requires.countable c.prediction-p.ensures in
    let m = k.moved_in in
    rw (whole k) (nonneg_holds _ (omega arith), record { fits = rw (magnitude _ m) (omega arith) })

pub returns : goal.returns
returns c =
    let k = known c.requires.countable c.prediction-p.ensures in
    rw (whole k) (magnitude _ k.moved_in ∙ k.value)
