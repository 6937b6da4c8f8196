use mathlib.Core.Path.{◌≡◌, refl}
use Prim.Native.Nat.{◌+◌, ◌<◌}
use native.Mathlib.Omega.{arith}
use lib.ListN.{length, get_or, length-set}
use native.Mathlib.Nat.{lt_of_le_of_lt}
use lib.Dec.{eqb, lit<}
use Rattle.stage.specs.Estimate.{histogram, log_sum}
use Rattle.estimate.specs.Counting.{entry}
use Rattle.estimate.proofs.Occurrences.{remaining_all, remaining_less, remaining_none, remaining_le, log_sum_more, log_sum_most}
use Rattle.estimate.proofs.histogram.sum_listed.Goals as goal

pub loop-bin-init : goal.loop-bin-init
unfolding histogram log_sum
loop-bin-init c = record { long = refl; counts = remaining_all c.requires.occurrences; sum = refl }

pub log_product-sum-requires : goal.log_product-sum-requires
log_product-sum-requires c = omega (arith, remaining_le c.loop-bin.invariant.counts (get_or c.args.bins.now c.loop-bin.bin-index 0), c.requires.n_bound)

-- the sum after this turn
pub overflow_add-sum : goal.overflow_add-sum
overflow_add-sum c =
    let l = c.loop-bin in
    let r = entry c.args.bins.now in
    let n = length c.args.bins.now in
    let summed : l.sum + c.log_product-sum.result ≡ log_sum (histogram eqb r n (l.bin-index + 1)) =
    omega (arith, c.log_product-sum.ensures, log_sum_more l.invariant.counts refl, l.invariant.sum) in
    record { fits = rw summed (lt_of_le_of_lt (log_sum_most r n (l.bin-index + 1) c.requires.n_bound) (lit< tt)) }

pub loop-bin-preserved : goal.loop-bin-preserved
loop-bin-preserved c =
    let l = c.loop-bin in
    let there : get_or c.args.bins.now l.bin-index 0 < length l.counters = rw l.invariant.long (c.requires.all_below.each l.bin-index c.loop-bin-test.true) in
    record {
      long = simp length-set l.invariant.long;
      counts = remaining_less l.invariant.counts refl there;
      sum = omega (arith, c.log_product-sum.ensures, log_sum_more l.invariant.counts refl, l.invariant.sum);
    }

pub returns : goal.returns
returns c =
    let l = c.loop-bin in
    let e : l.bin-index ≡ length c.args.bins.now = omega arith in
    record { value = rw e at l.invariant.sum; all_zero = remaining_none (rw e at l.invariant.counts) }
