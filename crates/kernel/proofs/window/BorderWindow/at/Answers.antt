use Rattle.std.proofs.Common.{ℕ, ◌+◌, ◌-◌, ◌*◌, ◌/◌, ◌≤◌, List, ℤ, pos, ◌*ℤ◌, arith, to_z-of_z, rules}
use Rattle.integers.specs.Lists.{at}
use Rattle.integers.proofs.Ranges.{to_z_nat}
use Rattle.kernel.specs.Window.{MeanWindows, Offset, row_sum, window_weight, window_sum, window_mean}
use Rattle.kernel.specs.declared.centre.Centre.{Centre}
use Rattle.kernel.proofs.Offsets.{OffsetMean, offset_mean, offset_add, offset_times, offset_as}
use Rattle.kernel.proofs.Rows.{times_below}
use Rattle.kernel.proofs.window.BorderWindow.at.Goals as goal

module _ {centre : Centre} {w left right above below i : ℕ} {a : List ℤ} (m : MeanWindows centre w left right above below i (i + 1) a) where
  -- the rows' weights
  record Known : Type 0 where
    over : above * (left + 1 + right) ≤ 3
    under : below * (left + 1 + right) ≤ 3

  known : Known
  known =
      let n = left + 1 + right in
      let p = m.windows.inside in
      record { over = times_below above n 3 p.most_above (λ o. omega arith); under = times_below below n 3 p.most_below (λ o. omega arith) }

  -- the sum, and the mean that it gives
  module _ {own sample over under : ℕ} (p : Offset (left + 1 + right) (row_sum a i left right) own) (q : Offset 1 (at a i) sample)
      (s : Offset (above * (left + 1 + right)) (pos above *ℤ row_sum a (i - above * w) left right) over)
      (t : Offset (below * (left + 1 + right)) (pos below *ℤ row_sum a (i + below * w) left right) under) where
    abbrev total : ℕ
    total = own + (centre.weight - 1) * sample + over + under

    abbrev weight : ℕ
    weight = window_weight left right above below centre.weight

    record Sums : Type 0 where
      least : 1 ≤ weight
      most : weight ≤ 1032
      sum : total ≤ 1082130432
      mean : OffsetMean weight (window_sum w left right above below centre.weight a i) ((total + weight / 2) / weight)

    sums : Sums
    sums =
        let k = known in
        let rows = offset_add (offset_add (offset_add p (offset_times (centre.weight - 1) q)) s) t in
        let r = offset_as {u = weight} (omega arith) rows in
        record { least = omega arith; most = omega arith; sum = omega (arith, r.most); mean = offset_mean (omega arith) r }

pub overflow_mul-weight : goal.overflow_mul-weight
overflow_mul-weight c = let k = known c.requires in search rules

pub overflow_add-weight : goal.overflow_add-weight
overflow_add-weight c = let k = known c.requires in search rules

pub overflow_mul-sum : goal.overflow_mul-sum
overflow_mul-sum c = let m = offset_times (c.args.self.centre.weight - 1) c.offset_sample.ensures in search rules

pub overflow_add-sum : goal.overflow_add-sum
overflow_add-sum c = let m = offset_times (c.args.self.centre.weight - 1) c.offset_sample.ensures in search rules

pub row_sum_if-requires : goal.row_sum_if-requires
row_sum_if-requires c = record { inside = omega arith; samples = search rules }

pub overflow_add-sum-2 : goal.overflow_add-sum-2
overflow_add-sum-2 c =
    let k = known c.requires in
    let m = offset_times (c.args.self.centre.weight - 1) c.offset_sample.ensures in
    omega (arith, c.row_sum_if.ensures.most, c.row_sum.ensures.most)

pub row_sum_if-requires-2 : goal.row_sum_if-requires-2
row_sum_if-requires-2 c = record { inside = omega arith; samples = search rules }

pub overflow_add-sum-3 : goal.overflow_add-sum-3
overflow_add-sum-3 c = let k = sums c.requires c.row_sum.ensures c.offset_sample.ensures c.row_sum_if.ensures c.row_sum_if-2.ensures in omega arith

pub overflow_add-result : goal.overflow_add-result
overflow_add-result c = let k = sums c.requires c.row_sum.ensures c.offset_sample.ensures c.row_sum_if.ensures c.row_sum_if-2.ensures in omega arith

pub overflow_cast-result : goal.overflow_cast-result
overflow_cast-result c =
    let k = (sums c.requires c.row_sum.ensures c.offset_sample.ensures c.row_sum_if.ensures c.row_sum_if-2.ensures).mean in
    search (rules, to_z_nat)

pub overflow_sub-result : goal.overflow_sub-result
overflow_sub-result c =
    let k = (sums c.requires c.row_sum.ensures c.offset_sample.ensures c.row_sum_if.ensures c.row_sum_if-2.ensures).mean in
    search (rules, to_z_nat)

pub returns : goal.returns
unfolding window_mean
returns c =
    let k = (sums c.requires c.row_sum.ensures c.offset_sample.ensures c.row_sum_if.ensures c.row_sum_if-2.ensures).mean in
    simp (to_z_nat, to_z-of_z, k.own, k.difference) k.value
