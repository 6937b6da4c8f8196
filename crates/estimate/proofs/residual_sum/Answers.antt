use mathlib.Core.Path.{◌≡◌, sym, ◌∙◌}
use mathlib.Core.List.{List}
use Prim.Native.Nat.{ℕ, ◌≤◌}
use native.Mathlib.Omega.{arith}
use lib.ListN.{length, take}
use Rattle.std.proofs.lemmas.List.{length-take-le}
use Rattle.stage.specs.Estimate.{counted}
use Rattle.stage.proofs.Counting.{counted_most}
use Rattle.estimate.proofs.Occurrences.{occurrences_listed}
use Rattle.estimate.proofs.Estimates.{plane_bins, plane_sum}
use Rattle.estimate.proofs.residual_sum.Goals as goal

-- room for n of t samples
inside : (n t : ℕ) (room : List ℕ) → n ≡ counted t → 4096 ≤ length room → n ≤ length room
inside n t room e h = omega (arith, e, counted_most t)

front : (n t : ℕ) (room : List ℕ) → n ≡ counted t → 4096 ≤ length room → length (take n room) ≡ n
front n t room e h = length-take-le n room (inside n t room e h)

pub slice_bounds-bins-end : goal.slice_bounds-bins-end
slice_bounds-bins-end c = inside _ _ _ c.counted.ensures c.requires.room

pub slice_bounds-bins-end-2 : goal.slice_bounds-bins-end-2
slice_bounds-bins-end-2 c = sym (front _ _ c.args.room.now c.counted.ensures c.requires.room)

pub count-requires-clause-n_value : goal.count-requires-clause-n_value
count-requires-clause-n_value c = front _ _ c.args.room.now c.counted.ensures c.requires.room ∙ c.counted.ensures

-- the residuals are counted, n of them, by counters up to 2 × d
pub sum_and_clear-requires-clause-n_bound : goal.sum_and_clear-requires-clause-n_bound
sum_and_clear-requires-clause-n_bound c =
    let n = c.count.auto.bins ∙ front _ _ c.args.room.now c.counted.ensures c.requires.room in
    (omega (arith, n, c.counted.ensures, counted_most (length c.args.plane.now)), omega (arith, c.count.auto.counters, c.requires.ready.counters.enough))

pub sum_and_clear-requires-clause-all_below : goal.sum_and_clear-requires-clause-all_below
sum_and_clear-requires-clause-all_below c =
    let n = c.count.auto.bins ∙ front _ _ c.args.room.now c.counted.ensures c.requires.room ∙ c.counted.ensures in
    plane_bins c.requires.ready.plane n c.count.ensures.holds _ (omega arith)

pub sum_and_clear-requires-clause-occurrences : goal.sum_and_clear-requires-clause-occurrences
sum_and_clear-requires-clause-occurrences c = occurrences_listed c.count.ensures.holds c.count.ensures.occurrences

pub returns-clause-value : goal.returns-clause-value
returns-clause-value c =
    let n = c.count.auto.bins ∙ front _ _ c.args.room.now c.counted.ensures c.requires.room ∙ c.counted.ensures in
    c.sum_and_clear.ensures.value ∙ plane_sum c.requires.ready.plane n c.count.ensures.holds
