use mathlib.Core.Path.{◌∙◌}
use Rattle.estimate.proofs.Sums.{front_value, front_summable, front_cleared}
use Rattle.estimate.proofs.histogram.sum_and_clear.Goals as goal

pub sum_all-requires : goal.sum_all-requires
sum_all-requires c = let r = c.requires in front_summable r.occurrences r.n_bound.1 r.all_below.each r.n_bound.0

pub returns-then-m-bins-clause-value : goal.returns-then-m-bins-clause-value
returns-then-m-bins-clause-value c = let r = c.requires in c.sum_all.ensures.value ∙ front_value r.occurrences r.n_bound.1 r.all_below.each

pub returns-then-m-bins-clause-all_zero : goal.returns-then-m-bins-clause-all_zero
returns-then-m-bins-clause-all_zero c = let r = c.requires in rw c.sum_all.ensures.all_zero (front_cleared r.occurrences r.n_bound.1 r.all_below.each)
