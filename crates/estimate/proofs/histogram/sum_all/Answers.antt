use mathlib.Core.Path.{◌∙◌}
use native.Mathlib.Omega.{arith}
use Rattle.estimate.proofs.Sums.{log_sum_by}
use Rattle.estimate.proofs.histogram.sum_all.Goals as goal

pub sum_products-sum-requires-clause-most : goal.sum_products-sum-requires-clause-most
sum_products-sum-requires-clause-most c = rw (log_sum_by c.args.counters.now) (omega arith)

pub returns-clause-value : goal.returns-clause-value
returns-clause-value c = c.sum_products-sum.ensures ∙ log_sum_by c.args.counters.now
