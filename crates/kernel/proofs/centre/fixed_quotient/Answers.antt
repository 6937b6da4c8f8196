use Rattle.std.proofs.Common.{◌*◌, ◌^◌, ◌<◌, arith, rules}
use Rattle.kernel.proofs.Reciprocals.{product_fits, fixed_quotient}
use Rattle.kernel.proofs.centre.fixed_quotient.Goals as goal
use Rattle.kernel.proofs.centre.fixed_quotient.Goals.{Start}

fits : (c : Start) → c.args.n * c.args.reciprocal < 2 ^ 64
fits c = product_fits c.ranges.n.fits c.ranges.reciprocal.fits

pub overflow_mul-result : goal.overflow_mul-result
overflow_mul-result c = let p = fits c in search rules

pub overflow_cast-result-3 : goal.overflow_cast-result-3
overflow_cast-result-3 c = let p = fits c in omega arith

pub returns : goal.returns
returns c = fixed_quotient c.args.n c.requires
