-- `is_within` is `within`.
use mir.Facts.{to_z-of_z}
use Rattle.integers.proofs.Tests.{bound_is, low_fits, two_tests}
use Rattle.integers.proofs.is_within.Goals as goal

pub overflow_sub-low : goal.overflow_sub-low
overflow_sub-low c = rw (bound_is c.args.below c.requires.0) (low_fits c.args.below c.requires.0)

pub returns : goal.returns
returns c =
    let a = c.args in
    simp (to_z-of_z, c.ranges.z, bound_is a.below c.requires.0, bound_is a.above c.requires.1, low_fits a.below c.requires.0) (two_tests a.below a.above a.z)
