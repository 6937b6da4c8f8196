use mathlib.Core.Path.{◌≡◌}
use mathlib.Core.Bool.{◌&&◌}
use lib.ListN.{drop}
use Rattle.integers.specs.Lists.{all_within}
use Rattle.integers.proofs.all_within.Given as goal

abbrev pub invariant-loop-z : goal.invariant-loop-z
invariant-loop-z l = all_within l.below l.above l.plane ≡ (l.inside && all_within l.below l.above (drop l.z-index l.plane))
