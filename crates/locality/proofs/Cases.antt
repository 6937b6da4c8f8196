-- The cases, by computation.
use mathlib.Core.Path.{refl}
use Rattle.integers.specs.Lists.{all_within}
use Rattle.stage.specs.Filter.{filtered, mean}
use Rattle.stage.specs.Transform.{transformed, forward}
use Rattle.locality.specs.LocalityCases.{part_cases, PartCasesHold}

pub part_cases_hold : PartCasesHold
unfolding part_cases forward transformed filtered mean all_within
part_cases_hold = refl
