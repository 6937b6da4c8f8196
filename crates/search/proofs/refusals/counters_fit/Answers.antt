use Rattle.ranges.proofs.Ends.{up_to_16}
use Rattle.search.proofs.refusals.counters_fit.Goals as goal

pub counters_needed-requires : goal.counters_needed-requires
counters_needed-requires c = (up_to_16 c.requires, c.requires.transform_most)
