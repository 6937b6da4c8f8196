use Rattle.ranges.proofs.Ends.{up_to_16}
use Rattle.ranges.proofs.in_finished_ranges.Goals as goal

pub finished_ranges-r-requires : goal.finished_ranges-r-requires
finished_ranges-r-requires c = (up_to_16 c.requires, c.requires.transform_most)
