use native.Mathlib.Omega.{arith}
use Rattle.ranges.proofs.Ends.{up_to_16}
use Rattle.ranges.proofs.is_picture.Goals as goal

pub all_fit-requires : goal.all_fit-requires
all_fit-requires c = let most = up_to_16 c.requires in omega arith

pub all_fit-requires-2 : goal.all_fit-requires-2
all_fit-requires-2 c = let most = up_to_16 c.requires in omega arith

pub all_fit-requires-3 : goal.all_fit-requires-3
all_fit-requires-3 c = let most = up_to_16 c.requires in omega arith
