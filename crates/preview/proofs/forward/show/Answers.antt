use Rattle.std.proofs.Common.{arith}
use Rattle.preview.proofs.Replies.{shown_values}
use Rattle.preview.proofs.forward.show.Goals as goal

pub returns-in-Ok : goal.returns-in-Ok
returns-in-Ok g c = grind (arith, shown_values)
