use Rattle.kernel.proofs.Offsets.{offset_add}
use Rattle.kernel.proofs.window.Border.row_sum.Goals as goal

pub returns : goal.returns
returns c = offset_add (offset_add c.sample_if.ensures c.offset_sample.ensures) c.sample_if-2.ensures
