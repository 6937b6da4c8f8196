use lib.Ieee.{of_bits}
use Rattle.preview.proofs.Rows.{ycocg_back_lem}
use Rattle.preview.proofs.matrices.YcocgLossy.inverse.Goals as goal

pub returns : goal.returns
unfolding of_bits
returns c = ycocg_back_lem c.args.x
