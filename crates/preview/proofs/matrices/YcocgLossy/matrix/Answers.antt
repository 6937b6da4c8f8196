use lib.Ieee.{of_bits}
use Rattle.preview.proofs.Rows.{ycocg_rows}
use Rattle.preview.proofs.matrices.YcocgLossy.matrix.Goals as goal

pub returns : goal.returns
unfolding of_bits
returns c = ycocg_rows c.args.x
