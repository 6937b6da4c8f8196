use lib.Ieee.{of_bits}
use Rattle.preview.proofs.Rows.{hvsct_rows}
use Rattle.preview.proofs.matrices.HvsctLossy.matrix.Goals as goal

pub returns : goal.returns
unfolding of_bits
returns c = hvsct_rows c.args.x
