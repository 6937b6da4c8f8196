use lib.Ieee.{of_bits}
use Rattle.preview.proofs.Rows.{hvsct_back_lem}
use Rattle.preview.proofs.matrices.HvsctLossy.inverse.Goals as goal

pub returns : goal.returns
unfolding of_bits
returns c = hvsct_back_lem c.args.x
