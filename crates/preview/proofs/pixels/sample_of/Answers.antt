use mathlib.Core.Path.{sym, subst}
use lib.Dec.{T}
use lib.Ieee.{of_bits}
use Rattle.preview.proofs.Cuts.{sum_number}
use Rattle.preview.proofs.Compared.{itself}
use Rattle.preview.proofs.Stored.{sample_bits}
use Rattle.preview.proofs.pixels.sample_of.Goals as goal

pub float_to_bits-result : goal.float_to_bits-result
unfolding of_bits
float_to_bits-result c = sum_number c.args.x (subst T (sym c.if-x.true) tt)

pub returns-then-x : goal.returns-then-x
unfolding of_bits
returns-then-x c = λ z u h. sample_bits c.args.x z u h

pub returns-else-x : goal.returns-else-x
returns-else-x c = λ z u h. absurd (subst T c.if-x.false (itself c.args.x _ h))
