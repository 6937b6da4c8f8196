use Rattle.std.proofs.Common.{to_z-of_z, rules}
use Rattle.kernel.proofs.LowBits.{LowBits, low_bits}
use Rattle.kernel.proofs.pass.low_bits.Goals as goal
use Rattle.kernel.proofs.pass.low_bits.Goals.{Start}

known : (s : Start) → LowBits s.args.x
known s = low_bits s.args.x s.requires

pub overflow_add-result : goal.overflow_add-result
overflow_add-result c = let k = known c in search rules

pub overflow_cast-result : goal.overflow_cast-result
overflow_cast-result c = let k = known c in search rules

pub overflow_cast-result-2 : goal.overflow_cast-result-2
overflow_cast-result-2 c = let k = known c in simp (to_z-of_z, k.own, k.sum) k.small

pub returns : goal.returns
returns c = let k = known c in simp (to_z-of_z, k.own, k.sum) k.low
