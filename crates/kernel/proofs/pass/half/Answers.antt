use Rattle.std.proofs.Common.{rules}
use Rattle.integers.proofs.Ranges.{in_floor_div, in_sums}
use Rattle.kernel.proofs.pass.half.Goals as goal

pub returns : goal.returns
returns c = let h = in_floor_div 2 c.requires in search (rules, in_sums)
