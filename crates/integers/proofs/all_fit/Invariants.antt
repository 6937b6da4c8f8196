use mathlib.Core.Path.{◌≡◌}
use mathlib.Core.Bool.{◌&&◌}
use Prim.Native.Nat.{◌-◌, ◌^◌}
use lib.Dec.{ltb}
use lib.ListN.{drop}
use mir.Syntax.{w32}
use mir.Val.{of_z}
use Rattle.integers.specs.Lists.{all_within}
use Rattle.integers.proofs.all_fit.Given as goal

abbrev pub invariant-loop-z : goal.invariant-loop-z
invariant-loop-z l = all_within 0 (2 ^ l.bits - 1) l.plane ≡ (ltb (of_z w32 l.union) (2 ^ l.bits) && all_within 0 (2 ^ l.bits - 1) (drop l.z-index l.plane))
