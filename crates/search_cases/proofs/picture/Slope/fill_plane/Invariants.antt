use Prim.Native.Nat.{◌≤◌}
use Rattle.search_cases.proofs.picture.Slope.fill_plane.Given as goal

abbrev pub invariant-loop-z : goal.invariant-loop-z
invariant-loop-z l = l.base ≤ 65536
