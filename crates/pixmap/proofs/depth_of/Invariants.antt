use mathlib.Core.Path.{◌≡◌}
use Prim.Native.Nat.{◌-◌}
use Rattle.stage.specs.Pixmap.{depth_among, depth_of}
use Rattle.pixmap.proofs.depth_of.Given as goal

abbrev pub invariant-loop-b : goal.invariant-loop-b
invariant-loop-b l = depth_among (17 - l.b) l.b l.maxval ≡ depth_of l.maxval
