use mathlib.Core.Path.{◌≡◌}
use lib.ListN.{take}
use Rattle.raster.specs.Samples.{highest}
use Rattle.raster.proofs.reading.largest.Given as goal

abbrev pub invariant-loop-i : goal.invariant-loop-i
invariant-loop-i g l = g.T.Sample.value l.top ≡ highest (take l.i (g.T.Sample.samples l.raster))
