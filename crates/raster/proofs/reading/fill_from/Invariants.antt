use Rattle.integers.specs.Lists.{Changed}
use Rattle.raster.proofs.Filling.{sample_at}
use Rattle.raster.proofs.reading.fill_from.Given as goal

abbrev pub invariant-loop-i : goal.invariant-loop-i
invariant-loop-i g l = Changed (sample_at (g.T.Sample.samples l.raster) l.step l.offset l.below) 0 l.i l.initial.plane l.plane
