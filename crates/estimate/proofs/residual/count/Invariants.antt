use Rattle.stage.specs.Estimate.{counted_residual}
use Rattle.estimate.specs.Counting.{bin}
use Rattle.estimate.proofs.CountedIndices.{CountedTo}
use Rattle.estimate.proofs.residual.count.Given as goal

abbrev pub invariant-loop-slot : goal.invariant-loop-slot
invariant-loop-slot l = CountedTo (λ m. bin l.d (counted_residual l.width l.plane m)) l.every l.width l.initial.counters l.slot-index l.at l.across l.bins l.counters
