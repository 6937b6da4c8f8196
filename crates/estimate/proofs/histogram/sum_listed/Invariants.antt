use lib.ListN.{length}
use Rattle.estimate.specs.Counting.{entry}
use Rattle.estimate.proofs.Occurrences.{SecondPass}
use Rattle.estimate.proofs.histogram.sum_listed.Given as goal

abbrev pub invariant-loop-bin : goal.invariant-loop-bin
invariant-loop-bin l = SecondPass (entry l.bins) (length l.bins) l.bin-index l.initial.counters l.counters l.sum
