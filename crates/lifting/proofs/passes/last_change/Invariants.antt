use mathlib.Core.Path.{◌≡◌}
use Rattle.lifting.specs.Passes.{last_of}
use Rattle.lifting.proofs.passes.last_change.Given as goal

abbrev pub invariant-loop-x : goal.invariant-loop-x
invariant-loop-x l = l.last ≡ last_of l.transform l.plane l.x-index
