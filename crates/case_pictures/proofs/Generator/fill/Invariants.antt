-- Below the index the plane holds the generator's samples, from there on what it held.
use mathlib.Core.Path.{◌≡◌}
use Prim.Native.Nat.{◌+◌}
use Rattle.integers.specs.Lists.{Changed}
use Rattle.case_pictures.specs.Generated.{after, sample}
use Rattle.case_pictures.proofs.Generator.fill.Given as goal

abbrev pub invariant-loop-z : goal.invariant-loop-z
invariant-loop-z l =
    (l.self.x ≡ after l.z-index l.fn.self.x) × Changed (λ k z. sample l.levels.count (after (k + 1) l.fn.self.x)) 0 l.z-index l.initial.plane l.plane
