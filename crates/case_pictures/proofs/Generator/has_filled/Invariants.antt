-- Below the index the plane holds the generator's samples.
use mathlib.Core.Path.{◌≡◌}
use Prim.Native.Nat.{ℕ, ◌+◌, ◌<◌}
use Rattle.integers.specs.Lists.{at}
use Rattle.case_pictures.specs.Generated.{after, sample}
use Rattle.case_pictures.proofs.Generator.has_filled.Given as goal

abbrev pub invariant-loop-z : goal.invariant-loop-z
invariant-loop-z l =
    (l.self.x ≡ after l.z-index l.fn.self.x) × ((k : ℕ) → k < l.z-index → at l.plane k ≡ sample l.levels.count (after (k + 1) l.fn.self.x))
