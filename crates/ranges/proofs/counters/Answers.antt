use lib.Dec.{T, leb→le}
use Rattle.integers.proofs.Booleans.{and_iff, true_holds}
use Rattle.stage.specs.declared.Plane.TheVariants.{C1, C2, C3}
use Rattle.stage.specs.Settings.{Depths, settings_of, depths_allowed, UpTo16}
use Rattle.stage.proofs.Validity.{depths_iff}
use Rattle.ranges.proofs.counters.Goals as goal

-- no depth is above 16 where the test holds
tested : (d : Depths) → T (depths_allowed d) → UpTo16 d
tested d h = let depths = (depths_iff (settings_of 1 1 d 0)).0 h in record { first = (depths C1).1; second = (depths C2).1; third = (depths C3).1 }

pub counters_needed-requires : goal.counters_needed-requires
counters_needed-requires c =
    let k = (and_iff c.are_depths.result _).0 (true_holds c.if-are_depths-transform.true) in
    (tested c.args.depths (rw c.are_depths.ensures at k.0), leb→le c.args.transform 3 k.1)
