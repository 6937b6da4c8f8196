-- No end of a range of finished planes is large: each is at most 2^19 (`finished_within`), so the ranges can be added.
use mathlib.Core.Path.{◌≡◌, subst, sym}
use Prim.Native.Nat.{ℕ, ◌≤◌}
use native.Mathlib.Omega.{arith}
use Rattle.stage.specs.declared.Range.{Range}
use Rattle.stage.specs.declared.Triple.{Triple}
use Rattle.stage.specs.declared.Settings.{Settings}
use Rattle.stage.specs.declared.Plane.{Plane}
use Rattle.stage.specs.declared.Plane.TheVariants.{C1, C2, C3}
use Rattle.stage.specs.Settings.{Depths, settings_of, depth_at, UpTo16, Allowed}
use Rattle.stage.specs.Ranges.{finished_ranges}
use Rattle.stage.proofs.Triples.{each_plane}
use Rattle.stage.proofs.Numbers.{finished_within}
use Rattle.ranges.specs.Read.{AllSummable}

pub finished_summable : {d : Depths} → UpTo16 d → (t : ℕ) {r : Triple Range} → r ≡ finished_ranges (settings_of 1 1 d t) → AllSummable r
finished_summable {d} h t e =
    let s = settings_of 1 1 d t in
    let i = finished_within s (each_plane (λ (c : Plane). depth_at s c ≤ 16) h.first h.second h.third) in
    subst AllSummable (sym e) (omega (arith, i C1, i C2, i C3))

-- as it is of a call's settings
pub up_to_16 : {s : Settings} → Allowed s → UpTo16 s.depths
up_to_16 a = record { first = a.depth_most C1; second = a.depth_most C2; third = a.depth_most C3 }
