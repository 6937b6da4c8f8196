use mathlib.Core.Path.{◌≡◌, ap, ◌∙◌}
use Prim.Native.Nat.{ℕ}
use native.Mathlib.Omega.{arith}
use Rattle.stage.specs.declared.Range.{Range}
use Rattle.stage.specs.declared.Triple.{Triple}
use Rattle.stage.specs.Settings.{Depths, settings_of, UpTo16}
use Rattle.stage.specs.Steps.{steps}
use Rattle.stage.specs.Ranges.{ranges, sample_ranges}
use Rattle.ranges.specs.Read.{AllSummable}
use Rattle.ranges.proofs.Ends.{finished_summable}
use Rattle.ranges.proofs.finished.finished_ranges.Goals as goal

-- from the ranges of samples r, by the steps of transform t
by_steps : {d : Depths} {r q : Triple Range} (t : ℕ) → UpTo16 d → r ≡ sample_ranges (settings_of 1 1 d 0) → q ≡ ranges (steps t) r → AllSummable q
by_steps t h e f = finished_summable h t (f ∙ ap (ranges (steps t)) e)

pub returns-in-0-clause-summable : goal.returns-in-0-clause-summable
returns-in-0-clause-summable c = by_steps 0 c.requires.0 c.sample_ranges-r.ensures.0 c.rct.ensures

pub returns-in-1-clause-summable : goal.returns-in-1-clause-summable
returns-in-1-clause-summable c = by_steps 1 c.requires.0 c.sample_ranges-r.ensures.0 c.ycocg_r.ensures

pub returns-in-2-clause-summable : goal.returns-in-2-clause-summable
returns-in-2-clause-summable c = by_steps 2 c.requires.0 c.sample_ranges-r.ensures.0 c.rdgdb.ensures

pub returns-in_default-clause-value : goal.returns-in_default-clause-value
returns-in_default-clause-value c =
    let last : c.args.transform ≡ 3 = omega arith in
    rw last (c.ldgeb.ensures ∙ ap (ranges (steps 3)) c.sample_ranges-r.ensures.0)

pub returns-in_default-clause-summable : goal.returns-in_default-clause-summable
returns-in_default-clause-summable c = by_steps 3 c.requires.0 c.sample_ranges-r.ensures.0 c.ldgeb.ensures
