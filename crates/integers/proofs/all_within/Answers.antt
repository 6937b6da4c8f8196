-- The invariant: the whole test is what was found so far and the test of the rest.
use borrow.Author.Rules.{rules}
use mathlib.Core.Path.{◌≡◌, sym, ◌∙◌}
use native.Mathlib.Omega.{arith}
use mir.Syntax.{w32}
use mir.Val.{SFits}
use mir.Facts.{to_z-of_z}
use Rattle.integers.specs.Parts.{within}
use Rattle.integers.specs.Lists.{at}
use Rattle.integers.proofs.Tests.{all_within_more, all_within_end}
use Rattle.integers.proofs.all_within.Goals as goal

pub loop-z-preserved : goal.loop-z-preserved
loop-z-preserved c =
    let s = c.before.before.before.before.args in
    let l = c.before.before.before.loop-z in
    let a = s.plane.now in
    let f : SFits w32 (at a l.z-index) = search rules in
    let e : c.is_within-inside.result ≡ within s.below s.above (at a l.z-index) = simp (to_z-of_z, f) at c.is_within-inside.ensures in
    (l.invariant ∙ all_within_more s.below s.above a l.z-index l.inside c.is_within-inside.result (omega arith) e)

pub returns : goal.returns
returns c =
    let s = c.before.before.args in
    let l = c.before.loop-z in
    sym (l.invariant ∙ all_within_end s.below s.above s.plane.now l.z-index l.inside (omega arith))
