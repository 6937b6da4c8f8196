use native.Mathlib.Omega.{arith}
use mathlib.Core.Path.{◌≡◌, refl, sym, ap, ◌∙◌}
use lib.ListN.{length}
use mir.Syntax.{w32}
use mir.Facts.{to_z-of_z}
use Rattle.integers.proofs.Changes.{changed_none, changed_more, changed_all}
use Rattle.case_pictures.specs.Generated.{after}
use Rattle.case_pictures.proofs.Numbers.{after_none, after_more, sample_more}
use Rattle.case_pictures.proofs.Generator.fill.Goals as goal

pub loop-z-init : goal.loop-z-init
loop-z-init c = (sym (after_none _), changed_none _ _ refl)

pub loop-z-preserved : goal.loop-z-preserved
loop-z-preserved c =
    let l = c.loop-z in
    let y = after_more l.z-index c.args.self.now.x l.invariant.0 c.draw.ensures.number in
    let s = sample_more c.args.levels.count l.z-index c.args.self.now.x y c.sample.ensures in
    (c.draw.ensures.last ∙ y, changed_more _ l.invariant.1 (omega arith) (omega arith) (to_z-of_z {w = w32} (record { sfits = c.sample.type_inv }) ∙ s) refl)

pub returns : goal.returns
returns c =
    let l = c.loop-z in
    let n : l.z-index ≡ length c.args.plane.now = omega (arith, l.invariant.1.long) in
    record { number_is = l.invariant.0 ∙ ap (λ k. after k c.args.self.now.x) n; plane_is = changed_all l.invariant.1 (omega (arith, l.invariant.1.long)) }
