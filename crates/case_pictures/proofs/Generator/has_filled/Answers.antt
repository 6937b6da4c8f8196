use borrow.Author.Rules.{rules}
use borrow.Author.Count.{below_more}
use native.Mathlib.Omega.{arith}
use mathlib.Core.Path.{◌≡◌, refl, sym, ap, ◌∙◌}
use Prim.Native.Nat.{ℕ}
use mir.Syntax.{w32}
use mir.Val.{SFits, of_z}
use Rattle.integers.specs.Lists.{at}
use Rattle.integers.proofs.Ranges.{of_z_inj}
use Rattle.case_pictures.proofs.Numbers.{after_none, after_more, sample_more, generated_all, all_generated}
use Rattle.case_pictures.proofs.Generator.has_filled.Goals as goal

pub loop-z-init : goal.loop-z-init
loop-z-init c = (sym (after_none _), λ k p. absurd (omega arith))

pub returns-then-z-sample : goal.returns-then-z-sample
returns-then-z-sample c =
    let l = c.loop-z in
    let a = c.args in
    let y = after_more l.z-index a.self.x l.invariant.0 c.draw.ensures.number in
    let s = sample_more a.levels.count l.z-index a.self.x y c.sample.ensures in (
      λ e. let z : ◌≡◌ {A = ℕ} 0 1 = cc in absurd (omega arith),
      λ e. absurd (c.if-z-sample.true (ap (of_z w32) (all_generated a.levels.count a.self.x a.plane.now e l.z-index (omega arith) ∙ sym s))),
    )

pub loop-z-preserved : goal.loop-z-preserved
loop-z-preserved c =
    let l = c.loop-z in
    let a = c.args in
    let y = after_more l.z-index a.self.x l.invariant.0 c.draw.ensures.number in
    let s = sample_more a.levels.count l.z-index a.self.x y c.sample.ensures in
    let f : SFits w32 (at a.plane.now l.z-index) = search rules in
    (c.draw.ensures.last ∙ y, below_more _ _ l.invariant.1 (of_z_inj {w = w32} f (record { sfits = c.sample.type_inv }) c.if-z-sample.false ∙ s))

pub returns : goal.returns
returns c =
    let a = c.args in
    (λ _. generated_all a.levels.count a.self.x a.plane.now (λ k p. c.loop-z.invariant.1 k (omega arith)), λ _. refl)
