use mathlib.Core.Path.{◌≡◌, sym, ◌∙◌}
use Prim.Native.Nat.{◌-◌}
use borrow.Author.Tests.{eq-eqb, ne_eqb}
use Rattle.integers.specs.Lists.{at}
use Rattle.stage.specs.Estimate.{med, prediction}
use Rattle.stage.proofs.Prediction.{med_in_range}
use Rattle.estimate.proofs.Bins.{read_back}
use Rattle.estimate.proofs.residual.prediction.Goals as goal

pub returns-then-i-eq0 : goal.returns-then-i-eq0
unfolding prediction
returns-then-i-eq0 c = rw (sym c.requires.inside.row ∙ c.if-sample.true, eq-eqb c.args.sample.index 0 c.if-i-eq0.true)

pub returns-then-sample : goal.returns-then-sample
unfolding prediction
returns-then-sample c =
    rw (sym c.requires.inside.row ∙ c.if-sample.true, ne_eqb c.args.sample.index 0 c.if-i-eq0.false)
    (read_back (c.requires.all_in.each (c.args.sample.index - 1)))

pub returns-then-sample-2 : goal.returns-then-sample-2
unfolding prediction
returns-then-sample-2 c =
    rw (sym c.requires.inside.row ∙ c.if-sample.false, sym c.requires.inside.column ∙ c.if-sample-2.true)
    (read_back (c.requires.all_in.each (c.args.sample.index - c.args.width)))

pub returns : goal.returns
unfolding prediction
returns c =
    let each = c.requires.all_in.each in
    let i = c.args.sample.index in
    let w = c.args.width in
    let a = c.args.plane.now in
    let e : c.med.result ≡ med (at a (i - 1)) (at a (i - w)) (at a (i - w - 1)) =
    simp (read_back (each (i - 1)), read_back (each (i - w)), read_back (each (i - w - 1))) at c.med.ensures in
    rw (sym c.requires.inside.row ∙ c.if-sample.false, sym c.requires.inside.column ∙ c.if-sample-2.false, e)
    (read_back (med_in_range 262144 262144 (at a (i - 1)) (at a (i - w)) (at a (i - w - 1)) (each (i - 1)) (each (i - w))))
