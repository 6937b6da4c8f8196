use mathlib.Core.Path.{ap, ◌∙◌}
use Rattle.lifting.specs.declared.passes.Pass.{Pass}
use Rattle.lifting.proofs.Table.{step_is}
use Rattle.lifting.proofs.passes.step_of.Goals as goal

pub pass_at-requires : goal.pass_at-requires
pass_at-requires c = c.requires

pub returns : goal.returns
returns c =
    let a = c.before in
    ap (λ (x : Pass). x.step) c.pass_at.ensures ∙ step_is a.args.transform a.args.place a.requires
