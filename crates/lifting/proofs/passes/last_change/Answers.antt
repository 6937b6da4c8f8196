use Rattle.std.proofs.Common.{◌≡◌, ◌∙◌, sym, ap, get_or, List, true, false}
use Rattle.lifting.specs.declared.passes.Pass.{Pass}
use Rattle.lifting.specs.Passes.{no_pass, pass_at}
use Rattle.lifting.proofs.Table.{same_is, last_more}
use Rattle.lifting.proofs.passes.last_change.Goals as goal
use Rattle.lifting.proofs.passes.last_change.Goals.{then-eq, else-eq}

pub loop-x-preserved : goal.loop-x-preserved
loop-x-preserved c =
    let a = c.args in
    let k = c.loop-x.x-index in
    let e : get_or c.passes-x-items.result.now k no_pass ≡ pass_at a.transform k = ap (λ (l : List Pass). get_or l k no_pass) c.passes-x-items.ensures in
    elim c.if-eq.branch [
      | then-eq w ↦ w.last-is ∙ last_more a.transform a.plane k true e (sym w.if-eq.true ∙ c.eq.ensures ∙ same_is _ _) c.loop-x.invariant
      | else-eq w ↦ w.last-is ∙ last_more a.transform a.plane k false e (sym w.if-eq.false ∙ c.eq.ensures ∙ same_is _ _) c.loop-x.invariant
    ]
