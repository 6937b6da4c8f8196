-- The call's promise, over scratch that is all zero.
use Rattle.stage.specs.Planes.{samples}
use Rattle.report_text.specs.Report.{lent}
use Rattle.report_text.proofs.Replies.{found_by}
use Rattle.report_text.proofs.searches.search_with.Goals as goal

pub returns : goal.returns
unfolding lent
returns c =
    let a = c.args in
    found_by a.header (samples a.picture) a.transform c.search.result a.choices.now _ c.requires (rw c.each.ensures at c.search.ensures.gives)
