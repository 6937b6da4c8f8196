use Rattle.report_text.proofs.Reports.{report_as, lines_reported, refusal_reported}
use Rattle.report_text.proofs.put_all.Goals as goal

pub returns-in-Err-clause-written : goal.returns-in-Err-clause-written
returns-in-Err-clause-written c =
    let e = c.in-Err.ensures.put in
    report_as (refusal_reported c.args.file.now _ e.0) (rw e.1 at c.put_refusal.ensures.written)

pub returns-in_default-clause-written : goal.returns-in_default-clause-written
returns-in_default-clause-written c =
    let e = c.in_default.ensures.put in
    report_as (lines_reported c.args.file.now e.0 e.1) e.2
