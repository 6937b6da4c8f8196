-- The text starts as zeros.
use Rattle.report_text.proofs.Reports.{output_is}
use Rattle.report_text.proofs.report.Goals as goal

pub returns : goal.returns
returns c = output_is _ _ c.put_report-length.ensures
