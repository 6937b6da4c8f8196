-- The definitions compute to the texts.
use mathlib.Core.Path.{refl}
use Rattle.stage.specs.Decimal.{is_digit, decimal, after_digits, digits, numeral}
use Rattle.stage.specs.Pixmap.{is_white, ends_stretch, stays_inside, after_stretch, field, header_text, depth_among, file_of, header_of, raster_of}
use Rattle.report_text.specs.Text.{separated, numbers, line, refusal_line}
use Rattle.report_text.specs.Report.{report_of}
use Rattle.report_text.specs.Cases.{TextsAgree}

pub texts_agree : TextsAgree
unfolding digits numeral separated numbers line refusal_line report_of is_white is_digit ends_stretch stays_inside after_stretch decimal after_digits field header_text depth_among file_of header_of raster_of
texts_agree = refl
