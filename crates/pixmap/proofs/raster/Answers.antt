use Rattle.std.proofs.Common.{◌∙◌, length}
use native.Mathlib.Omega.{arith}
use Rattle.pixmap.proofs.HeaderFields.{part_pointer, part_empty}
use Rattle.pixmap.proofs.Parsing.{raster_none}
use Rattle.pixmap.proofs.raster.Goals as goal

pub returns-in-Err : goal.returns-in-Err
returns-in-Err c =
    let f = c.args.file in
    record { bytes_are = part_empty f.now ∙ raster_none f.now _ c.in-Err.ensures.refusal_is; lent = part_pointer f.now f.ref_ptr (length f.now) (omega arith) }
