use Rattle.pixmap.proofs.HeaderFields.{field_some}
use Rattle.pixmap.proofs.header_text.read_field.Goals as goal

pub returns : goal.returns
returns c = field_some c.args.file.now c.args.at _ _ c.byte.ensures c.is_white.ensures _ c.skip_stretch.ensures c.if-not-is_white.false _ c.in_ok-n.ensures
