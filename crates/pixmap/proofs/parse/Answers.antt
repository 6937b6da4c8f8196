use Rattle.std.proofs.Common.{rules}
use Rattle.pixmap.specs.HeaderFields.{TextOf}
use Rattle.pixmap.proofs.Parsing.{accepted}
use Rattle.pixmap.proofs.parse.Goals as goal

pub returns : goal.returns
returns c =
    let a : TextOf c.letter.result c.args.file c.in-Some.p = search rules in
    accepted c.args.kind c.args.file _ c.requires (rw c.letter.ensures at a) c.in_default-check.ensures
