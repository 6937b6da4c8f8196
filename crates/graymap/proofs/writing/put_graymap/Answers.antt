-- The header, and the samples behind it.
use Rattle.std.proofs.Common.{◌≡◌, rules}
use Rattle.stage.specs.Graymap.{graymap_of}
use Rattle.text.proofs.Written.{then, written_front}
use Rattle.graymap.specs.Parts.{with_file}
use Rattle.graymap.proofs.writing.put_graymap.Goals as goal

pub returns : goal.returns
returns c =
    let a = c.args in
    let file = graymap_of a.width a.height a.range a.samples.now in
    let s = c.new-to.ensures.start in
    let t : c.put_samples.new.to.text.now ≡ with_file file a.file.now = written_front (then c.put_header.ensures.written c.put_samples.ensures.written) s.0 s.1 c.requires.room in
    search rules
