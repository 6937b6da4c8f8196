-- Six pieces one behind the other.
use Rattle.stage.specs.Graymap.{written_header}
use Rattle.text.proofs.Written.{then}
use Rattle.graymap.proofs.writing.put_header.Goals as goal

pub returns-clause-written : goal.returns-clause-written
unfolding written_header
returns-clause-written c =
    then (then (then (then (then c.put_byte.ensures.written c.put_byte-2.ensures.written) c.put_field.ensures.written) c.put_field-2.ensures.written) c.put_field-3.ensures.written)
    c.put_byte-3.ensures.written
