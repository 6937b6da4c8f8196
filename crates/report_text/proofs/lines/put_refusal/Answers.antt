-- Three pieces one behind the other.
use native.Mathlib.Omega.{arith}
use Rattle.text.proofs.Numerals.{numeral_short}
use Rattle.text.proofs.Written.{then}
use Rattle.report_text.specs.Text.{refusal_line}
use Rattle.report_text.proofs.lines.put_refusal.Goals as goal

pub put_field-requires : goal.put_field-requires
put_field-requires c =
    let s = numeral_short c.number.result (omega arith) in
    omega (arith, s, c.requires.room, c.requires.none, c.put_bytes.ensures.written.end_is, c.put_bytes.ensures.written.long_is)

pub put_byte-requires : goal.put_byte-requires
put_byte-requires c =
    let s = numeral_short c.number.result (omega arith) in
    omega (arith, s, c.requires.room, c.requires.none, c.put_bytes.ensures.written.end_is, c.put_field.ensures.written.end_is, (then c.put_bytes.ensures.written c.put_field.ensures.written).long_is)

pub returns-clause-written : goal.returns-clause-written
unfolding refusal_line
returns-clause-written c =
    let s = numeral_short c.number.result (omega arith) in
    record {
      written = rw (c.number.ensures, c.requires.none) at (then (then c.put_bytes.ensures.written c.put_field.ensures.written) c.put_byte.ensures.written);
      fits = omega (arith, s, c.requires.none, c.put_bytes.ensures.written.end_is, c.put_field.ensures.written.end_is, c.put_byte.ensures.written.end_is);
    }
