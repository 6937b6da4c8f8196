-- Four pieces one behind the other.
use native.Mathlib.Omega.{arith}
use Rattle.text.proofs.Written.{then}
use Rattle.report_text.specs.Text.{line}
use Rattle.report_text.proofs.lines.put_line.Goals as goal

pub put_filters-requires : goal.put_filters-requires
put_filters-requires c =
    omega (arith, c.requires.fits, c.put_bytes.ensures.written.end_is, c.put_bytes.ensures.written.long_is)

pub put_numbers-requires : goal.put_numbers-requires
put_numbers-requires c =
    record {
      fits = omega (arith, c.requires.fits, c.put_bytes.ensures.written.end_is, c.put_filters.ensures.written.fits, (then c.put_bytes.ensures.written c.put_filters.ensures.written.written).long_is);
      some = c.requires.some;
    }

pub put_byte-requires : goal.put_byte-requires
put_byte-requires c =
    let w = then (then c.put_bytes.ensures.written c.put_filters.ensures.written.written) c.put_numbers.ensures.written.written in
    omega (arith, c.requires.fits, c.put_bytes.ensures.written.end_is, c.put_filters.ensures.written.fits, c.put_numbers.ensures.written.fits, w.long_is)

pub returns-clause-written : goal.returns-clause-written
unfolding line
returns-clause-written c =
    record {
      written = then (then (then c.put_bytes.ensures.written c.put_filters.ensures.written.written) c.put_numbers.ensures.written.written) c.put_byte.ensures.written;
      fits = omega (arith, c.put_bytes.ensures.written.end_is, c.put_filters.ensures.written.fits, c.put_numbers.ensures.written.fits, c.put_byte.ensures.written.end_is);
    }
