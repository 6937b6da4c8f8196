-- Five pieces one behind the other.
use native.Mathlib.Omega.{arith}
use Rattle.text.proofs.Written.{then}
use Rattle.report_text.proofs.pixmaps.put_lines.Goals as goal

pub put_line-requires : goal.put_line-requires
put_line-requires c = record {
  fits = omega (arith, c.requires.empty.room, c.requires.empty.none, c.requires.room, c.put_bytes.ensures.written.end_is, c.put_bytes.ensures.written.long_is);
  some = c.requires.some0;
}

pub put_line-requires-2 : goal.put_line-requires-2
put_line-requires-2 c =
    let w = then c.put_bytes.ensures.written c.put_line.ensures.written.written in
    record {
      fits = omega (arith, c.requires.empty.room, c.requires.empty.none, c.requires.room, c.put_bytes.ensures.written.end_is, c.put_line.ensures.written.fits, w.long_is);
      some = c.requires.some1;
    }

pub put_line-requires-3 : goal.put_line-requires-3
put_line-requires-3 c =
    let w = then (then c.put_bytes.ensures.written c.put_line.ensures.written.written) c.put_line-2.ensures.written.written in
    record {
      fits = omega (arith, c.requires.empty.room, c.requires.empty.none, c.requires.room, c.put_bytes.ensures.written.end_is, c.put_line.ensures.written.fits, c.put_line-2.ensures.written.fits, w.long_is);
      some = c.requires.some2;
    }

pub put_line-requires-4 : goal.put_line-requires-4
put_line-requires-4 c =
    let w = then (then (then c.put_bytes.ensures.written c.put_line.ensures.written.written) c.put_line-2.ensures.written.written) c.put_line-3.ensures.written.written in
    record {
      fits = omega (arith, c.requires.empty.room, c.requires.empty.none, c.requires.room, c.put_bytes.ensures.written.end_is, c.put_line.ensures.written.fits, c.put_line-2.ensures.written.fits, c.put_line-3.ensures.written.fits, w.long_is);
      some = c.requires.some3;
    }

pub returns-clause-written : goal.returns-clause-written
returns-clause-written c =
    let lines = then (then (then c.put_line.ensures.written.written c.put_line-2.ensures.written.written) c.put_line-3.ensures.written.written) c.put_line-4.ensures.written.written in
    record {
      written = rw c.requires.empty.none at (then c.put_bytes.ensures.written lines);
      fits = omega (arith, c.requires.empty.none, c.requires.room, c.put_bytes.ensures.written.end_is, c.put_line.ensures.written.fits, c.put_line-2.ensures.written.fits, c.put_line-3.ensures.written.fits, c.put_line-4.ensures.written.fits);
    }
