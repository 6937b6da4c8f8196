-- Four pieces one behind the other; 32-bit numbers have few digits.
use Prim.Native.Nat.{ℕ, ◌/◌, ◌%◌, ◌≤◌, ◌<◌, ◌^◌}
use native.Mathlib.Nat.{div-le_self, mod-le}
use native.Mathlib.Omega.{arith}
use lib.ListN.{length}
use Rattle.stage.specs.Decimal.{numeral}
use Rattle.text.proofs.Numerals.{numeral_short}
use Rattle.text.proofs.Written.{then}
use Rattle.report_text.specs.Text.{numbers}
use Rattle.report_text.proofs.lines.put_numbers.Goals as goal

-- no piece is longer
record Short (e n : ℕ) : Type 0 where
  pub estimate : length (numeral e) ≤ 10
  pub samples : length (numeral n) ≤ 10
  pub each : length (numeral (e / n)) ≤ 10
  pub rest : length (numeral (e % n)) ≤ 10

short : (e n : ℕ) → e < 2 ^ 32 → n < 2 ^ 32 → Short e n
short e n h k = record {
  estimate = numeral_short e (omega arith);
  samples = numeral_short n (omega arith);
  each = numeral_short (e / n) (omega (arith, div-le_self e n));
  rest = numeral_short (e % n) (omega (arith, mod-le e n));
}

pub put_field-requires : goal.put_field-requires
put_field-requires c = let s = short c.args.found.estimate c.args.found.samples (omega arith) (omega arith) in omega (arith, c.requires.fits, s.estimate)

pub put_field-requires-2 : goal.put_field-requires-2
put_field-requires-2 c =
    let s = short c.args.found.estimate c.args.found.samples (omega arith) (omega arith) in
    omega (arith, c.requires.fits, s.estimate, s.samples, c.put_field.ensures.written.end_is, c.put_field.ensures.written.long_is)

pub put_field-requires-3 : goal.put_field-requires-3
put_field-requires-3 c =
    let s = short c.args.found.estimate c.args.found.samples (omega arith) (omega arith) in
    let w = then c.put_field.ensures.written c.put_field-2.ensures.written in
    omega (arith, c.requires.fits, s.estimate, s.samples, s.each, c.put_field.ensures.written.end_is, c.put_field-2.ensures.written.end_is, w.long_is)

pub put_field-requires-4 : goal.put_field-requires-4
put_field-requires-4 c =
    let s = short c.args.found.estimate c.args.found.samples (omega arith) (omega arith) in
    let w = then (then c.put_field.ensures.written c.put_field-2.ensures.written) c.put_field-3.ensures.written in
    omega (arith, c.requires.fits, s.estimate, s.samples, s.each, s.rest, c.put_field.ensures.written.end_is, c.put_field-2.ensures.written.end_is, c.put_field-3.ensures.written.end_is, w.long_is)

pub returns-clause-written : goal.returns-clause-written
unfolding numbers
returns-clause-written c =
    let s = short c.args.found.estimate c.args.found.samples (omega arith) (omega arith) in
    record {
      written = then (then (then c.put_field.ensures.written c.put_field-2.ensures.written) c.put_field-3.ensures.written) c.put_field-4.ensures.written;
      fits = omega (arith, s.estimate, s.samples, s.each, s.rest, c.put_field.ensures.written.end_is, c.put_field-2.ensures.written.end_is, c.put_field-3.ensures.written.end_is, c.put_field-4.ensures.written.end_is);
    }
