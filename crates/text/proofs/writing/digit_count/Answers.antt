-- The digits counted and those of the rest are one more than the number's.
use native.Mathlib.Omega.{arith}
use Rattle.text.proofs.Numerals.{digit_length, more_length, numeral_short}
use Rattle.text.proofs.writing.digit_count.Goals as goal

pub loop-rest-init : goal.loop-rest-init
loop-rest-init c = omega arith

pub overflow_add-count : goal.overflow_add-count
overflow_add-count c = omega (arith, c.loop-rest.invariant, more_length c.loop-rest.rest (omega arith), numeral_short c.args.n (omega arith))

pub loop-rest-preserved : goal.loop-rest-preserved
loop-rest-preserved c = omega (arith, c.loop-rest.invariant, more_length c.loop-rest.rest (omega arith))

pub returns : goal.returns
returns c = omega (arith, c.loop-rest.invariant, digit_length c.loop-rest.rest (omega arith), numeral_short c.args.n (omega arith))
