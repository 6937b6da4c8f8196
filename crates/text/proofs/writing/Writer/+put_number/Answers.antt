use mathlib.Core.Path.{sym, ap, ◌∙◌}
use mathlib.Core.List.{[], ◌∷◌, ◌++◌}
use Prim.Native.Nat.{◌/◌}
use native.Mathlib.Omega.{arith}
use Rattle.stage.specs.Decimal.{numeral}
use Rattle.text.proofs.Numerals.{numeral_digit, numeral_more, digit_length, more_length}
use Rattle.text.proofs.Written.{written_as, then}
use Rattle.text.proofs.writing.Writer.+put_number.Goals as goal

pub put_byte-requires : goal.put_byte-requires
put_byte-requires t c = omega (arith, digit_length c.args.n (omega arith))

pub returns-then-one-clause-written : goal.returns-then-one-clause-written
returns-then-one-clause-written t c = written_as (ap (λ b. b ∷ []) c.digit.ensures ∙ sym (numeral_digit c.args.n (omega arith))) c.put_byte.ensures.written

pub put_number-requires : goal.put_number-requires
put_number-requires t c = (omega arith, omega (arith, more_length c.args.n (omega arith)))

pub put_byte-requires-else-one : goal.put_byte-requires-else-one
put_byte-requires-else-one t c = omega (arith, more_length c.args.n (omega arith))

pub returns-else-one-clause-written : goal.returns-else-one-clause-written
returns-else-one-clause-written t c =
    let n = c.args.n in
    written_as (ap (λ b. numeral (n / 10) ++ b ∷ []) c.digit-else-one.ensures ∙ sym (numeral_more n (omega arith))) (then c.put_number.ensures.written c.put_byte-else-one.ensures.written)
