use mathlib.Core.Path.{sym, ◌∙◌}
use borrow.Author.Rules.{rules}
use Rattle.text.proofs.Numbers.{counted, number_read}
use Rattle.text.proofs.reading.read_number.Goals as goal

pub returns-then-none : goal.returns-then-none
returns-then-none c = let e = rw c.part_at-part.ensures at c.digits_first-digits.ensures in sym (counted _) ∙ sym e ∙ (search rules)

pub returns : goal.returns
returns c =
    let e = rw c.part_at-part.ensures at c.digits_first-digits.ensures in
    let v = rw c.part_at-part.ensures at c.value_of.ensures in
    number_read _ _ _ _ _ _ e (search rules) v
