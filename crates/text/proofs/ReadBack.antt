-- The digits of a number are read back as that number.
use mathlib.Core.Path.{◌≡◌, ap, subst, ◌∙◌}
use mathlib.Core.Bool.{true}
use mathlib.Core.List.{List, [], ◌∷◌, ◌++◌, append_assoc}
use mathlib.Core.Logic.{⊎_elim}
use Prim.Native.Nat.{ℕ, zero, suc, ◌+◌, ◌*◌, ◌/◌, ◌%◌, ◌≤◌, ◌<◌}
use native.Mathlib.Omega.{arith}
use lib.ListN.{length, length-append}
use borrow.Author.Tests.{le-leb}
use Rattle.stage.specs.Decimal.{is_digit, decimal, digit_count, after_digits, digits, numeral}
use Rattle.text.specs.ReadBack.{NumeralsRead}
use Rattle.text.proofs.Numerals.{lower_or_not, one_digit, more_digits}
use Rattle.text.proofs.Numbers.{decimal_more, decimal_ends, count_more, count_none, digits_more, digits_end}

digit_is : (d : ℕ) → d < 10 → is_digit (48 + d) ≡ true
unfolding is_digit
digit_is d h = rw (le-leb 48 (48 + d) (omega arith), le-leb (48 + d) 57 (omega arith))

-- l is digits of v, whatever follows
record DigitsOf (v : ℕ) (l t : List ℕ) : Type 0 where
  pub value : decimal 0 (l ++ t) ≡ decimal v t
  pub count : digit_count (l ++ t) ≡ length l + digit_count t
  pub rest : after_digits (l ++ t) ≡ after_digits t

one : (d : ℕ) (t : List ℕ) → d < 10 → DigitsOf d ((48 + d) ∷ []) t
one d t h =
    let e = digit_is d h in
    record {
      value = decimal_more 0 (48 + d) t e ∙ ap (λ v. decimal v t) (omega arith);
      count = omega (arith, count_more (48 + d) t e);
      rest = digits_more (48 + d) t e;
    }

more : (v d : ℕ) (l t : List ℕ) → d < 10 → DigitsOf v l ((48 + d) ∷ t) → DigitsOf (10 * v + d) (l ++ (48 + d) ∷ []) t
more v d l t h p =
    let e = digit_is d h in
    let a = append_assoc l ((48 + d) ∷ []) t in
    record {
      value = ap (decimal 0) a ∙ p.value ∙ decimal_more v (48 + d) t e ∙ ap (λ n. decimal n t) (omega arith);
      count = ap digit_count a ∙ omega (arith, p.count, count_more (48 + d) t e, length-append l ((48 + d) ∷ []));
      rest = ap after_digits a ∙ p.rest ∙ digits_more (48 + d) t e;
    }

all : (k n : ℕ) (t : List ℕ) → n ≤ k → DigitsOf n (digits k n) t
all zero n t h = rw (one_digit zero n (omega arith)) (one n t (omega arith))
all (suc k) n t h =
    ⊎_elim (λ s. rw (one_digit (suc k) n s) (one n t s))
    (λ s.
    let e : 10 * (n / 10) + n % 10 ≡ n = omega arith in
    let p = more (n / 10) (n % 10) (digits k (n / 10)) t (omega arith) (all k (n / 10) ((48 + n % 10) ∷ t) (omega arith)) in
    rw (more_digits k n s) (subst (λ v. DigitsOf v (digits k (n / 10) ++ (48 + n % 10) ∷ []) t) e p))
    (lower_or_not n)

pub numerals_read : NumeralsRead
unfolding numeral
numerals_read n rest h =
    let p = all n n rest (omega arith) in
    record {
      value_is = p.value ∙ decimal_ends n rest h;
      count_is = omega (arith, p.count, count_none rest h);
      rest_is = p.rest ∙ digits_end rest h;
    }
