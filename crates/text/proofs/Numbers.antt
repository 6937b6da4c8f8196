-- The digits in front of a text, one by one; and numbers kept to a limit.
use mathlib.Core.Path.{◌≡◌, refl, sym, ap, ◌∙◌}
use mathlib.Core.Bool.{Bool, true, false, cond, not}
use mathlib.Core.List.{List, [], ◌∷◌}
use Prim.Native.Nat.{ℕ, suc, ◌+◌, ◌-◌, ◌*◌, ◌≤◌, ◌<◌, min}
use native.Mathlib.Numerals.{add-one}
use native.Mathlib.Decide.{dec_lt}
use native.Mathlib.Omega.{arith}
use lib.Dec.{leb, eqb, eqb-suc-zero}
use lib.ListN.{length, take, drop, length-drop, drop_of_length-le}
use lib.Seq.{take_all, drop-drop, take-take}
use borrow.Author.Tests.{leb-true}
use Rattle.std.specs.Char.{is_ascii_digit}
use Rattle.std.specs.List.{fold, take_while, prefix_len}
use Rattle.std.proofs.Common.{◌≢◌}
use Rattle.std.proofs.lemmas.List.{length-take}
use Rattle.std.proofs.lemmas.List.Folds.{length-prefix_len}
use Rattle.std.proofs.lemmas.List.Sums.{prefix_len-le-length}
use Rattle.integers.proofs.Booleans.{both_true}
use Rattle.stage.specs.Decimal.{is_digit, decimal, digit_count, after_digits}
use Rattle.stage.specs.Pixmap.{first}
use Rattle.text.specs.declared.reading.Number.{Number}
use Rattle.text.specs.Numbers.{NumberAt}

pub digit_low : (b : ℕ) → is_digit b ≡ true → 48 ≤ b
unfolding is_digit
digit_low b h = leb-true 48 b (both_true (leb 48 b) (leb b 57) h).0

-- ---- a digit in front, and none
pub decimal_more : (n b : ℕ) (l : List ℕ) → is_digit b ≡ true → decimal n (b ∷ l) ≡ decimal (10 * n + (b - 48)) l
unfolding decimal
decimal_more n b l h = rw h

pub count_more : (b : ℕ) (l : List ℕ) → is_digit b ≡ true → digit_count (b ∷ l) ≡ digit_count l + 1
unfolding digit_count
count_more b l h = rw (h, add-one)

pub digits_more : (b : ℕ) (l : List ℕ) → is_digit b ≡ true → after_digits (b ∷ l) ≡ after_digits l
unfolding after_digits
digits_more b l h = rw h

pub decimal_ends : (n : ℕ) (l : List ℕ) → is_digit (first l) ≡ false → decimal n l ≡ n
unfolding decimal
decimal_ends n [] h = refl
decimal_ends n (b ∷ l) h = rw h

pub count_none : (l : List ℕ) → is_digit (first l) ≡ false → digit_count l ≡ 0
unfolding digit_count
count_none [] h = refl
count_none (b ∷ l) h = rw h

pub digits_end : (l : List ℕ) → is_digit (first l) ≡ false → after_digits l ≡ l
unfolding after_digits
digits_end [] h = refl
digits_end (b ∷ l) h = rw h

pub no_digit : is_digit 0 ≡ false
unfolding is_digit
no_digit = refl

count_by : (n : ℕ) (t : Bool) → not (eqb (cond t (suc n) 0) 0) ≡ t
count_by n true = rw (eqb-suc-zero n)
count_by n false = refl

pub count_some : (l : List ℕ) → not (eqb (digit_count l) 0) ≡ is_digit (first l)
unfolding digit_count
count_some [] = sym no_digit
count_some (b ∷ l) = count_by (digit_count l) (is_digit b)

-- ---- behind the digits
after_by : (t : Bool) (b n : ℕ) (l m : List ℕ) → drop n l ≡ m → drop (cond t (suc n) 0) (b ∷ l) ≡ cond t m (b ∷ l)
after_by true b n l m e = e
after_by false b n l m e = refl

after_digits_lem : (l : List ℕ) → drop (digit_count l) l ≡ after_digits l
unfolding digit_count after_digits
after_digits_lem [] = refl
after_digits_lem (b ∷ l) = after_by (is_digit b) b (digit_count l) l (after_digits l) (after_digits_lem l)

-- no more digits than the text is long
pub all_digits : (text : List ℕ) (at : ℕ) → take (length text) (drop at text) ≡ drop at text
all_digits text at = take_all (length text) (drop at text) (omega (arith, length-drop at text))

pub rest_read : {text : List ℕ} {at limit : ℕ} {r : Number} → NumberAt text at (length text) limit r → drop r.at text ≡ after_digits (drop at text)
rest_read {text} {at} n =
    ap (λ (k : ℕ). drop k text) (n.end_is ∙ ap (λ (l : List ℕ). at + digit_count l) (all_digits text at)) ∙ sym (drop-drop (digit_count (drop at text)) at text)
    ∙ after_digits_lem (drop at text)

-- ---- the digits in front are those that pass the test for one
digits_front : (l : List ℕ) → prefix_len is_ascii_digit l ≡ digit_count l
unfolding is_digit digit_count
digits_front [] = refl
digits_front (b ∷ l) = ap (λ (n : ℕ). cond (is_digit b) n 0) (omega (arith, digits_front l))

pub counted : (l : List ℕ) → length (take_while is_ascii_digit l) ≡ digit_count l
counted l = length-prefix_len is_ascii_digit l ∙ digits_front l

count_most : (l : List ℕ) → digit_count l ≤ length l
count_most l = rw (← digits_front l) (prefix_len-le-length is_ascii_digit l)

-- a text from a place on, or from its end on where the place lies behind that
pub part_from : (text : List ℕ) (at n : ℕ) → n ≡ min at (length text) → take (length text - n) (drop n text) ≡ drop at text
part_from text at n e = take_all (length text - n) (drop n text) (omega (arith, length-drop n text)) ∙ go (dec_lt (length text) at)
  where
    go : Dec (length text < at) → drop n text ≡ drop at text
    go (yes h) = drop_of_length-le text (omega arith) ∙ sym (drop_of_length-le text (omega arith))
    go (no h) = ap (λ (i : ℕ). drop i text) (omega arith)

-- those at a place lie within the text
pub count_within : (text : List ℕ) (at most n : ℕ) → n ≡ length (take_while is_ascii_digit (take most (drop at text))) → n ≢ 0 → at + n ≤ length text
count_within text at most n e h =
    let l = take most (drop at text) in
    omega (arith, counted l, count_most l, length-take most (drop at text), length-drop at text)

-- ---- what is kept to a limit on the way gives the number kept to the limit
module _ (limit : ℕ) where
  abbrev extended : ℕ → ℕ → ℕ
  extended n b = min (10 * n + (b - 48)) limit

  kept_by : (t : Bool) (n b : ℕ) (l : List ℕ) → is_digit b ≡ t → ((i : ℕ) → fold extended (min i limit) (take (digit_count l) l) ≡ min (decimal i l) limit)
      → fold extended (min n limit) (take (digit_count (b ∷ l)) (b ∷ l)) ≡ min (decimal n (b ∷ l)) limit
  kept_by true n b l e h =
      rw (count_more b l e, add-one (digit_count l), decimal_more n b l e, ← h (10 * n + (b - 48)))
      (ap (λ (i : ℕ). fold extended i (take (digit_count l) l)) (omega arith))
  kept_by false n b l e h = rw (count_none (b ∷ l) e, decimal_ends n (b ∷ l) e)

  kept : (n : ℕ) (l : List ℕ) → fold extended (min n limit) (take (digit_count l) l) ≡ min (decimal n l) limit
  unfolding decimal digit_count
  kept n [] = refl
  kept n (b ∷ l) = kept_by (is_digit b) n b l refl (λ i. kept i l)

pub number_read : (text : List ℕ) (at most limit n k : ℕ) → k ≡ length (take_while is_ascii_digit (take most (drop at text))) → k ≢ 0
    → n ≡ fold (extended limit) 0 (take k (drop at text)) → NumberAt text at most limit (record { value = n; digits = k; at = at + k })
number_read text at most limit n k s h f =
    let l = take most (drop at text) in
    let e : k ≡ digit_count l = s ∙ counted l in
    let few : k ≤ most = omega (arith, count_most l, length-take most (drop at text)) in
    let part : take k (drop at text) ≡ take (digit_count l) l =
    ap (λ (i : ℕ). take i (drop at text)) e ∙ sym (take-take (digit_count l) most (drop at text) (omega arith)) in
    let none : 0 ≡ min 0 limit = omega arith in
    record {
      value_is = f ∙ ap (λ (m : List ℕ). fold (extended limit) 0 m) part ∙ ap (λ (i : ℕ). fold (extended limit) i (take (digit_count l) l)) none ∙ kept limit 0 l;
      digits_is = e;
      end_is = omega arith;
      some = omega arith;
    }
