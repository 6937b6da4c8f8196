-- The digits that the reader reads are the numbers of the grammar.
use mathlib.Core.Path.{◌≡◌, refl, sym, ap, ◌∙◌}
use mathlib.Core.Bool.{Bool, true, false, true≢false}
use mathlib.Core.List.{List, [], ◌∷◌, ◌++◌}
use Prim.Native.Nat.{ℕ, suc, ◌+◌, ◌-◌, ◌*◌, ◌^◌}
use native.Mathlib.Nat.{pow-suc}
use native.Mathlib.Omega.{arith}
use lib.ListN.{length}
use Rattle.stage.specs.Decimal.{is_digit, decimal, after_digits}
use Rattle.stage.specs.Pixmap.{first}
use Rattle.stage.specs.Grammar.{Number, last, more}
use Rattle.text.proofs.Numbers.{no_digit, decimal_more, digits_more, decimal_ends, digits_end}

-- ---- from the grammar to the reader
pub number_front : {l : List ℕ} {v : ℕ} (r : List ℕ) → Number l v → is_digit (first (l ++ r)) ≡ true
number_front r (last h) = h
number_front r (more h k) = h

one_more : (n d k v : ℕ) → (10 * n + d) * 10 ^ k + v ≡ n * 10 ^ suc k + (d * 10 ^ k + v)
one_more n d k v = rw (pow-suc 10 k) (omega arith)

module _ (r : List ℕ) (d : is_digit (first r) ≡ false) where
  pub number_behind : {l : List ℕ} {v : ℕ} → Number l v → after_digits (l ++ r) ≡ r
  number_behind (last {b} h) = digits_more b r h ∙ digits_end r d
  number_behind (more {b} {l} h k) = digits_more b (l ++ r) h ∙ number_behind k

  value_after : {l : List ℕ} {v : ℕ} → Number l v → (n : ℕ) → decimal n (l ++ r) ≡ n * 10 ^ length l + v
  value_after (last {b} h) n = decimal_more n b r h ∙ decimal_ends (10 * n + (b - 48)) r d ∙ omega arith
  value_after (more {b} {l} h k) n = decimal_more n b (l ++ r) h ∙ value_after k (10 * n + (b - 48)) ∙ one_more n (b - 48) (length l) _

  pub number_value : {l : List ℕ} {v : ℕ} → Number l v → decimal 0 (l ++ r) ≡ v
  number_value k = value_after k 0 ∙ omega arith

-- ---- from the reader to the grammar
pub record NumberOf (l : List ℕ) : Type 0 where
  pub digits : List ℕ
  pub value : ℕ
  pub parts : l ≡ digits ++ after_digits l
  pub is_number : Number digits value
  pub rest_none : is_digit (first (after_digits l)) ≡ false

number_by : (b : ℕ) (l : List ℕ) (t : Bool) → is_digit b ≡ true → is_digit (first l) ≡ t → (is_digit (first l) ≡ true → NumberOf l) → NumberOf (b ∷ l)
number_by b l true h e f =
    let k = f e in
    let q = digits_more b l h in
    record {
      digits = b ∷ k.digits;
      value = (b - 48) * 10 ^ length k.digits + k.value;
      parts = ap (λ (x : List ℕ). b ∷ x) (k.parts ∙ ap (λ (x : List ℕ). k.digits ++ x) (sym q));
      is_number = more h k.is_number;
      rest_none = rw q k.rest_none;
    }
number_by b l false h e f =
    let q = digits_more b l h ∙ digits_end l e in
    record { digits = b ∷ []; value = b - 48; parts = ap (λ (x : List ℕ). b ∷ x) (sym q); is_number = last h; rest_none = rw q e }

pub number_of : (l : List ℕ) → is_digit (first l) ≡ true → NumberOf l
number_of [] h = absurd (true≢false (sym h ∙ no_digit))
number_of (b ∷ l) h = number_by b l (is_digit (first l)) h refl (number_of l)
