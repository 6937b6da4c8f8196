-- The digits of n / 10 and n % 10 are those of n, and a 32-bit number has at most ten.
use mathlib.Core.Path.{◌≡◌, refl, sym, ap, ◌∙◌}
use mathlib.Core.List.{[], ◌∷◌, ◌++◌}
use mathlib.Core.Logic.{◌⊎◌, inl, inr, ⊎_elim}
use Prim.Native.Nat.{ℕ, zero, suc, ◌+◌, ◌/◌, ◌%◌, ◌^◌, ◌≤◌, ◌<◌}
use native.Mathlib.Nat.{pow-suc}
use native.Mathlib.Decide.{dec_lt}
use native.Mathlib.Omega.{arith}
use lib.ListN.{length, length-append}
use borrow.Author.Tests.{lt-ltb, le-ltb}
use Rattle.stage.specs.Decimal.{digits, numeral}

pub lower_or_not : (n : ℕ) → n < 10 ⊎ 10 ≤ n
lower_or_not n = go (dec_lt n 10)
  where
    go : Dec (n < 10) → n < 10 ⊎ 10 ≤ n
    go (yes h) = inl h
    go (no h) = inr (omega arith)

pub one_digit : (j n : ℕ) → n < 10 → digits j n ≡ (48 + n) ∷ []
unfolding digits
one_digit zero n h = refl
one_digit (suc j) n h = rw (lt-ltb n 10 h)

pub more_digits : (j n : ℕ) → 10 ≤ n → digits (suc j) n ≡ digits j (n / 10) ++ (48 + n % 10) ∷ []
unfolding digits
more_digits j n h = rw (le-ltb n 10 h)

-- any number of digits that is enough gives the same
enough : (j k n : ℕ) → n ≤ j → n ≤ k → digits j n ≡ digits k n
enough zero k n p q = one_digit zero n (omega arith) ∙ sym (one_digit k n (omega arith))
enough (suc j) zero n p q = one_digit (suc j) n (omega arith) ∙ sym (one_digit zero n (omega arith))
enough (suc j) (suc k) n p q =
    ⊎_elim (λ h. one_digit (suc j) n h ∙ sym (one_digit (suc k) n h))
    (λ h. more_digits j n h ∙ ap (λ l. l ++ (48 + n % 10) ∷ []) (enough j k (n / 10) (omega arith) (omega arith)) ∙ sym (more_digits k n h))
    (lower_or_not n)

pub numeral_digit : (n : ℕ) → n < 10 → numeral n ≡ (48 + n) ∷ []
unfolding numeral
numeral_digit n h = one_digit n n h

pub numeral_more : (n : ℕ) → 10 ≤ n → numeral n ≡ numeral (n / 10) ++ (48 + n % 10) ∷ []
unfolding numeral
numeral_more zero h = absurd (omega arith)
numeral_more (suc m) h = more_digits m (suc m) h ∙ ap (λ l. l ++ (48 + suc m % 10) ∷ []) (enough m (suc m / 10) (suc m / 10) (omega arith) (omega arith))

last_digit : (n : ℕ) → length (digits 0 n) ≡ 1
unfolding digits
last_digit n = refl

pub digit_length : (n : ℕ) → n < 10 → length (numeral n) ≡ 1
digit_length n h = ap length (numeral_digit n h)

pub more_length : (n : ℕ) → 10 ≤ n → length (numeral n) ≡ length (numeral (n / 10)) + 1
more_length n h = ap length (numeral_more n h) ∙ simp length-append

few : (k j n : ℕ) → n < 10 ^ suc k → length (digits j n) ≤ suc k
few zero j n h = rw (one_digit j n (omega arith)) (omega arith)
few (suc k) zero n h = omega (arith, last_digit n)
few (suc k) (suc j) n h =
    ⊎_elim (λ s. rw (one_digit (suc j) n s) (omega arith))
    (λ s. rw (more_digits j n s) (simp length-append (omega (arith, few k j (n / 10) (let t = rw pow-suc at h in omega arith)))))
    (lower_or_not n)

pub numeral_few : (k n : ℕ) → n < 10 ^ suc k → length (numeral n) ≤ suc k
unfolding numeral
numeral_few k n h = few k n n h

pub numeral_short : (n : ℕ) → n < 4294967296 → length (numeral n) ≤ 10
numeral_short n h = numeral_few 9 n (omega arith)

pub byte_short : (n : ℕ) → n < 256 → length (numeral n) ≤ 3
byte_short n h = numeral_few 2 n (omega arith)
