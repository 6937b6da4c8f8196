-- The order of whole numbers by their parts: what a test of signed numbers says, and what proves one.
use mathlib.Core.Path.{◌≡◌, refl, sym, ap, ◌∙◌}
use mathlib.Core.Bool.{true, false, not}
use Prim.Native.Nat.{ℕ, ◌+◌, ◌≤◌, ◌<◌}
use native.Mathlib.Omega.{arith}
use native.Mathlib.Decide.{dec_le, dec_lt}
use borrow.Author.Tests.{lt-leb, lt-ltb, le-leb, le-ltb}
use lib.Dec.{T, T_not, ltb, leb, leb→le, le→leb}
use lib.IntN.{ℤ, pos, negsuc}
use lib.Signed.{◌≤ℤ◌, le_z, lt_z}
use Rattle.integers.specs.Parts.{pos_part, neg_part}
use Rattle.integers.proofs.Booleans.{holds_true, true_holds, false_fails, fails_false}
use Rattle.integers.proofs.Parts.{eq_parts}

-- x ≤ y, as T (le_z x y), and back
pub le_z_parts : (x y : ℤ) → T (le_z x y) → pos_part x + neg_part y ≤ pos_part y + neg_part x
le_z_parts (pos a) (pos b) t = let h = leb→le a b t in omega arith
le_z_parts (pos a) (negsuc b) t = absurd t
le_z_parts (negsuc a) (pos b) t = omega arith
le_z_parts (negsuc a) (negsuc b) t = let h = leb→le b a t in omega arith

pub parts_le_z : (x y : ℤ) → pos_part x + neg_part y ≤ pos_part y + neg_part x → T (le_z x y)
parts_le_z (pos a) (pos b) h = le→leb a b (omega arith)
parts_le_z (pos a) (negsuc b) h = absurd (omega arith)
parts_le_z (negsuc a) (pos b) h = tt
parts_le_z (negsuc a) (negsuc b) h = le→leb b a (omega arith)

pub not_le_z_parts : (x y : ℤ) → T (not (le_z x y)) → pos_part y + neg_part x < pos_part x + neg_part y
not_le_z_parts x y t = go (dec_le (pos_part x + neg_part y) (pos_part y + neg_part x))
  where
    go : Dec (pos_part x + neg_part y ≤ pos_part y + neg_part x) → pos_part y + neg_part x < pos_part x + neg_part y
    go (yes h) = absurd (T_not (le_z x y) t (parts_le_z x y h))
    go (no h) = omega arith

-- x < y is not y ≤ x
leb_not_ltb : (a b : ℕ) → leb a b ≡ not (ltb b a)
leb_not_ltb a b = go (dec_lt b a)
  where
    go : Dec (b < a) → leb a b ≡ not (ltb b a)
    go (yes h) = lt-leb a b h ∙ sym (ap not (lt-ltb b a h))
    go (no h) = le-leb a b (omega arith) ∙ sym (ap not (le-ltb b a (omega arith)))

pub le_z_not_lt_z : (x y : ℤ) → le_z x y ≡ not (lt_z y x)
le_z_not_lt_z (pos a) (pos b) = leb_not_ltb a b
le_z_not_lt_z (pos a) (negsuc b) = refl
le_z_not_lt_z (negsuc a) (pos b) = refl
le_z_not_lt_z (negsuc a) (negsuc b) = leb_not_ltb b a

-- the value of a test
pub le_z_true : (x y : ℤ) → le_z x y ≡ true → pos_part x + neg_part y ≤ pos_part y + neg_part x
le_z_true x y e = le_z_parts x y (true_holds e)

pub le_z_false : (x y : ℤ) → le_z x y ≡ false → pos_part y + neg_part x < pos_part x + neg_part y
le_z_false x y e = not_le_z_parts x y (false_fails e)

pub lt_z_true : (x y : ℤ) → lt_z x y ≡ true → pos_part x + neg_part y < pos_part y + neg_part x
lt_z_true x y e = le_z_false y x (le_z_not_lt_z y x ∙ ap not e)

pub lt_z_false : (x y : ℤ) → lt_z x y ≡ false → pos_part y + neg_part x ≤ pos_part x + neg_part y
lt_z_false x y e = le_z_true y x (le_z_not_lt_z y x ∙ ap not e)

pub true_le_z : (x y : ℤ) → pos_part x + neg_part y ≤ pos_part y + neg_part x → le_z x y ≡ true
true_le_z x y h = holds_true (le_z x y) (parts_le_z x y h)

pub false_le_z : (x y : ℤ) → pos_part y + neg_part x < pos_part x + neg_part y → le_z x y ≡ false
false_le_z x y h = fails_false (le_z x y) (λ t. let k = le_z_parts x y t in omega arith)

-- the order as a record
pub le_parts : (x y : ℤ) → x ≤ℤ y → pos_part x + neg_part y ≤ pos_part y + neg_part x
le_parts x y h = le_z_parts x y h.le

pub parts_le : (x y : ℤ) → pos_part x + neg_part y ≤ pos_part y + neg_part x → x ≤ℤ y
parts_le x y h = record { le = parts_le_z x y h }

-- for `omega (arith, signed)`: tests and orders of signed numbers that are no sums
pub ruleset signed = (le_z_true, le_z_false, lt_z_true, lt_z_false, le_parts, parts_le, eq_parts)
