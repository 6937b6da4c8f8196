-- Laws of ranges: In below above z.
use mathlib.Core.Path.{◌≡◌, refl, sym, ap, ◌∙◌}
use mathlib.Core.Logic.{◌↔◌}
use Prim.Native.Nat.{ℕ, ◌+◌, ◌^◌, ◌≤◌, ◌<◌, zero-le, suc-le-suc}
use native.Mathlib.Omega.{arith}
use native.Mathlib.Nat.{div-le_self, le_trans}
use lib.Dec.{T, ltb, leb, ltb→lt, leb→le, le→leb, lit≤}
use lib.IntN.{ℤ, pos, negsuc, ◌+ℤ◌, ◌-ℤ◌, neg_ℤ}
use lib.Signed.{non_neg}
use mir.Syntax.{Width}
use mir.Val.{SFits, hbits, of_z, to_z}
use mir.Facts.{to_z-of_z, to_z_pos}
use Rattle.integers.specs.Parts.{pos_part, neg_part, In, within, floor_div}
use Rattle.integers.proofs.Booleans.{and_iff}
use Rattle.integers.proofs.Parts.{add_difference, neg_parts}

pub in_zero : (l h : ℕ) → In l h (pos 0)
in_zero l h = record { low = zero-le; high = zero-le }

pub in_wider : {k l m n : ℕ} {z : ℤ} → In k l z → k ≤ m → l ≤ n → In m n z
in_wider x p q = record { low = le_trans x.low p; high = le_trans x.high q }

pub in_add : {k l m n : ℕ} {x y : ℤ} → In k l x → In m n y → In (k + m) (l + n) (x +ℤ y)
in_add {x} {y} p q = let e = add_difference x y in omega arith

pub in_neg : {k l : ℕ} {z : ℤ} → In k l z → In l k (neg_ℤ z)
in_neg {z} x = let e = neg_parts z in omega arith

pub in_sub : {k l m n : ℕ} {x y : ℤ} → In k l x → In m n y → In (k + n) (l + m) (x -ℤ y)
in_sub p q = in_add p (in_neg q)

-- a floor is no further from 0
pub in_floor_div : {k l : ℕ} {z : ℤ} (d : ℕ) → In k l z → In k l (floor_div z d)
in_floor_div {z = pos n} d x = record { low = zero-le; high = le_trans (div-le_self n d) x.high }
in_floor_div {z = negsuc n} d x = record { low = le_trans (suc-le-suc (div-le_self n d)) x.low; high = zero-le }

-- ---- the range of a machine number
pub in_fits : {k l : ℕ} {z : ℤ} {w : Width} → In k l z → k ≤ 2 ^ hbits w → l < 2 ^ hbits w → SFits w z
in_fits {z = pos n} x p q = record { sfits = le_trans (suc-le-suc x.high) q }
in_fits {z = negsuc n} x p q = record { sfits = le_trans x.low p }

pub sfits_shr : {z : ℤ} {w : Width} (d : ℕ) → SFits w z → SFits w (floor_div z d)
sfits_shr {z = pos n} d x = record { sfits = le_trans (suc-le-suc (div-le_self n d)) x.sfits }
sfits_shr {z = negsuc n} d x = record { sfits = le_trans (suc-le-suc (div-le_self n d)) x.sfits }

-- for `search (rules, in_sums)`: a sum or a difference of two numbers whose ranges are in reach
pub fit_add : {k l m n : ℕ} {x y : ℤ} {w : Width} → In k l x → In m n y → T (leb (k + m) (2 ^ hbits w)) → T (ltb (l + n) (2 ^ hbits w)) → SFits w (x +ℤ y)
fit_add x y p q = in_fits (in_add x y) (lit≤ p) (ltb→lt _ _ q)

pub fit_sub : {k l m n : ℕ} {x y : ℤ} {w : Width} → In k l x → In m n y → T (leb (k + n) (2 ^ hbits w)) → T (ltb (l + m) (2 ^ hbits w)) → SFits w (x -ℤ y)
fit_sub x y p q = in_fits (in_sub x y) (lit≤ p) (ltb→lt _ _ q)

pub ruleset in_sums = (fit_add, fit_sub, sfits_shr)

-- equal bits, equal numbers
pub of_z_inj : {w : Width} {x y : ℤ} → SFits w x → SFits w y → of_z w x ≡ of_z w y → x ≡ y
of_z_inj {w} f g e = sym (to_z-of_z f) ∙ ap (to_z w) e ∙ to_z-of_z g

-- an unsigned number that fits, read as signed
pub to_z_nat : {w : Width} {n : ℕ} → SFits w (pos n) → to_z w n ≡ pos n
to_z_nat {w} f = to_z_pos w f.sfits

-- ---- numbers that are not negative
pub nonneg_holds : (z : ℤ) → neg_part z ≡ 0 → T (non_neg z)
nonneg_holds (pos n) e = tt
nonneg_holds (negsuc n) e = absurd (omega arith)

pub nonneg_is : (z : ℤ) → neg_part z ≡ 0 → pos (pos_part z) ≡ z
nonneg_is (pos n) e = refl
nonneg_is (negsuc n) e = absurd (omega arith)

-- ---- the test of a range
pub within_iff : (l h : ℕ) (z : ℤ) → T (within l h z) ↔ In l h z
within_iff l h z =
    let e = and_iff (leb (neg_part z) l) (leb (pos_part z) h) in (
      (λ t. record { low = leb→le (neg_part z) l (e.0 t).0; high = leb→le (pos_part z) h (e.0 t).1 }),
      (λ x. e.1 (le→leb (neg_part z) l x.low, le→leb (pos_part z) h x.high)),
    )
