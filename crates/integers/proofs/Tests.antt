-- The range test as machine code makes it, of one number and of a list; powers of two by a shift.
use mathlib.Core.Path.{◌≡◌, refl, sym}
use mathlib.Core.Bool.{Bool, true, false, ◌&&◌, and_assoc, and-true}
use mathlib.Core.Logic.{◌↔◌}
use mathlib.Core.List.{List}
use Prim.Native.Nat.{ℕ, suc, ◌+◌, ◌-◌, ◌*◌, ◌/◌, ◌%◌, ◌^◌, ◌≤◌, ◌<◌}
use native.Mathlib.Omega.{arith}
use native.Mathlib.Nat.{mod-eq_of_lt, lt_of_le_of_lt, div-lt_iff_lt-mul, div-eq_of_lt, div-le_self}
use native.Mathlib.Numerals.{add-one}
use lib.Bits.{bit_or, or_lt, or_add_and, and_le_l, and_le_r}
use lib.Dec.{T, eqb, ltb, ltb→lt, lt→ltb, nltb→le, eqb→eq, lit<}
use lib.IntN.{ℤ, pos, negsuc, ◌-ℤ◌}
use lib.ListN.{length, drop}
use lib.Pow.{pow_pos, pow_mono}
use lib.Seq.{drop-cons, drop-length}
use lib.Signed.{le_z}
use mir.Syntax.{w32}
use mir.Val.{SFits, sel, to_z, of_z}
use Rattle.integers.specs.Parts.{In, within, floor_div}
use Rattle.integers.specs.Lists.{at, all_within}
use Rattle.integers.proofs.Booleans.{false_fails, and_iff, same_test}
use Rattle.integers.proofs.Parts.{one_part, parts}
use Rattle.integers.proofs.Order.{le_z_parts, parts_le_z}
use Rattle.integers.proofs.Ranges.{within_iff, to_z_nat}
use Rattle.integers.proofs.Linear.{fits_lin, flat, count}

-- a bound, and its negation, as machine numbers
pub bound_is : (n : ℕ) → n ≤ 1073741824 → to_z w32 n ≡ pos n
bound_is n h = to_z_nat {w = w32} (fits_lin (simp flat (simp count (omega arith))))

pub low_fits : (n : ℕ) → n ≤ 1073741824 → SFits w32 (pos 0 -ℤ pos n)
low_fits n h = fits_lin (simp flat (simp count (omega arith)))

-- −below ≤ z and z ≤ above
pub two_tests : (below above : ℕ) (z : ℤ) → (le_z (pos 0 -ℤ pos below) z && le_z z (pos above)) ≡ within below above z
two_tests below above z = same_test (le_z low z && le_z z (pos above)) (within below above z) (there, back) (within_iff below above z)
  where
    low : ℤ
    low = pos 0 -ℤ pos below

    there : T (le_z low z && le_z z (pos above)) → In below above z
    there t =
        let both = (and_iff (le_z low z) (le_z z (pos above))).0 t in
        let p = simp parts at (le_z_parts low z both.0) in
        let q = le_z_parts z (pos above) both.1 in
        let o = one_part z in
        omega arith

    back : In below above z → T (le_z low z && le_z z (pos above))
    back x = (and_iff (le_z low z) (le_z z (pos above))).1 (parts_le_z low z (simp parts (omega arith)), parts_le_z z (pos above) (omega arith))

-- a loop over a list: one number more, whose test gave r
pub all_within_more : (below above : ℕ) (l : List ℤ) (i : ℕ) (b r : Bool) → i < length l → r ≡ within below above (at l i)
    → (b && all_within below above (drop i l)) ≡ ((b && r) && all_within below above (drop (i + 1) l))
unfolding all_within
all_within_more below above l i b r h e = rw (add-one i, drop-cons l i (pos 0) h, ← e) (sym (and_assoc b r (all_within below above (drop (suc i) l))))

-- and its end
pub all_within_end : (below above : ℕ) (l : List ℤ) (i : ℕ) (b : Bool) → i ≡ length l → (b && all_within below above (drop i l)) ≡ b
unfolding all_within
all_within_end below above l i b e = rw (e, drop-length) (and-true b)

-- 1 shifted left
pub shifted : (n : ℕ) → n ≤ 31 → (1 * 2 ^ n) % 4294967296 ≡ 2 ^ n
shifted n h = let e : 1 * 2 ^ n ≡ 2 ^ n = omega arith in rw e (mod-eq_of_lt (lt_of_le_of_lt (pow_mono h) (lit< tt)))

-- ---- the union of all bits: below 2^k when the bits of each number are
pub union_test : (k u v : ℕ) → ltb (bit_or u v) (2 ^ k) ≡ (ltb u (2 ^ k) && ltb v (2 ^ k))
union_test k u v = same_test (ltb (bit_or u v) (2 ^ k)) (ltb u (2 ^ k) && ltb v (2 ^ k)) (there, back) (and_iff (ltb u (2 ^ k)) (ltb v (2 ^ k)))
  where
    there : T (ltb (bit_or u v) (2 ^ k)) → T (ltb u (2 ^ k)) × T (ltb v (2 ^ k))
    there t =
        let q = ltb→lt (bit_or u v) (2 ^ k) t in
        let s = or_add_and u v in
        let l = and_le_l u v in
        let r = and_le_r u v in
        (lt→ltb u (2 ^ k) (omega arith), lt→ltb v (2 ^ k) (omega arith))

    back : T (ltb u (2 ^ k)) × T (ltb v (2 ^ k)) → T (ltb (bit_or u v) (2 ^ k))
    back t = lt→ltb (bit_or u v) (2 ^ k) (or_lt k u v (ltb→lt u (2 ^ k) t.0) (ltb→lt v (2 ^ k) t.1))

-- a number's bits are when it is one of 0 .. 2^k − 1
bits_iff : (k : ℕ) (z : ℤ) → k ≤ 31 → SFits w32 z → T (ltb (of_z w32 z) (2 ^ k)) ↔ In 0 (2 ^ k - 1) z
bits_iff k (pos n) h f =
    let p = pow_pos k in
    ((λ t. let q = ltb→lt n (2 ^ k) t in omega arith), (λ x. lt→ltb n (2 ^ k) (omega arith)))
bits_iff k (negsuc n) h f =
    let p : 2 ^ k ≤ 2 ^ 31 = pow_mono h in
    let g = f.sfits in
    ((λ t. let q = ltb→lt (2 ^ 32 - suc n) (2 ^ k) t in absurd (omega arith)), (λ x. absurd (omega arith)))

pub bits_test : (k : ℕ) (z : ℤ) → k ≤ 31 → SFits w32 z → ltb (of_z w32 z) (2 ^ k) ≡ within 0 (2 ^ k - 1) z
bits_test k z h f = same_test (ltb (of_z w32 z) (2 ^ k)) (within 0 (2 ^ k - 1) z) (bits_iff k z h f) (within_iff 0 (2 ^ k - 1) z)

-- and a signed shift by k leaves 0 of them alone
shift_iff : (k u : ℕ) (b : Bool) → k ≤ 31 → ltb u (2 ^ 31) ≡ b → T (eqb (of_z w32 (floor_div (sel b (pos u) (negsuc (2 ^ 32 - suc u))) (2 ^ k))) 0) ↔ (u < 2 ^ k)
shift_iff k u true h e = (
  (λ t. let z = eqb→eq (u / 2 ^ k) 0 t in let q = (div-lt_iff_lt-mul {k = 2 ^ k} {x = u} {y = 1} (pow_pos k)).0 (omega arith) in omega arith),
  (λ x. rw (div-eq_of_lt x) tt),
)
shift_iff k u false h e =
    let p : 2 ^ k ≤ 2 ^ 31 = pow_mono h in
    let q = nltb→le u (2 ^ 31) (false_fails e) in
    let r = div-le_self (2 ^ 32 - suc u) (2 ^ k) in
    ((λ t. let z = eqb→eq (2 ^ 32 - suc ((2 ^ 32 - suc u) / 2 ^ k)) 0 t in absurd (omega arith)), (λ x. absurd (omega arith)))

pub shift_test : (k u : ℕ) → k ≤ 31 → eqb (of_z w32 (floor_div (to_z w32 u) (2 ^ k))) 0 ≡ ltb u (2 ^ k)
shift_test k u h = same_test (eqb (of_z w32 (floor_div (to_z w32 u) (2 ^ k))) 0) (ltb u (2 ^ k)) (shift_iff k u (ltb u (2 ^ 31)) h refl) (ltb→lt u (2 ^ k), lt→ltb u (2 ^ k))
