-- floor_mod z d is the one r of 0 to d − 1 that differs from z by a multiple of d. So sums and differences may be reduced before or after,
-- and to fewer bits at any time.
use mathlib.Core.Path.{◌≡◌, sym, ap, ◌∙◌}
use Prim.Native.Nat.{ℕ, ◌+◌, ◌*◌, ◌-◌, ◌/◌, ◌%◌, ◌^◌, ◌≤◌, ◌<◌}
use native.Mathlib.Nat.{add-mul-mod_self_left, mod-eq_of_lt, mod-lt, div-add-mod, mul-add, mul_assoc}
use native.Mathlib.Omega.{arith}
use lib.IntN.{ℤ, pos, neg_ℤ, ◌+ℤ◌, ◌-ℤ◌, ◌*ℤ◌}
use lib.Pow.{pow_pos, pow-add}
use Rattle.integers.specs.Parts.{pos_part, neg_part, In, floor_div, floor_mod}
use Rattle.integers.proofs.Parts.{add_difference, neg_parts, scale_parts, eq_parts}
use Rattle.integers.proofs.FloorDivision.{floor_div_low, floor_div_high}

-- z and r differ by a multiple of d: d times over − under
pub record Leaves (d : ℕ) (z : ℤ) (r : ℕ) : Type 0 where
  pub over : ℕ
  pub under : ℕ
  pub is : pos_part z + d * under ≡ neg_part z + (r + d * over)
  pub less : r < d

module _ (d : ℕ) (positive : 0 < d) where
  pub floor_mod_in : (z : ℤ) → In 0 (d - 1) (floor_mod z d)
  unfolding floor_mod
  floor_mod_in z =
      let q = floor_div z d in
      let low = floor_div_low z d positive in
      let high = floor_div_high z d positive in
      let multiple = scale_parts d q in
      let negative = neg_parts (pos d *ℤ q) in
      let rest = add_difference z (neg_ℤ (pos d *ℤ q)) in
      omega arith

  leaves : (z : ℤ) → Leaves d z (pos_part (floor_mod z d))
  unfolding floor_mod
  leaves z =
      let q = floor_div z d in
      let multiple = scale_parts d q in
      let negative = neg_parts (pos d *ℤ q) in
      let rest = add_difference z (neg_ℤ (pos d *ℤ q)) in
      let i = floor_mod_in z in
      record { over = pos_part q; under = neg_part q; is = omega arith; less = omega arith }

  -- there is no other
  only : {z : ℤ} {r s : ℕ} → Leaves d z r → Leaves d z s → r ≡ s
  only {z} {r} {s} h g =
      let e : r + d * (h.over + g.under) ≡ s + d * (g.over + h.under) = simp mul-add (omega (arith, h.is, g.is)) in
      sym (mod-eq_of_lt h.less) ∙ sym (add-mul-mod_self_left r d (h.over + g.under)) ∙ ap (λ (n : ℕ). n % d) e ∙ add-mul-mod_self_left s d (g.over + h.under) ∙ mod-eq_of_lt g.less

  pub leaves_mod : {z : ℤ} {r : ℕ} → Leaves d z r → floor_mod z d ≡ pos r
  leaves_mod {z} {r} h =
      let e = only (leaves z) h in
      let i = floor_mod_in z in
      eq_parts (floor_mod z d) (pos r) (omega arith)

  pub mod_leaves : (z : ℤ) {r : ℕ} → floor_mod z d ≡ pos r → Leaves d z r
  mod_leaves z {r} e =
      let p : pos_part (floor_mod z d) ≡ r = ap pos_part e in
      let h = leaves z in
      let l = h.less in
      record { over = h.over; under = h.under; is = rw p at h.is; less = omega arith }

  -- a number of 0 to d − 1 is its own
  pub floor_mod_own : (z : ℤ) → In 0 (d - 1) z → floor_mod z d ≡ z
  floor_mod_own z i =
      leaves_mod {z = z} {r = pos_part z} (record { over = 0; under = 0; is = omega arith; less = omega arith })
      ∙ eq_parts (pos (pos_part z)) z (omega arith)

  -- equal modulo d, and so after a sum and negated
  pub mod_sum : (x y z : ℤ) → floor_mod x d ≡ floor_mod y d → floor_mod (x +ℤ z) d ≡ floor_mod (y +ℤ z) d
  mod_sum x y z e =
      let r = leaves (y +ℤ z) in
      let h = leaves x in
      let g = leaves y in
      let k : pos_part (floor_mod x d) ≡ pos_part (floor_mod y d) = ap pos_part e in
      let s = add_difference x z in
      let t = add_difference y z in
      let i = floor_mod_in (y +ℤ z) in
      leaves_mod {z = x +ℤ z} {r = pos_part (floor_mod (y +ℤ z) d)} (record {
        over = r.over + h.over + g.under;
        under = r.under + h.under + g.over;
        is = simp mul-add (omega (arith, r.is, h.is, g.is));
        less = r.less;
      })
      ∙ eq_parts (pos (pos_part (floor_mod (y +ℤ z) d))) (floor_mod (y +ℤ z) d) (omega arith)

  pub mod_neg : (x y : ℤ) → floor_mod x d ≡ floor_mod y d → floor_mod (neg_ℤ x) d ≡ floor_mod (neg_ℤ y) d
  mod_neg x y e =
      let r = leaves (neg_ℤ y) in
      let h = leaves x in
      let g = leaves y in
      let k : pos_part (floor_mod x d) ≡ pos_part (floor_mod y d) = ap pos_part e in
      let s = neg_parts x in
      let t = neg_parts y in
      let i = floor_mod_in (neg_ℤ y) in
      leaves_mod {z = neg_ℤ x} {r = pos_part (floor_mod (neg_ℤ y) d)} (record {
        over = r.over + h.under + g.over;
        under = r.under + h.over + g.under;
        is = simp mul-add (omega (arith, r.is, h.is, g.is));
        less = r.less;
      })
      ∙ eq_parts (pos (pos_part (floor_mod (neg_ℤ y) d))) (floor_mod (neg_ℤ y) d) (omega arith)

  -- by the numbers left
  pub mod-add : (x y : ℤ) {a b : ℕ} → floor_mod x d ≡ pos a → floor_mod y d ≡ pos b → floor_mod (x +ℤ y) d ≡ pos ((a + b) % d)
  mod-add x y {a} {b} e f =
      let h = mod_leaves x e in
      let g = mod_leaves y f in
      let t = add_difference x y in
      let r = div-add-mod (a + b) d in
      leaves_mod (record {
        over = h.over + g.over + (a + b) / d;
        under = h.under + g.under;
        is = simp mul-add (omega (arith, h.is, g.is));
        less = mod-lt (a + b) positive;
      })

  -- r is the number that b added to leaves a
  pub mod_sub : (x y : ℤ) {a b r : ℕ} → floor_mod x d ≡ pos a → floor_mod y d ≡ pos b → (r + b) % d ≡ a → r < d → floor_mod (x -ℤ y) d ≡ pos r
  mod_sub x y {a} {b} {r} e f k l =
      let h = mod_leaves x e in
      let g = mod_leaves y f in
      let n = neg_parts y in
      let t = add_difference x (neg_ℤ y) in
      let m = div-add-mod (r + b) d in
      leaves_mod (record {
        over = h.over + g.under;
        under = h.under + g.over + (r + b) / d;
        is = simp mul-add (omega (arith, h.is, g.is));
        less = l;
      })

-- the lowest b bits of the lowest n
pub mod_bits : (n b : ℕ) (z : ℤ) {r : ℕ} → b ≤ n → floor_mod z (2 ^ n) ≡ pos r → floor_mod z (2 ^ b) ≡ pos (r % 2 ^ b)
mod_bits n b z {r} l e =
    let h = mod_leaves (2 ^ n) (pow_pos n) z e in
    let k = 2 ^ (n - b) in
    let w : n ≡ b + (n - b) = omega arith in
    let p : 2 ^ n ≡ 2 ^ b * k = ap (λ (i : ℕ). 2 ^ i) w ∙ pow-add 2 b (n - b) in
    let o : 2 ^ n * h.over ≡ 2 ^ b * (k * h.over) = ap (λ (i : ℕ). i * h.over) p ∙ mul_assoc (2 ^ b) k h.over in
    let u : 2 ^ n * h.under ≡ 2 ^ b * (k * h.under) = ap (λ (i : ℕ). i * h.under) p ∙ mul_assoc (2 ^ b) k h.under in
    let m = div-add-mod r (2 ^ b) in
    leaves_mod (2 ^ b) (pow_pos b) (record {
      over = k * h.over + r / 2 ^ b;
      under = k * h.under;
      is = simp mul-add (omega (arith, h.is));
      less = mod-lt r (pow_pos b);
    })
