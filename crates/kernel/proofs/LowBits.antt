-- The lowest 16 bits of a whole number, and fewer of them: one argument over the depth.
use Rattle.std.proofs.Common.{◌≡◌, ℕ, ◌+◌, ◌-◌, ◌/◌, ◌%◌, ◌^◌, ◌<◌, ◌≤◌, T, ℤ, pos, ◌+ℤ◌, ◌-ℤ◌, neg_ℤ, nat_abs, sym, ap, ◌∙◌, mod-lt, arith, pow_pos, pow_mono, w16, w32, Fits, SFits}
use lib.Bits.{bit_and, and_mask}
use lib.IntN.{+ℤ_comm}
use lib.Pow.{ones_split, ones_lt, high}
use lib.Signed.{non_neg}
use Rattle.integers.specs.Parts.{pos_part, neg_part, In, floor_div, floor_mod}
use Rattle.integers.proofs.Parts.{add_difference, nat_abs_parts}
use Rattle.integers.proofs.Ranges.{nonneg_holds, in_floor_div}
use Rattle.integers.proofs.Linear.{flat, count, in_lin, fits_lin}
use Rattle.integers.proofs.FloorModulo.{leaves_mod, mod-add, mod_sub, mod_bits}
use Rattle.kernel.specs.Pass.{Lift, Add, Subtract, Negate, AddHalf, SubtractHalf, FourfoldAdd, FourfoldSubtract, QuarterAdd, QuarterSubtract, made}

-- 2^25 more: 512 times 2^16
pub record LowBits (z : ℤ) : Type 0 where
  pub own : SFits w32 z
  pub sum : SFits w32 (z +ℤ pos 33554432)
  pub sign : T (non_neg (z +ℤ pos 33554432))
  pub size : Fits w32 (nat_abs (z +ℤ pos 33554432))
  pub small : Fits w16 (bit_and (nat_abs (z +ℤ pos 33554432)) 65535)
  pub low : floor_mod z (2 ^ 16) ≡ pos (bit_and (nat_abs (z +ℤ pos 33554432)) 65535)

pub low_bits : (z : ℤ) → In 33554432 33554432 z → LowBits z
low_bits z h =
    let r = z +ℤ pos 33554432 in
    let i : In 0 67108864 r = in_lin (simp flat (simp count (omega arith))) in
    let e : neg_part r ≡ 0 = omega (arith, i.low) in
    let n : nat_abs r ≡ pos_part r = omega (arith, nat_abs_parts r) in
    let t = add_difference z (pos 33554432) in
    let m : bit_and (nat_abs r) 65535 ≡ nat_abs r % 65536 = and_mask (nat_abs r) 16 in
    record {
      own = fits_lin (simp flat (simp count (omega arith)));
      sum = fits_lin (simp flat (simp count (omega arith)));
      sign = nonneg_holds r e;
      size = record { fits = omega (arith, i.high) };
      small = record { fits = omega (arith, m) };
      low = leaves_mod 65536 (omega arith) (record { over = nat_abs r / 65536; under = 512; is = omega arith; less = omega arith }) ∙ ap pos (sym m);
    }

-- b ones are the first b of sixteen
pub depth_mask : (b n : ℕ) → b ≤ 16 → bit_and n (65535 / 2 ^ (16 - b)) ≡ n % 2 ^ b
depth_mask b n h =
    let w : 16 ≡ b + (16 - b) = omega arith in
    let ones : 65535 / 2 ^ (16 - b) ≡ 2 ^ b - 1 =
    ap (λ (k : ℕ). (2 ^ k - 1) / 2 ^ (16 - b)) w
    ∙ ap (λ (k : ℕ). k / 2 ^ (16 - b)) (ones_split b (16 - b))
    ∙ high (2 ^ b - 1) (16 - b) (ones_lt (16 - b)) in
    ap (bit_and n) ones ∙ and_mask n b

-- at most sixteen bits are left
pub small_depth : (b n : ℕ) → b ≤ 16 → SFits w32 (pos (bit_and n (65535 / 2 ^ (16 - b))))
small_depth b n h =
    let e = depth_mask b n h in
    let l = mod-lt n (pow_pos b) in
    let p : 2 ^ b ≤ 2 ^ 16 = pow_mono h in
    record { sfits = omega arith }

-- a number of sixteen bits, reduced to the depth
pub depth_bits : (b : ℕ) (z : ℤ) {n : ℕ} → b ≤ 16 → floor_mod z (2 ^ 16) ≡ pos n → pos (bit_and n (65535 / 2 ^ (16 - b))) ≡ floor_mod z (2 ^ b)
depth_bits b z {n} h e = ap pos (depth_mask b n h) ∙ sym (mod_bits 16 b z h e)

-- what every pass makes is within the reach of 2^25
pub made_in : (n : Lift) (c f : ℤ) → In 4194304 4194304 c → In 524288 524288 f → In 33554432 33554432 (made n c f)
unfolding made
made_in Add c f h i = in_lin (simp flat (simp count (omega arith)))
made_in Subtract c f h i = in_lin (simp flat (simp count (omega arith)))
made_in Negate c f h i = in_lin (simp flat (simp count (omega arith)))
made_in AddHalf c f h i = let v = in_floor_div 2 i in in_lin (simp flat (simp count (omega arith)))
made_in SubtractHalf c f h i = let v = in_floor_div 2 i in in_lin (simp flat (simp count (omega arith)))
made_in FourfoldAdd c f h i = in_lin (simp flat (simp count (omega arith)))
made_in FourfoldSubtract c f h i = in_lin (simp flat (simp count (omega arith)))
made_in QuarterAdd c f h i = in_floor_div {z = c +ℤ f} 4 (in_lin (simp flat (simp count (omega arith))))
made_in QuarterSubtract c f h i = in_floor_div {z = c -ℤ f +ℤ pos 3} 4 (in_lin (simp flat (simp count (omega arith))))

-- ---- a pass modulo 2^16, by the lowest bits of the sample, of the filtered value and of its half
pub record LowOperands (c f : ℤ) (x y h : ℕ) : Type 0 where
  pub sample : floor_mod c (2 ^ 16) ≡ pos x
  pub value : floor_mod f (2 ^ 16) ≡ pos y
  pub halved : floor_mod (floor_div f 2) (2 ^ 16) ≡ pos h

module _ {c f : ℤ} {x y h : ℕ} (l : LowOperands c f x y h) {r : ℕ} where
  pub low_add : r ≡ (x + y) % 2 ^ 16 → floor_mod (made Add c f) (2 ^ 16) ≡ pos r
  unfolding made
  low_add e = mod-add 65536 (omega arith) c f l.sample l.value ∙ ap pos (sym e)

  pub low_subtract : (r + y) % 2 ^ 16 ≡ x → r < 2 ^ 16 → floor_mod (made Subtract c f) (2 ^ 16) ≡ pos r
  unfolding made
  low_subtract e b = mod_sub 65536 (omega arith) c f l.sample l.value e b

  pub low_negate : (r + x) % 2 ^ 16 ≡ y → r < 2 ^ 16 → floor_mod (made Negate c f) (2 ^ 16) ≡ pos r
  unfolding made
  low_negate e b = ap (λ (z : ℤ). floor_mod z (2 ^ 16)) (+ℤ_comm (neg_ℤ c) f) ∙ mod_sub 65536 (omega arith) f c l.value l.sample e b

  pub low_add_half : r ≡ (x + h) % 2 ^ 16 → floor_mod (made AddHalf c f) (2 ^ 16) ≡ pos r
  unfolding made
  low_add_half e = mod-add 65536 (omega arith) c (floor_div f 2) l.sample l.halved ∙ ap pos (sym e)

  pub low_subtract_half : (r + h) % 2 ^ 16 ≡ x → r < 2 ^ 16 → floor_mod (made SubtractHalf c f) (2 ^ 16) ≡ pos r
  unfolding made
  low_subtract_half e b = mod_sub 65536 (omega arith) c (floor_div f 2) l.sample l.halved e b
