-- The mean in the interior: 2^23 / weight is taken off the sample, so that the rest of the sum is not negative, and the rest is divided.
use Rattle.std.proofs.Common.{◌≡◌, ℕ, ◌+◌, ◌*◌, ◌/◌, ◌^◌, ◌<◌, ◌≤◌, T, ℤ, pos, ◌+ℤ◌, ◌-ℤ◌, ◌*ℤ◌, nat_abs, ap, ◌∙◌, mul-le-mul_right, mul-le-mul_left, div-le_self, arith, w32, Fits, SFits}
use lib.Signed.{non_neg}
use Rattle.integers.specs.Parts.{pos_part, neg_part, In, floor_div}
use Rattle.integers.proofs.Parts.{nat_abs_parts}
use Rattle.integers.proofs.Ranges.{nonneg_holds, nonneg_is}
use Rattle.integers.proofs.Linear.{flat, count, eq_lin, in_lin, fits_lin}
use Rattle.integers.proofs.FloorDivision.{floor_div_out}
use Rattle.stage.specs.Filter.{rounded_mean}
use Rattle.stage.proofs.Means.{rounded_mean_in}
use Rattle.kernel.specs.Window.{ValueIn}
use Rattle.kernel.specs.Centre.{CentreWeight}
use Rattle.kernel.specs.declared.centre.Centre.{Centre}
use Rattle.kernel.proofs.Means.{mean_beside}

-- a sample, and the sum of its neighbours
pub record SampleIn (centre : Centre) (sample : ℤ) : Type 0 where
  pub weights : CentreWeight centre
  pub range : In 524288 524288 sample

pub record InteriorIn (centre : Centre) (neighbours sample : ℤ) : Type 0 where
  pub own : SampleIn centre sample
  pub sum : In 4194304 4194304 neighbours

module _ {centre : Centre} {sample : ℤ} (i : SampleIn centre sample) where
  abbrev base : ℤ
  base = pos 8 *ℤ (sample -ℤ pos centre.offset)

  offset_most : centre.offset ≤ 8388608
  offset_most = let a = mul-le-mul_right centre.offset i.weights.least in let b = i.weights.product in omega arith

  -- what is computed from the sample alone
  pub record BaseFits : Type 0 where
    pub own : SFits w32 sample
    pub offset : SFits w32 (pos centre.offset)
    pub difference : SFits w32 (sample -ℤ pos centre.offset)
    pub product : SFits w32 base

  pub base_fits : BaseFits
  base_fits =
      let o = offset_most in
      record {
        own = fits_lin (simp flat (simp count (omega arith)));
        offset = fits_lin (simp flat (simp count (omega arith)));
        difference = fits_lin (simp flat (simp count (omega arith)));
        product = fits_lin (simp flat (simp count (omega arith)));
      }

-- and from the sum of the neighbours
module _ {centre : Centre} {neighbours sample : ℤ} (i : InteriorIn centre neighbours sample) where
  abbrev d : ℕ
  d = 8 + centre.weight

  abbrev rest : ℤ
  rest = neighbours -ℤ base i.own +ℤ pos (8388608 + d / 2)

  pub record RestFits : Type 0 where
    pub sum : SFits w32 neighbours
    pub difference : SFits w32 (neighbours -ℤ base i.own)
    pub half : SFits w32 (pos (8388608 + d / 2))
    pub total : SFits w32 rest
    pub sign : T (non_neg rest)
    pub size : Fits w32 (nat_abs rest)
    pub below : nat_abs rest * d < 2 ^ 35

  rest_in : In 0 (16777732 + 8 * centre.offset) rest
  rest_in = let o = offset_most i.own in in_lin (simp flat (simp count (omega arith)))

  rest_sign : neg_part rest ≡ 0
  rest_sign = let r = rest_in in omega arith

  rest_size : nat_abs rest ≤ 16777732 + 8 * centre.offset
  rest_size = let r = rest_in in let n = nat_abs_parts rest in omega arith

  rest_below : nat_abs rest * d < 2 ^ 35
  rest_below =
      let a = mul-le-mul_right d rest_size in
      let b = i.own.weights.product in
      let o = offset_most i.own in
      omega arith

  pub rest_fits : RestFits
  rest_fits =
      let o = offset_most i.own in
      let s = rest_size in
      record {
        sum = fits_lin (simp flat (simp count (omega arith)));
        difference = fits_lin (simp flat (simp count (omega arith)));
        half = fits_lin (simp flat (simp count (omega arith)));
        total = fits_lin (simp flat (simp count (omega arith)));
        sign = nonneg_holds rest rest_sign;
        size = record { fits = omega arith };
        below = rest_below;
      }

  sum_is : pos (nat_abs rest) +ℤ pos d *ℤ (sample -ℤ pos centre.offset) ≡ (neighbours +ℤ pos centre.weight *ℤ sample) +ℤ pos (d / 2)
  sum_is =
      let n : nat_abs rest ≡ pos_part rest = omega (arith, nat_abs_parts rest, rest_sign) in
      let e = ap pos n ∙ nonneg_is rest rest_sign in
      ap (λ (x : ℤ). x +ℤ pos d *ℤ (sample -ℤ pos centre.offset)) e ∙ eq_lin (simp flat (simp count (omega (arith, i.own.weights.product))))

  in_window : In (d * 524288) (d * 524288) (neighbours +ℤ pos centre.weight *ℤ sample)
  in_window =
      let a = mul-le-mul_left centre.weight i.own.range.low in
      let b = mul-le-mul_left centre.weight i.own.range.high in
      in_lin (simp flat (simp count (omega arith)))

  pub record InteriorResult (e : ℕ) : Type 0 where
    pub own : SFits w32 (pos e)
    pub sum : SFits w32 (base i.own +ℤ pos e)
    pub value : ValueIn 524288 (rounded_mean (neighbours +ℤ pos centre.weight *ℤ sample) d) (floor_div (base i.own +ℤ pos e) 8)

  pub interior_result : (e : ℕ) → e / 8 ≡ nat_abs rest / d → InteriorResult e
  interior_result e h =
      let o = offset_most i.own in
      let s = rest_size in
      let q = div-le_self (nat_abs rest) d in
      let z = neighbours +ℤ pos centre.weight *ℤ sample in
      let v = sample -ℤ pos centre.offset in
      let m = mean_beside (nat_abs rest) z v (omega arith) sum_is in
      let f : floor_div (base i.own +ℤ pos e) 8 ≡ v +ℤ pos (e / 8) = floor_div_out v (pos e) 8 (omega arith) in
      let is = f ∙ ap (λ (n : ℕ). v +ℤ pos n) h ∙ m in
      record {
        own = fits_lin (simp flat (simp count (omega arith)));
        sum = fits_lin (simp flat (simp count (omega arith)));
        value = record { is = is; range = rw is (rounded_mean_in 524288 524288 z d in_window) };
      }
