-- Sums of offset samples, and the mean that they give once the offset is taken off again.
use Rattle.std.proofs.Common.{◌≡◌, ℕ, ◌+◌, ◌*◌, ◌/◌, ◌≤◌, T, ℤ, pos, negsuc, ◌+ℤ◌, ◌-ℤ◌, ◌*ℤ◌, nat_abs, ap, ◌∙◌, ap₂, mul-le-mul_left, arith, lit<, lit≤, w32, Fits, SFits}
use lib.IntN.{+ℤ_comm}
use lib.Signed.{non_neg}
use Rattle.integers.specs.Parts.{pos_part, neg_part, In}
use Rattle.integers.proofs.Parts.{add_difference, nat_abs_parts}
use Rattle.integers.proofs.Ranges.{nonneg_holds, nonneg_is, in_fits}
use Rattle.integers.proofs.Linear.{flat, count, eq_lin, in_lin, fits_lin, lin_in}
use Rattle.stage.specs.Filter.{rounded_mean}
use Rattle.stage.proofs.Means.{rounded_mean_in}
use Rattle.kernel.specs.Window.{ValueIn, Offset}
use Rattle.kernel.proofs.Means.{mean_beside}

-- one sample
pub record OffsetSample (z : ℤ) : Type 0 where
  pub own : SFits w32 z
  pub sum : SFits w32 (z +ℤ pos 524288)
  pub sign : T (non_neg (z +ℤ pos 524288))
  pub size : Fits w32 (nat_abs (z +ℤ pos 524288))
  pub offset : Offset 1 z (nat_abs (z +ℤ pos 524288))

pub offset_sample : (z : ℤ) → In 524288 524288 z → OffsetSample z
offset_sample z h =
    let r = z +ℤ pos 524288 in
    let i : In 0 1048576 r = in_lin (simp flat (simp count (omega arith))) in
    let e : neg_part r ≡ 0 = omega (arith, i.low) in
    let n : nat_abs r ≡ pos_part r = omega (arith, nat_abs_parts r) in
    record {
      own = fits_lin (simp flat (simp count (omega arith)));
      sum = fits_lin (simp flat (simp count (omega arith)));
      sign = nonneg_holds r e;
      size = record { fits = omega (arith, i.high) };
      offset = record { is = ap pos n ∙ nonneg_is r e; most = omega (arith, i.high) };
    }

-- sums and multiples
pub offset_add : {t u m n : ℕ} {x y : ℤ} → Offset t x m → Offset u y n → Offset (t + u) (x +ℤ y) (m + n)
offset_add {t} {u} {m} {n} {x} {y} p q =
    record { is = ap₂ ◌+ℤ◌ p.is q.is ∙ eq_lin (simp flat (simp count (omega arith))); most = omega arith }

pub offset_times : {t m : ℕ} {z : ℤ} (k : ℕ) → Offset t z m → Offset (k * t) (pos k *ℤ z) (k * m)
offset_times {t} {m} {z} k p = record {
  is = ap (λ (x : ℤ). pos k *ℤ x) p.is ∙ eq_lin (simp flat (simp count (omega arith)));
  most = let h = mul-le-mul_left k p.most in omega arith;
}

-- what is absent has weight 0, what is present its own
pub offset_absent : {b : ℕ} (t : ℕ) (z : ℤ) → b ≡ 0 → Offset (b * t) (pos b *ℤ z) 0
offset_absent t z e = rw e (record { is = eq_lin (simp flat (simp count (omega arith))); most = omega arith })

pub offset_present : {b t n : ℕ} {z : ℤ} → b ≡ 1 → Offset t z n → Offset (b * t) (pos b *ℤ z) n
offset_present {b} {t} {n} {z} e p = rw e (record { is = p.is ∙ eq_lin (simp flat (simp count (omega arith))); most = omega arith })

-- the same weight otherwise written
pub offset_as : {t u m : ℕ} {z : ℤ} → t ≡ u → Offset t z m → Offset u z m
offset_as e p = rw e at p

-- the mean of samples whose weights add up to t
pub record OffsetMean (t : ℕ) (z : ℤ) (q : ℕ) : Type 0 where
  pub own : SFits w32 (pos q)
  pub difference : SFits w32 (pos q -ℤ pos 524288)
  pub value : ValueIn 524288 (rounded_mean z t) (pos q -ℤ pos 524288)

pub offset_mean : {t n : ℕ} {z : ℤ} → 1 ≤ t → Offset t z n → OffsetMean t z ((n + t / 2) / t)
offset_mean {t} {n} {z} h p =
    let q = (n + t / 2) / t in
    let v = pos q -ℤ pos 524288 in
    let above = ap pos_part p.is in
    let below = ap neg_part p.is in
    let sum = add_difference z (pos (524288 * t)) in
    let m = mean_beside (n + t / 2) z (negsuc 524287) h (eq_lin (simp flat (simp count (omega arith)))) in
    let e : v ≡ rounded_mean z t = +ℤ_comm (pos q) (negsuc 524287) ∙ m in
    let i : In 524288 524288 v = rw e (rounded_mean_in 524288 524288 z t (in_lin (simp flat (simp count (omega arith))))) in
    let r = simp count at (simp flat at (lin_in i)) in
    record {
      own = fits_lin (simp flat (simp count (omega arith)));
      difference = in_fits i (lit≤ tt) (lit< tt);
      value = record { is = e; range = i };
    }
