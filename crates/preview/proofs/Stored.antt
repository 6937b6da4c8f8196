-- 16-bit samples, as the machine has them and as floats.
use mathlib.Core.Path.{◌≡◌, refl, sym, ap, ◌∙◌}
use Prim.Native.Nat.{◌*◌, ◌%◌, ◌<◌}
use native.Mathlib.Omega.{arith}
use lib.Dec.{lit<, lit≤}
use lib.IntN.{ℤ, pos, negsuc, ◌*ℤ◌}
use lib.Ieee.{Float, binary64, add, of_int, to_bits}
use mir.Syntax.{w32}
use mir.Val.{to_z, of_z}
use mir.Facts.{to_z-of_z, to_z_pos}
use Rattle.integers.specs.Parts.{In, pos_part}
use Rattle.integers.proofs.Ranges.{in_fits}
use Rattle.preview.specs.Quarters.{just, four_times}
use Rattle.preview.proofs.Exact.{Four, four}
use Rattle.preview.proofs.Fractions.{int_is}
use Rattle.preview.proofs.Cuts.{high, low_bits}
use Rattle.preview.proofs.Rows.{sized}

pub stored : {z : ℤ} → In 0 65535 z → to_z w32 (of_z w32 z) ≡ z
stored h = to_z-of_z {w = w32} (in_fits h (lit≤ tt) (lit< tt))

pub sample_is : {z : ℤ} → In 0 65535 z → Four (4 * 65535) (of_int binary64 z) (pos 4 *ℤ z)
sample_is {z} h = int_is z (lit< tt) (sized {z = z} (record { low = omega (arith, h.low); high = h.high }))

natural : (z : ℤ) → In 0 65535 z → z ≡ pos (pos_part z)
natural (pos n) h = refl
natural (negsuc n) h = absurd (omega (arith, h.low))

-- a sample from its float
pub sample_bits : (x : Float) (z : ℤ) → In 0 65535 z → four_times x ≡ just (pos 4 *ℤ z) → to_z w32 (to_bits binary64 (add binary64 x high) % 65536) ≡ z
sample_bits x z u h =
    let below : pos_part z < 65536 = omega (arith, u.high) in
    let f : Four 262140 x (pos 4 *ℤ pos (pos_part z)) = four (omega (arith, u.high)) (h ∙ ap (λ (y : ℤ). just (pos 4 *ℤ y)) (natural z u)) in
    rw (low_bits below f) (to_z_pos w32 (omega arith) ∙ sym (natural z u))
