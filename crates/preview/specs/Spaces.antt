-- "The two lossy spaces of source document 001, HVSCT and YCoCg, from its matrices" (02, request 6), in whole numbers of quarters. σ is a
-- space, s are samples R, G and B, q is four times three values of a preview pixel.
use Rattle.std.specs.Prelude.{ℤ, pos, ◌+ℤ◌, ◌-ℤ◌, ◌*ℤ◌}
use Rattle.integers.specs.Parts.{floor_div}
use Rattle.stage.specs.declared.Triple.{Triple}
use Rattle.stage.specs.Planes.{triple}
use Rattle.preview.specs.declared.Rgb.{Rgb}

pub data Space : Type 0 where
  HVSCT : Space
  YCoCg : Space

-- Four times the matrix values. HVSCT: Y = (R + G)/2, Cd = (R − G)/2, Ce = B/2 − R/4 − G/4.
-- YCoCg: Y = R/4 + G/2 + B/4, Co = (R − B)/2, Cg = G/2 − R/4 − B/4.
abbrev pub quarters : Space → Rgb → Triple ℤ
quarters HVSCT s =
    triple (pos 2 *ℤ s.r +ℤ pos 2 *ℤ s.g) (pos 2 *ℤ s.r -ℤ pos 2 *ℤ s.g) (pos 2 *ℤ s.b -ℤ s.r -ℤ s.g)
quarters YCoCg s = triple (s.r +ℤ pos 2 *ℤ s.g +ℤ s.b) (pos 2 *ℤ s.r -ℤ pos 2 *ℤ s.b) (pos 2 *ℤ s.g -ℤ s.r -ℤ s.b)

abbrev pub rgb_of : (r g b : ℤ) → Rgb
rgb_of r g b = record { r = r; g = g; b = b }

-- The samples that values lead back to. HVSCT: R = Y + Cd, G = Y − Cd, B = Y + 2 Ce. YCoCg: R = Y + Co − Cg, G = Y + Cg,
-- B = Y − Co − Cg. Each sum is four times a sample where some samples have the values, and else is rounded down.
abbrev pub samples : Space → Triple ℤ → Rgb
samples HVSCT q = rgb_of (floor_div (q.c1 +ℤ q.c2) 4) (floor_div (q.c1 -ℤ q.c2) 4) (floor_div (q.c1 +ℤ pos 2 *ℤ q.c3) 4)
samples YCoCg q = rgb_of (floor_div (q.c1 +ℤ q.c2 -ℤ q.c3) 4) (floor_div (q.c1 +ℤ q.c3) 4) (floor_div (q.c1 -ℤ q.c2 -ℤ q.c3) 4)
