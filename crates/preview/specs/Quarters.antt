-- Four times a float (02, request 6: "four times each float is exactly four times the matrix value, with no rounding"). A finite float is
-- m × 2^e with a sign s, which is negative where s is true; 2^e is the fraction up e / down e.
use Rattle.std.specs.Prelude.{Bool, true, false, cond, ℕ, ◌*◌, ◌/◌, ◌%◌, eqb, ℤ, pos, neg_ℤ, Float}
use Rattle.std.specs.Float.{nan, inf, fin}
use Rattle.std.specs.Float.Ieee.{up, down}
use Rattle.stage.specs.declared.Triple.{Triple}
use Rattle.stage.specs.Planes.{triple}
use Rattle.preview.specs.declared.Pixel.{Pixel}

-- a value, or none
pub data Maybe (A : Type 0) : Type 0 where
  just : A → Maybe A
  nothing : Maybe A

abbrev pub signed : Bool → ℕ → ℤ
signed false n = pos n
signed true n = neg_ℤ (pos n)

-- Four times a float as a whole number, where it is one. "Floats are compared as numbers, so both zeros match": both give 0. There is none
-- for an infinity, nor for what is not a number.
unfoldable pub four_times : Float → Maybe ℤ
four_times nan = nothing
four_times (inf s) = nothing
four_times (fin s m e) = cond (eqb (4 * (m * up e) % down e) 0) (just (signed s (4 * (m * up e) / down e))) nothing

-- three numbers, where each is there
abbrev pub all_three : {A : Type 0} → Maybe A → Maybe A → Maybe A → Maybe (Triple A)
all_three (just a) (just b) (just c) = just (triple a b c)
all_three (just a) (just b) nothing = nothing
all_three (just a) nothing z = nothing
all_three nothing y z = nothing

-- "A preview pixel holds three 64-bit floats."
abbrev pub pixel_quarters : Pixel → Maybe (Triple ℤ)
pixel_quarters x = all_three (four_times x.v1) (four_times x.v2) (four_times x.v3)
