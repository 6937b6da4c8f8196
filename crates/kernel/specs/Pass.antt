-- What one pass over a plane makes of a sample c with the filtered value f of another plane. Every step of 01's transforms and of their
-- inverses is one pass, but for RCT's third, whose two filtered values take two: a fourfold and then a quarter. And how the result is kept.
use Rattle.std.specs.Prelude.{ℕ, ◌≤◌, ℤ, pos, ◌+ℤ◌, ◌-ℤ◌, ◌*ℤ◌, neg_ℤ}
use Rattle.integers.specs.Parts.{In, floor_div}
use Rattle.stage.specs.declared.Form.{Form}
use Rattle.stage.specs.Transform.{kept}
pub use Rattle.kernel.specs.declared.pass.KeptPass.{KeptPass}
pub use Rattle.kernel.specs.declared.pass.Lift.{Lift}
pub use Rattle.kernel.specs.declared.pass.Lift.TheVariants.{Add, Subtract, Negate, AddHalf, SubtractHalf, FourfoldAdd, FourfoldSubtract, QuarterAdd, QuarterSubtract}

unfoldable pub made : Lift → ℤ → ℤ → ℤ
made Add c f = c +ℤ f
made Subtract c f = c -ℤ f
made Negate c f = neg_ℤ c +ℤ f
made AddHalf c f = c +ℤ floor_div f 2
made SubtractHalf c f = c -ℤ floor_div f 2
made FourfoldAdd c f = pos 4 *ℤ c +ℤ f
made FourfoldSubtract c f = pos 4 *ℤ c -ℤ f
made QuarterAdd c f = floor_div (c +ℤ f) 4
made QuarterSubtract c f = floor_div (c -ℤ f +ℤ pos 3) 4

abbrev pub kept_pass : Lift → Form → ℕ → KeptPass
kept_pass lift form depth = record { lift = lift; form = form; depth = depth }

-- the result as the pass's form keeps it
unfoldable pub applied : KeptPass → ℤ → ℤ → ℤ
applied p c f = kept p.form p.depth (made p.lift c f)

-- a sample and a filtered value whose sums fit 32 bits
pub record Operands (c f : ℤ) : Type 0 where
  pub sample : In 4194304 4194304 c
  pub value : In 524288 524288 f

-- a pass kept to at most 16 bits
pub record PassAllowed (p : KeptPass) : Type 0 where
  pub depth : p.depth ≤ 16

pub record Applicable (p : KeptPass) (c f : ℤ) : Type 0 where
  pub pass : PassAllowed p
  pub operands : Operands c f
