-- A filter's centre weight, and the division by the full window's weight, 8 more.
use Rattle.std.specs.Prelude.{◌≡◌, ℕ, ◌+◌, ◌*◌, ◌^◌, ◌<◌, ◌≤◌, slice_index}
use Rattle.stage.specs.Filter.{centre_weights}
use Rattle.kernel.specs.declared.centre.Centre.{Centre}

-- 2^35 / d rounded up, or one more where d divides it: n times it, divided by 2^35, is n / d for all n below 2^35 / d
pub record Reciprocal (d reciprocal : ℕ) : Type 0 where
  pub positive : 1 ≤ d
  pub least : 2 ^ 35 ≤ reciprocal * d
  pub most : reciprocal * d ≤ 2 ^ 35 + d

-- a centre weight, what it has to be multiplied with for 2^23, and the reciprocal of the full window's weight
pub record CentreWeight (centre : Centre) : Type 0 where
  pub least : 1 ≤ centre.weight
  pub most : centre.weight ≤ 1024
  pub product : centre.weight * centre.offset ≡ 8388608
  pub divides : Reciprocal (8 + centre.weight) centre.reciprocal

-- the same of an entry of the table
pub record CentreEntry (entry : ℕ) (centre : Centre) : Type 0 where
  pub is : centre.weight ≡ slice_index centre_weights entry
  pub sound : CentreWeight centre

-- a dividend small enough for the product with the reciprocal to give the quotient
pub record ReciprocalDivision (n d reciprocal : ℕ) : Type 0 where
  pub divisor : Reciprocal d reciprocal
  pub dividend : n * d < 2 ^ 35
