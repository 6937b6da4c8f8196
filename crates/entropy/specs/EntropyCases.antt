-- Cases by hand: which numbers are near an entropy. The entropy stands here to two places after the point; the inequalities are exact.
use Rattle.std.specs.Prelude.{◌≡◌, [], ◌∷◌, ℕ, ◌+◌, ◌*◌, ◌-◌, pos}
use Rattle.stage.specs.Estimate.{plane_counts}
use Rattle.entropy.specs.Entropy.{product, NearEntropy}

-- the least and the greatest of the numbers that are near: one less is not, and one more is not
pub record NearFromTo (m n p least greatest : ℕ) : Type 0 where
  pub from : NearEntropy m n p least
  pub to : NearEntropy m n p greatest
  pub not_less : NearEntropy m n p (least - 1) → ⊥
  pub not_more : NearEntropy m n p (greatest + 1) → ⊥

pub record EntropyCases : Type 0 where
  -- one residual: its entropy is 0, and 0 alone is nearer than 1
  pub one : NearEntropy 1 1 1 0
  pub one_only : NearEntropy 1 1 1 1 → ⊥
  -- 2 by 2 samples of one colour have the residuals 10, 0, 0, 0; "Counts 3 and 1 give 209": 64 × 4 × H is 207.69, so 204 to 211 are nearer than 4
  pub counts : plane_counts 2 (pos 10 ∷ pos 10 ∷ pos 10 ∷ pos 10 ∷ []) ≡ 3 ∷ 1 ∷ []
  pub powers : product (3 ∷ 1 ∷ []) ≡ 27
  pub plane : NearFromTo 4 4 27 204 211
  -- counts 2 and 2: 64 × 4 × H is 256; 252 and 260 differ by 4, which is not less
  pub even : NearFromTo 4 4 (product (2 ∷ 2 ∷ [])) 253 259
  -- three planes with counts 3 and 1, 2 and 2, 4: 207.69 + 256 + 0, so 452 to 475 are nearer than 12
  pub planes : NearFromTo 12 4 (27 * 16 * 256) 452 475
