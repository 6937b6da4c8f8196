-- How near an estimate is to the exact entropy (02, request 8): "a plane's estimate differs by less than N from 64 times N times the exact
-- memoryless entropy of its counted residuals."
-- w stands for a picture's width, a for a plane's samples and t for how many they are, l for counts, s for the settings, φ for the choices.
use Rattle.std.specs.Prelude.{◌≡◌, List, [], ◌∷◌, ℕ, ◌+◌, ◌*◌, ◌^◌, ◌≤◌, ◌<◌, ℤ, length}
use Rattle.stage.specs.declared.Plane.{Plane}
use Rattle.stage.specs.declared.Settings.{Settings}
use Rattle.stage.specs.declared.Form.TheVariants.{Plain}
use Rattle.stage.specs.declared.Bands.TheVariants.{One}
use Rattle.stage.specs.Answers.{done}
use Rattle.stage.specs.Planes.{Planes, get}
use Rattle.stage.specs.Transform.{transformed}
use Rattle.stage.specs.Estimate.{counted, total, estimate_of_counts, plane_counts, plane_estimate, picture_estimate}
use Rattle.stage.specs.declared.Estimated.{Estimated}
use Rattle.stage.specs.Search.{Scratch, Lent, estimate_call, search_call, estimate_in_place, search_in_place}

-- P of counts c1, c2, ..: "the product of c^c"
unfoldable pub product : List ℕ → ℕ
product [] = 1
product (c ∷ l) = c ^ c * product l

-- "In whole numbers, with E the estimate and P the product of c^c over residuals that occur: 2^E × P^64 is below 2^N × N^(64 × N), and
-- N^(64 × N) is below 2^(E + N) × P^64." This says the same. Residuals of which N are counted and which occur c1, c2, .. times have the
-- entropy H, the sum of c / N × log(N / c) to the base 2; so N × H is log(N^N / P), and the logarithms of the inequalities are
-- E < 64 × N × H + N and 64 × N × H < E + N.
-- Here of m residuals from planes with N counted samples each: m is N for one plane, and 3 × N for a picture's three, where P is the product
-- over all planes and E the sum of their estimates.
pub record NearEntropy (m n p e : ℕ) : Type 0 where
  pub high : 2 ^ e * p ^ 64 < 2 ^ m * n ^ (64 * m)
  pub low : n ^ (64 * m) < 2 ^ (e + m) * p ^ 64

-- ---- Counts that are not all 0
abbrev pub CountsNear : Type 0
CountsNear = (l : List ℕ) → 1 ≤ total l → NearEntropy (total l) (total l) (product l) (estimate_of_counts l)

-- ---- A plane of any picture
abbrev pub PlaneNear : Type 0
PlaneNear =
    (w : ℕ) (a : List ℤ) → 1 ≤ length a
    → NearEntropy (counted (length a)) (counted (length a)) (product (plane_counts w a)) (plane_estimate w a)

-- ---- A picture's three planes: the estimate differs by less than 3 × N from 64 times N times the sum of their entropies
abbrev pub planes_product : (w : ℕ) → Planes → ℕ
planes_product w p = product (plane_counts w p.c1) * product (plane_counts w p.c2) * product (plane_counts w p.c3)

abbrev pub PictureNear : Type 0
PictureNear =
    (w t : ℕ) (p : Planes) → 1 ≤ t → ((c : Plane) → length (get p c) ≡ t)
    → NearEntropy (3 * counted t) (counted t) (planes_product w p) (picture_estimate w p)

-- ---- What the calls answer for picture p, with trial planes and in place: N is not 0, and the estimate is that near to the entropy of the
-- planes that p goes to under the choices, given or found
pub record AnswerNear (s : Settings) (p : Planes) (φ : List ℕ) (e : Estimated) : Type 0 where
  pub some : 1 ≤ e.samples
  pub near : NearEntropy (3 * e.samples) e.samples (planes_product s.width (transformed Plain One s φ p)) e.estimate

pub record AnswersNear (s : Settings) (e : Estimated) : Type 0 where
  pub estimate : (p : Planes) (φ : List ℕ) (scratch : Scratch) → (estimate_call s p φ scratch).reply ≡ done e → AnswerNear s p φ e
  pub search : (p : Planes) (rounds : ℕ) (lent : Lent) → (search_call s p rounds lent).reply ≡ done e
      → AnswerNear s p (search_call s p rounds lent).memory.choices e
  pub estimate_in_place : (φ : List ℕ) (scratch : Scratch) → (estimate_in_place s φ scratch).reply ≡ done e → AnswerNear s scratch.trials φ e
  pub search_in_place : (rounds : ℕ) (lent : Lent) → (search_in_place s rounds lent).reply ≡ done e
      → AnswerNear s lent.scratch.trials (search_in_place s rounds lent).memory.choices e

abbrev pub CallsNear : Type 0
CallsNear = (s : Settings) (e : Estimated) → AnswersNear s e
