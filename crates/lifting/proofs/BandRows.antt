-- The rows of a band, and the choices that are its set.
use mathlib.Core.Path.{◌≡◌, refl}
use mathlib.Core.List.{List}
use Prim.Native.Nat.{ℕ, zero, suc, ◌+◌, ◌*◌, ◌/◌, ◌≤◌, ◌<◌}
use native.Mathlib.Nat.{mul-le-mul_left, mul-le-mul_right, div-eq_of_lt-le, div-lt_iff_lt-mul, le-div_iff_mul-le}
use native.Mathlib.Omega.{arith}
use lib.Dec.{T}
use Rattle.stage.specs.declared.Settings.{Settings}
use Rattle.stage.specs.declared.Bands.{Bands}
use Rattle.stage.specs.declared.Bands.TheVariants.{One, Of}
use Rattle.stage.specs.Settings.{bands_suit}
use Rattle.stage.specs.Planes.{Planes}
use Rattle.stage.specs.Steps.{steps, places}
use Rattle.stage.specs.Transform.{choice_count, choice_at}
use Rattle.stage.proofs.Answers.{between_iff}
use Rattle.stage.proofs.Choices.{set_within}
use Rattle.lifting.specs.BandRows.{band_rows, rows_before, BandReady}

-- band b begins within the picture
abbrev Begins : Bands → Settings → ℕ → Type 0
Begins β s b = b * band_rows β s.height < s.height

-- without bands it is the first
only : (b h : ℕ) → b * h < h → b ≡ 0
only zero h l = refl
only (suc b) h l = absurd (omega arith)

rows_some : (β : Bands) (s : Settings) (b : ℕ) → T (bands_suit β s.height) → Begins β s b → 1 ≤ band_rows β s.height
rows_some One s b f l = omega arith
rows_some (Of n) s b f l = ((between_iff 1 s.height n).0 f).0

pub band_set : (β : Bands) (s : Settings) (b k : ℕ) → T (bands_suit β s.height) → Begins β s b → k < places (steps s.transform)
    → places (steps s.transform) * b + k < choice_count β s
band_set One s b k f l h = rw (only b s.height l) (omega (arith, h))
band_set (Of n) s b k f l h = set_within n s b k ((between_iff 1 s.height n).0 f).0 l h

-- at each index of its rows the choice of place k is one of its set
pub band_choice : (β : Bands) (s : Settings) (b k i : ℕ) → T (bands_suit β s.height) → Begins β s b
    → rows_before β s.height b * s.width ≤ i → i < rows_before β s.height (b + 1) * s.width → choice_at β s k i ≡ places (steps s.transform) * b + k
band_choice One s b k i f l low high = rw (only b s.height l) (omega arith)
band_choice (Of n) s b k i f l low high =
    let w = s.width in
    let wide = some w high in
    let from : b * n * w ≤ i = omega (arith, mul-le-mul_right {m = b * n} {n = rows_before (Of n) s.height b} w (omega arith)) in
    let to : i < (b + 1) * n * w = omega (arith, mul-le-mul_right {m = rows_before (Of n) s.height (b + 1)} {n = (b + 1) * n} w (omega arith)) in
    let above : b * n ≤ i / w = (le-div_iff_mul-le {k = w} {x = b * n} {y = i} wide).1 from in
    let below : i / w < (b + 1) * n = (div-lt_iff_lt-mul {k = w} {x = i} {y = (b + 1) * n} wide).1 to in
    rw (div-eq_of_lt-le n above below)
  where
    some : (w : ℕ) → i < rows_before (Of n) s.height (b + 1) * w → 1 ≤ w
    some zero h = absurd (omega arith)
    some (suc w) h = omega arith

module _ {β : Bands} {s : Settings} {φ : List ℕ} {k b : ℕ} {p : Planes} (r : BandReady β s φ k b p) where
  -- there are no more bands than rows
  pub band_most : b < s.height
  band_most = omega (arith, r.begins, mul-le-mul_left {m = 1} {n = band_rows β s.height} b (rows_some β s b r.fit.bands r.begins))

  -- the band's rows, in order and within the picture
  pub rows_order : rows_before β s.height b ≤ rows_before β s.height (b + 1)
  rows_order = omega (arith, r.begins)

  pub rows_most : rows_before β s.height (b + 1) ≤ s.height
  rows_most = omega arith
