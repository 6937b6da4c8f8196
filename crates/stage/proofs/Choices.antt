-- Laws of choices that fit a transform: one filter for each place, in each band.
use mathlib.Core.Path.{◌≡◌}
use mathlib.Core.List.{List, [], ◌∷◌}
use Prim.Native.Nat.{ℕ, zero, suc, ◌+◌, ◌*◌, ◌-◌, ◌/◌, ◌≤◌, ◌<◌}
use native.Mathlib.Nat.{mul_comm, mul-le-mul_left, div-mul-le_self, div-lt_iff_lt-mul, le-div_iff_mul-le}
use native.Mathlib.Omega.{arith}
use lib.Dec.{T, leb, leb→le, le→leb, eqb→eq, eqb_refl, lit≤}
use lib.ListN.{length, get_or, set, replicate, length-set, length-replicate}
use Rattle.integers.proofs.Booleans.{and_iff}
use Rattle.stage.specs.Settings.{Settings, Bands, One, Of, band_count, bands_suit, pixels}
use Rattle.stage.specs.Steps.{steps, places}
use Rattle.stage.specs.Transform.{all_filters, choice_count, count_fits, choices_fit, choice_at}
use Rattle.stage.proofs.Answers.{between_iff}

filter_most : (φ : List ℕ) (k : ℕ) → T (all_filters φ) → get_or φ k 0 ≤ 12
filter_most [] k f = lit≤ tt
filter_most (x ∷ φ) zero f = leb→le x 12 ((and_iff (leb x 12) (all_filters φ)).0 f).0
filter_most (x ∷ φ) (suc k) f = filter_most φ k ((and_iff (leb x 12) (all_filters φ)).0 f).1

filters_set : (φ : List ℕ) (k f : ℕ) → f ≤ 12 → T (all_filters φ) → T (all_filters (set φ k f))
filters_set [] k f g h = tt
filters_set (x ∷ φ) zero f g h = (and_iff (leb f 12) (all_filters φ)).1 (le→leb f 12 g, ((and_iff (leb x 12) (all_filters φ)).0 h).1)
filters_set (x ∷ φ) (suc k) f g h =
    let b = (and_iff (leb x 12) (all_filters φ)).0 h in
    (and_iff (leb x 12) (all_filters (set φ k f))).1 (b.0, filters_set φ k f g b.1)

equal_filters : (n f : ℕ) → T (leb f 12) → T (all_filters (replicate n f))
equal_filters zero f h = tt
equal_filters (suc n) f h = (and_iff (leb f 12) (all_filters (replicate n f))).1 (h, equal_filters n f h)

pub record Choices (β : Bands) (s : Settings) (φ : List ℕ) : Type 0 where
  pub count : length φ ≡ choice_count β s
  pub filters : (k : ℕ) → get_or φ k 0 ≤ 12

module _ (β : Bands) (s : Settings) (φ : List ℕ) where
  pub choices : T (choices_fit β s φ) → Choices β s φ
  choices f =
      let h = (and_iff (count_fits β s (length φ)) (all_filters φ)).0 f in
      record { count = eqb→eq _ _ h.0; filters = λ k. filter_most φ k h.1 }

  -- another filter at a place
  pub choices_set : T (choices_fit β s φ) → (k f : ℕ) → f ≤ 12 → T (choices_fit β s (set φ k f))
  choices_set h k f g =
      let both = (and_iff (count_fits β s (length φ)) (all_filters φ)).0 h in
      (and_iff (count_fits β s (length (set φ k f))) (all_filters (set φ k f))).1 (rw (length-set φ k f) both.0, filters_set φ k f g both.1)

-- one filter at every place
pub choices_equal : (β : Bands) (s : Settings) (n f : ℕ) → T (leb f 12) → n ≡ choice_count β s → T (choices_fit β s (replicate n f))
choices_equal β s n f h e =
    (and_iff (count_fits β s (length (replicate {A = ℕ} n f))) (all_filters (replicate n f))).1
    (rw (length-replicate {A = ℕ} n f, e) (eqb_refl (choice_count β s)), equal_filters n f h)

-- the set of a band that begins within the picture, and the choice at an index of the picture
pub set_within : (n : ℕ) (s : Settings) (b k : ℕ) → 1 ≤ n → b * n < s.height → k < places (steps s.transform)
    → places (steps s.transform) * b + k < choice_count (Of n) s
set_within n s b k some begins h =
    let band : suc b ≤ band_count n s.height = (le-div_iff_mul-le {k = n} {x = suc b} {y = s.height + (n - 1)} some).1 (omega arith) in
    omega (arith, mul-le-mul_left {m = suc b} {n = band_count n s.height} (places (steps s.transform)) band)

pub choice_within : (β : Bands) (s : Settings) → 1 ≤ s.width → T (bands_suit β s.height) → (k i : ℕ) → k < places (steps s.transform) → i < pixels s
    → choice_at β s k i < choice_count β s
choice_within One s w f k i h l = h
choice_within (Of n) s w f k i h l =
    let row : i / s.width < s.height = (div-lt_iff_lt-mul {k = s.width} {x = i} {y = s.height} w).1 (omega (arith, mul_comm s.width s.height)) in
    set_within n s (i / s.width / n) k ((between_iff 1 s.height n).0 f).0 (omega (arith, div-mul-le_self (i / s.width) n)) h
