-- The settings' tests in their order.
use mathlib.Core.Path.{◌≡◌, refl, sym, ap, ◌∙◌}
use mathlib.Core.Bool.{Bool, ◌&&◌}
use Rattle.std.specs.List.{list_all}
use mathlib.Core.List.{List, [], ◌∷◌}
use Prim.Native.Nat.{ℕ, zero, suc, ◌+◌, ◌-◌, ◌*◌, ◌/◌, ◌≤◌, ◌<◌}
use native.Mathlib.Nat.{div-zero, div-le_self, div-lt_iff_lt-mul, le-div_iff_mul-le, add-mul}
use native.Mathlib.Omega.{arith}
use Rattle.std.specs.Int.{div_ceil}
use Rattle.std.proofs.lemmas.Grind.{div_ceil_times}
use lib.Dec.{leb, lit≤}
use Rattle.stage.specs.Settings.{band_count}
use Rattle.stage.specs.Steps.{steps, places}
use Rattle.stage.specs.Transform.{all_filters}

-- whether all are filters, as the library's test of a list
pub filters_all : (l : List ℕ) → list_all (λ (f : ℕ). leb f 12) l ≡ all_filters l
filters_all [] = refl
filters_all (f ∷ l) = ap (λ (b : Bool). leb f 12 && b) (filters_all l)

-- no transform has more than four places
pub places_few : (t : ℕ) → places (steps t) ≤ 4
places_few zero = lit≤ tt
places_few (suc zero) = lit≤ tt
places_few (suc (suc zero)) = lit≤ tt
places_few (suc (suc (suc zero))) = lit≤ tt
places_few (suc (suc (suc (suc t)))) = lit≤ tt

-- bands of no row are none
pub no_bands : (n h : ℕ) → n ≡ 0 → 0 ≡ band_count n h
no_bands n h e = sym (ap (λ (m : ℕ). band_count m h) e ∙ div-zero (h + (0 - 1)))

-- as the library rounds a quotient up
pub bands_rounded_up : (n h : ℕ) → 0 < n → div_ceil h n ≡ band_count n h
bands_rounded_up n h k =
    let q = div_ceil h n in
    let t = div_ceil_times h n k in
    let low : q ≤ (h + (n - 1)) / n = (le-div_iff_mul-le {k = n} {x = q} {y = h + (n - 1)} k).1 (omega (arith, t.1)) in
    let more : (q + 1) * n ≡ q * n + 1 * n = add-mul q 1 n in
    let high : (h + (n - 1)) / n < q + 1 = (div-lt_iff_lt-mul {k = n} {x = h + (n - 1)} {y = q + 1} k).1 (omega (arith, t.0, more)) in
    omega (arith, low, high)

pub bands_few : (n h : ℕ) → n < 4294967296 → h < 4294967296 → band_count n h < 8589934592
bands_few n h j k = omega (arith, div-le_self (h + (n - 1)) n)
