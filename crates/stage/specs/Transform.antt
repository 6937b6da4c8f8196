-- The calls `forward` and `inverse` of both forms, in bands or not: every refusal in its order, else the planes (01, "Planes and steps", "Who
-- can cause which refusal"; 02, requests 9 and 11).
-- s stands for the settings, φ for the choices, p for planes lent to the forward call and q for those lent to the inverse, l for the
-- lengths of three planes, f for a filter's number, n for a number of choices or samples.
use Rattle.std.specs.Prelude.{◌≡◌, Bool, true, ◌&&◌, List, [], ◌∷◌, ◌++◌, ℕ, ◌+◌, ◌*◌, ◌/◌, ◌^◌, T, leb, eqb, ℤ, length, get_or}
use Rattle.integers.specs.Parts.{floor_mod}
use Rattle.stage.specs.Answers.{Test, ◌else◌, Outcome, outcome, sized}
use Rattle.stage.specs.Settings.{Settings, Form, Plain, Wrapped, Bands, One, Of, depths_allowed, depths_suit, band_count, bands_suit, pixels, Allowed}
use Rattle.stage.specs.Planes.{Plane, Triple, Planes, get, map_triple}
use Rattle.stage.specs.Steps.{Setup, steps, places, run, undo}
use Rattle.stage.specs.Ranges.{sample_ranges, InRanges, within_ranges}

-- 7: as many choices as the transform has places, "set after set from the top band .. exactly places × bands in number"; none above 12
abbrev pub all_filters : List ℕ → Bool
all_filters [] = true
all_filters (f ∷ l) = leb f 12 && all_filters l

abbrev pub choice_count : Bands → Settings → ℕ
choice_count One s = places (steps s.transform)
choice_count (Of n) s = places (steps s.transform) * band_count n s.height

abbrev pub count_fits : Bands → Settings → ℕ → Bool
count_fits β s n = eqb n (choice_count β s)

abbrev pub choices_fit : Bands → Settings → List ℕ → Bool
choices_fit β s φ = count_fits β s (length φ) && all_filters φ

-- 8: each plane has as many numbers as the picture has pixels
abbrev pub lengths : Planes → Triple ℕ
lengths p = map_triple length p

abbrev pub all_equal : ℕ → Triple ℕ → Bool
all_equal n l = eqb l.c1 n && (eqb l.c2 n && eqb l.c3 n)

-- What the calling program can cause, in order. The calls differ in what they ask of the choices; l has the planes' lengths.
abbrev pub settings_tests : (κ : Form) (β : Bands) (s : Settings) (choices : Bool) (l : Triple ℕ) → List Test
settings_tests κ β s choices l =
    (sized s.width s.height else 2)
    ∷ (depths_allowed s.depths else 5)
    ∷ (depths_suit κ s.depths else 16)
    ∷ (leb s.transform 3 else 6)
    ∷ (bands_suit β s.height else 17)
    ∷ (choices else 7)
    ∷ (all_equal (pixels s) l else 8)
    ∷ []

-- Settings, bands and choices that pass these tests.
pub record Fit (κ : Form) (β : Bands) (s : Settings) (φ : List ℕ) : Type 0 where
  pub allowed : Allowed s
  pub depths : T (depths_suit κ s.depths)
  pub bands : T (bands_suit β s.height)
  pub choices : T (choices_fit β s φ)

-- A step's result as a form keeps it at depth b: as it is; "modulo 2^b, as 0 to M" (02, request 9).
abbrev pub kept : Form → (b : ℕ) → ℤ → ℤ
kept Plain b z = z
kept Wrapped b z = floor_mod z (2 ^ b)

-- Which choice is place k's at index i, in row i / width: "A row uses its band's filters" (02, request 11). And the filter there.
abbrev pub choice_at : Bands → Settings → (k i : ℕ) → ℕ
choice_at One s k i = k
choice_at (Of n) s k i = places (steps s.transform) * (i / s.width / n) + k

abbrev pub filter_at : Bands → Settings → List ℕ → (k i : ℕ) → ℕ
filter_at β s φ k i = get_or φ (choice_at β s k i) 0

-- What a transform's steps run with: results are kept as the form keeps them, at the depth that all planes have where it wraps; "a step whose
-- places are all null leaves its plane unchanged, both ways" (02, request 1), and in bands "a step is skipped row by row".
abbrev pub setup : Form → Bands → Settings → List ℕ → Setup
setup κ β s φ = record { width = s.width; height = s.height; filter = filter_at β s φ; skips = true; keep = kept κ s.depths.c1 }

-- the planes that a picture goes to, and the planes with all steps undone
unfoldable pub transformed : Form → Bands → Settings → List ℕ → Planes → Planes
transformed κ β s φ p = run (setup κ β s φ) (steps s.transform) p

unfoldable pub untransformed : Form → Bands → Settings → List ℕ → Planes → Planes
untransformed κ β s φ q = undo (setup κ β s φ) (steps s.transform) q

-- three planes of the picture's size
abbrev pub HasSize : Settings → Planes → Type 0
HasSize s p = (c : Plane) → length (get p c) ≡ pixels s

-- A picture of these settings has this size, and every sample of a plane is in 0 to M at the plane's depth; the second as a test.
pub record Picture (s : Settings) (p : Planes) : Type 0 where
  pub size : HasSize s p
  pub samples : InRanges (sample_ranges s) p

abbrev pub is_picture : Settings → Planes → Bool
is_picture s p = within_ranges (sample_ranges s) p

unfoldable pub forward : Form → Bands → Settings → List ℕ → Planes → Outcome (Unit {0}) Planes
forward κ β s φ p = outcome (settings_tests κ β s (choices_fit β s φ) (lengths p) ++ (is_picture s p else 11) ∷ []) tt (transformed κ β s φ p) p

-- The inverse accepts planes whose steps, undone, leave a picture; 12 for all others. In the wrapped forms it accepts every three planes of
-- 0 to M (02, request 9: "11 for a sample outside 0 to M, either way").
abbrev pub reachable : Form → Bands → Settings → List ℕ → Planes → Bool
reachable Plain β s φ q = is_picture s (untransformed Plain β s φ q)
reachable Wrapped β s φ q = is_picture s q

abbrev pub unreachable : Form → ℕ
unreachable Plain = 12
unreachable Wrapped = 11

unfoldable pub inverse : Form → Bands → Settings → List ℕ → Planes → Outcome (Unit {0}) Planes
inverse κ β s φ q =
    outcome (settings_tests κ β s (choices_fit β s φ) (lengths q) ++ (reachable κ β s φ q else unreachable κ) ∷ []) tt (untransformed κ β s φ q) q
