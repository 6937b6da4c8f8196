-- What holds once the tests of a call's settings and scratch are past.
use mathlib.Core.Path.{◌≡◌, sym, ap, ◌∙◌, subst}
use mathlib.Core.Bool.{Bool, cond, ◌&&◌}
use mathlib.Core.Logic.{◌↔◌}
use mathlib.Core.List.{List}
use Prim.Native.Nat.{ℕ, ◌*◌, ◌≤◌, ◌<◌}
use native.Mathlib.Nat.{mul-le-mul}
use native.Mathlib.Omega.{arith}
use lib.Dec.{T, leb, eqb, leb→le, le→leb, eqb→eq, eqb_refl}
use lib.ListN.{length}
use Rattle.integers.proofs.Booleans.{holds_true, and_iff}
use Rattle.stage.specs.Answers.{between}
use Rattle.stage.specs.Settings.{Settings, Form, Bands, depth_at, depths_allowed, depths_suit, bands_suit, pixels, Allowed}
use Rattle.stage.specs.Planes.{Plane, Triple, Planes, get}
use Rattle.stage.specs.Ranges.{widest}
use Rattle.stage.specs.Transform.{lengths, all_equal, choices_fit, settings_tests, Fit, HasSize}
use Rattle.stage.specs.Search.{counters_needed, counters_fit, all_at_least, scratch_fits}
use Rattle.stage.specs.Theorems.{CountersTold}
use Rattle.stage.proofs.Answers.{Holds, between_iff, sized_iff}
use Rattle.stage.proofs.Triples.{each_test, get-map}

eq_test : {m n : ℕ} → m ≡ n → T (eqb m n)
eq_test {m} e = subst (λ (k : ℕ). T (eqb m k)) e (eqb_refl m)

pub all_equal_iff : (n : ℕ) (l : Triple ℕ) → T (all_equal n l) ↔ ((c : Plane) → get l c ≡ n)
all_equal_iff n l =
    let e = each_test (λ c. eqb (get l c) n) in
    (λ t c. eqb→eq (get l c) n (e.0 t c), λ w. e.1 (λ c. eq_test (w c)))

pub depths_iff : (s : Settings) → T (depths_allowed s.depths) ↔ ((c : Plane) → (2 ≤ depth_at s c) × (depth_at s c ≤ 16))
depths_iff s =
    let e = each_test (λ (c : Plane). between 2 16 (depth_at s c)) in
    (λ t c. (between_iff 2 16 (depth_at s c)).0 (e.0 t c), λ h. e.1 (λ c. (between_iff 2 16 (depth_at s c)).1 (h c)))

pub counters_told : CountersTold
counters_told s a =
    let fit = (depths_iff s).1 (λ c. (a.depth_least c, a.depth_most c)) in
    let known = le→leb s.transform 3 a.transform_most in
    ap (λ (b : Bool). cond b (counters_needed s) 0)
    (holds_true (depths_allowed s.depths && leb s.transform 3) ((and_iff (depths_allowed s.depths) (leb s.transform 3)).1 (fit, known)))

-- The settings are allowed, the form takes the depths, the picture has the bands, the call's own test of the choices holds, and the planes, of
-- lengths l, have the picture's size.
pub record ValidSettings (κ : Form) (β : Bands) (s : Settings) (choices : Bool) (l : Triple ℕ) : Type 0 where
  pub allowed : Allowed s
  pub depths_suit : T (depths_suit κ s.depths)
  pub bands_suit : T (bands_suit β s.height)
  pub choices_fit : T choices
  pub size : (c : Plane) → get l c ≡ pixels s

pub settings_iff : (κ : Form) (β : Bands) (s : Settings) (choices : Bool) (l : Triple ℕ) → Holds (settings_tests κ β s choices l) ↔ ValidSettings κ β s choices l
settings_iff κ β s choices l =
    let size = sized_iff s.width s.height in
    let depths = depths_iff s in
    let all = all_equal_iff (pixels s) l in (
      λ k. let d = size.0 k.0 in record {
        allowed = record {
          width_least = d.0.0;
          width_most = d.0.1;
          height_least = d.1.0;
          height_most = d.1.1;
          depth_least = λ c. (depths.0 k.1.0 c).0;
          depth_most = λ c. (depths.0 k.1.0 c).1;
          transform_most = leb→le s.transform 3 k.1.1.1.0;
        };
        depths_suit = k.1.1.0;
        bands_suit = k.1.1.1.1.0;
        choices_fit = k.1.1.1.1.1.0;
        size = all.0 k.1.1.1.1.1.1.0;
      },
      λ v. let a = v.allowed in (
        size.1 ((a.width_least, a.width_most), (a.height_least, a.height_most)),
        (
          depths.1 (λ c. (a.depth_least c, a.depth_most c)),
          (v.depths_suit, (le→leb s.transform 3 a.transform_most, (v.bands_suit, (v.choices_fit, (all.1 v.size, tt))))),
        ),
      ),
    )

-- lengths by plane
pub length_at : (p : Planes) (c : Plane) → get (lengths p) c ≡ length (get p c)
length_at p c = get-map length p c

pub has_size : {κ : Form} {β : Bands} {s : Settings} {choices : Bool} (p : Planes) → ValidSettings κ β s choices (lengths p) → HasSize s p
has_size p v c = sym (length_at p c) ∙ v.size c

-- the tests of a call, lent planes p, pass exactly where its settings, bands and choices fit and the planes have the picture's size
pub fit_iff : (κ : Form) (β : Bands) (s : Settings) (φ : List ℕ) (p : Planes)
    → Holds (settings_tests κ β s (choices_fit β s φ) (lengths p)) ↔ (Fit κ β s φ × HasSize s p)
fit_iff κ β s φ p =
    let i = settings_iff κ β s (choices_fit β s φ) (lengths p) in (
      λ h. let v = i.0 h in (record { allowed = v.allowed; depths = v.depths_suit; bands = v.bands_suit; choices = v.choices_fit }, has_size p v),
      λ k. let f = k.0 in
          i.1 (record { allowed = f.allowed; depths_suit = f.depths; bands_suit = f.bands; choices_fit = f.choices; size = λ c. length_at p c ∙ k.1 c }),
    )

-- how many pixels a picture has
pub pixels_some : {s : Settings} → Allowed s → 1 ≤ pixels s
pixels_some {s} a = omega (arith, mul-le-mul a.width_least a.height_least)

pub pixels_most : {s : Settings} → Allowed s → pixels s ≤ 67108864
pixels_most {s} a = omega (arith, mul-le-mul a.width_most a.height_most)

-- There are enough counters; and where trial planes, of lengths l, are lent too, they have room for the picture.
pub counters_enough : (s : Settings) (counters : ℕ) → T (counters_fit s counters) → 2 * widest s < counters
counters_enough s counters t = omega (arith, leb→le (counters_needed s) counters t)

pub record ValidScratch (s : Settings) (l : Triple ℕ) (counters : ℕ) : Type 0 where
  pub room : (c : Plane) → pixels s ≤ get l c
  pub enough : 2 * widest s < counters

pub scratch_valid : (s : Settings) (l : Triple ℕ) (counters : ℕ) → T (scratch_fits s l counters) → ValidScratch s l counters
scratch_valid s l counters t =
    let a = (and_iff (all_at_least (pixels s) l) (counters_fit s counters)).0 t in
    record {
      room = λ c. leb→le (pixels s) (get l c) ((each_test (λ (c : Plane). leb (pixels s) (get l c))).0 a.0 c);
      enough = counters_enough s counters a.1;
    }
