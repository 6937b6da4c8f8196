-- The rows of the matrices and of their inverses on floats, for 16-bit samples: each is what the matrix says, with no rounding.
use mathlib.Core.Path.{◌≡◌, refl, ap}
use Prim.Native.Nat.{ℕ, ◌≤◌}
use native.Mathlib.Omega.{arith}
use lib.Dec.{lit<}
use lib.IntN.{ℤ, pos, nat_abs, ◌*ℤ◌}
use lib.Ieee.{Float, binary64, add, sub, mul}
use Rattle.integers.specs.Parts.{In}
use Rattle.integers.proofs.Parts.{nat_abs_parts, one_part}
use Rattle.integers.proofs.Linear.{eq_lin, in_lin, flat, count}
use Rattle.stage.specs.declared.Triple.{Triple}
use Rattle.stage.specs.Planes.{triple}
use Rattle.preview.specs.declared.Pixel.{Pixel}
use Rattle.preview.specs.declared.Rgb.{Rgb}
use Rattle.preview.specs.Quarters.{Maybe, just, nothing, four_times, all_three, pixel_quarters}
use Rattle.preview.specs.Spaces.{Space, HVSCT, YCoCg, quarters}
use Rattle.preview.specs.Parts.{Bits16, fourfold}
use Rattle.preview.proofs.Exact.{Four, again, known, four}
use Rattle.preview.proofs.Sums.{add_is, sub_is}
use Rattle.preview.proofs.Fractions.{part, half_is, quarter_is}

-- ---- three floats at once
pub record Fours (k : ℕ) (x : Pixel) (q : Triple ℤ) : Type 0 where
  pub first : Four k x.v1 q.c1
  pub second : Four k x.v2 q.c2
  pub third : Four k x.v3 q.c3

pub all_known : {k l m : ℕ} {x : Pixel} {q : Triple ℤ} → Four k x.v1 q.c1 → Four l x.v2 q.c2 → Four m x.v3 q.c3 → pixel_quarters x ≡ just q
all_known a b c = rw (known a, known b, known c) refl

abbrev pub AreJust : (a b c : Maybe ℤ) → Triple ℤ → Type 0
AreJust a b c q = (a ≡ just q.c1) × (b ≡ just q.c2) × (c ≡ just q.c3)

pub are_just : (a b c : Maybe ℤ) (q : Triple ℤ) → all_three a b c ≡ just q → AreJust a b c q
are_just (just a) (just b) (just c) q h =
    let e : triple a b c ≡ q = cc in
    (ap (λ (t : Triple ℤ). just t.c1) e, ap (λ (t : Triple ℤ). just t.c2) e, ap (λ (t : Triple ℤ). just t.c3) e)
are_just (just a) (just b) nothing q h = let z : ◌≡◌ {A = ℕ} 0 1 = cc in absurd (omega arith)
are_just (just a) nothing c q h = let z : ◌≡◌ {A = ℕ} 0 1 = cc in absurd (omega arith)
are_just nothing b c q h = let z : ◌≡◌ {A = ℕ} 0 1 = cc in absurd (omega arith)

pub record Small (k : ℕ) (q : Triple ℤ) : Type 0 where
  pub first : In k k q.c1
  pub second : In k k q.c2
  pub third : In k k q.c3

pub sized : {k : ℕ} {z : ℤ} → In k k z → nat_abs z ≤ k
sized {k} {z} h = rw (nat_abs_parts z) (omega (arith, one_part z, h))

pub all_four : {k : ℕ} {x : Pixel} {q : Triple ℤ} → Small k q → pixel_quarters x ≡ just q → Fours k x q
all_four {k} {x} {q} s h =
    let e = are_just (four_times x.v1) (four_times x.v2) (four_times x.v3) q h in
    record { first = four (sized s.first) e.0; second = four (sized s.second) e.1; third = four (sized s.third) e.2 }

-- ---- four times 16-bit samples, and four times their values, are at most 262,140
module _ (s : Rgb) (r : In 0 65535 s.r) (g : In 0 65535 s.g) (b : In 0 65535 s.b) where
  samples_small : Small 262140 (fourfold s)
  samples_small =
      record {
        first = in_lin (simp flat (simp count (omega arith)));
        second = in_lin (simp flat (simp count (omega arith)));
        third = in_lin (simp flat (simp count (omega arith)));
      }

  values_small : (σ : Space) → Small 262140 (quarters σ s)
  values_small HVSCT =
      record {
        first = in_lin (simp flat (simp count (omega arith)));
        second = in_lin (simp flat (simp count (omega arith)));
        third = in_lin (simp flat (simp count (omega arith)));
      }
  values_small YCoCg =
      record {
        first = in_lin (simp flat (simp count (omega arith)));
        second = in_lin (simp flat (simp count (omega arith)));
        third = in_lin (simp flat (simp count (omega arith)));
      }

-- ---- the rows, as the code computes them
abbrev pixel_of : Float → Float → Float → Pixel
pixel_of a b c = record { v1 = a; v2 = b; v3 = c }

infixl 6 ◌⊞◌ ◌⊟◌
abbrev ◌⊞◌ : Float → Float → Float
a ⊞ b = add binary64 a b

abbrev ◌⊟◌ : Float → Float → Float
a ⊟ b = sub binary64 a b

abbrev half : Float → Float
half a = mul binary64 a (part 0)

abbrev quarter : Float → Float
quarter a = mul binary64 a (part 1)

abbrev pub hvsct_floats : Pixel → Pixel
hvsct_floats x = pixel_of (half x.v1 ⊞ half x.v2) (half x.v1 ⊟ half x.v2) (half x.v3 ⊟ quarter x.v1 ⊟ quarter x.v2)

abbrev pub ycocg_floats : Pixel → Pixel
ycocg_floats x =
    pixel_of (quarter x.v1 ⊞ half x.v2 ⊞ quarter x.v3) (half x.v1 ⊟ half x.v3) (half x.v2 ⊟ quarter x.v1 ⊟ quarter x.v3)

abbrev pub hvsct_back : Pixel → Pixel
hvsct_back x = pixel_of (x.v1 ⊞ x.v2) (x.v1 ⊟ x.v2) (x.v1 ⊞ x.v3 ⊞ x.v3)

abbrev pub ycocg_back : Pixel → Pixel
ycocg_back x = pixel_of (x.v1 ⊞ x.v2 ⊟ x.v3) (x.v1 ⊞ x.v3) (x.v1 ⊟ x.v2 ⊟ x.v3)

whole : {k : ℕ} {x : Float} {y z : ℤ} → Four k x y → y ≡ z → Four k x z
whole h e = again (omega arith) e h

module _ {x : Float} (z : ℤ) (h : Four 262140 x (pos 4 *ℤ z)) where
  halved : Four 262140 (mul binary64 x (part 0)) (pos 2 *ℤ z)
  halved = half_is (lit< tt) (again (omega arith) (eq_lin (simp flat (simp count (omega arith)))) h)

  quartered : Four 262140 (mul binary64 x (part 1)) z
  quartered = quarter_is (lit< tt) h

module _ (x : Pixel) (s : Rgb) (u : Bits16 s) where
  module _ (h : pixel_quarters x ≡ just (fourfold s)) where
    f : Fours 262140 x (fourfold s)
    f = all_four (samples_small s u.red u.green u.blue) h

    pub hvsct_rows : pixel_quarters (hvsct_floats x) ≡ just (quarters HVSCT s)
    hvsct_rows =
        all_known
        (add_is (lit< tt) (halved s.r f.first) (halved s.g f.second))
        (sub_is (lit< tt) (halved s.r f.first) (halved s.g f.second))
        (sub_is (lit< tt) (sub_is (lit< tt) (halved s.b f.third) (quartered s.r f.first)) (quartered s.g f.second))

    pub ycocg_rows : pixel_quarters (ycocg_floats x) ≡ just (quarters YCoCg s)
    ycocg_rows =
        all_known
        (add_is (lit< tt) (add_is (lit< tt) (quartered s.r f.first) (halved s.g f.second)) (quartered s.b f.third))
        (sub_is (lit< tt) (halved s.r f.first) (halved s.b f.third))
        (sub_is (lit< tt) (sub_is (lit< tt) (halved s.g f.second) (quartered s.r f.first)) (quartered s.b f.third))

  pub hvsct_back_lem : pixel_quarters x ≡ just (quarters HVSCT s) → pixel_quarters (hvsct_back x) ≡ just (fourfold s)
  hvsct_back_lem h =
      let f = all_four (values_small s u.red u.green u.blue HVSCT) h in
      all_known
      (whole (add_is (lit< tt) f.first f.second) (eq_lin (simp flat (simp count (omega arith)))))
      (whole (sub_is (lit< tt) f.first f.second) (eq_lin (simp flat (simp count (omega arith)))))
      (whole (add_is (lit< tt) (add_is (lit< tt) f.first f.third) f.third) (eq_lin (simp flat (simp count (omega arith)))))

  pub ycocg_back_lem : pixel_quarters x ≡ just (quarters YCoCg s) → pixel_quarters (ycocg_back x) ≡ just (fourfold s)
  ycocg_back_lem h =
      let f = all_four (values_small s u.red u.green u.blue YCoCg) h in
      all_known
      (whole (sub_is (lit< tt) (add_is (lit< tt) f.first f.second) f.third) (eq_lin (simp flat (simp count (omega arith)))))
      (whole (add_is (lit< tt) f.first f.third) (eq_lin (simp flat (simp count (omega arith)))))
      (whole (sub_is (lit< tt) (sub_is (lit< tt) f.first f.second) f.third) (eq_lin (simp flat (simp count (omega arith)))))
