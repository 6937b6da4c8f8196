-- What the way back finds: floats compared with those of samples, and the samples that can only be meant.
use mathlib.Core.Path.{◌≡◌, refl, sym, ap, subst}
use mathlib.Core.Bool.{true, false, ◌&&◌}
use mathlib.Core.Logic.{◌↔◌}
use Prim.Native.Nat.{ℕ, ◌≤◌}
use native.Mathlib.Omega.{arith}
use lib.Dec.{T}
use lib.IntN.{ℤ}
use lib.Ieee.{eq}
use lib.Pow.{pow_mono}
use Rattle.integers.specs.Parts.{In, within}
use Rattle.integers.proofs.Booleans.{holds_true, true_holds, and_iff, same_test}
use Rattle.integers.proofs.Ranges.{within_iff}
use Rattle.stage.specs.Answers.{Reply, done, refused, refusal, between}
use Rattle.stage.specs.declared.Triple.{Triple}
use Rattle.stage.specs.Ranges.{max_sample}
use Rattle.stage.proofs.Answers.{between_iff}
use Rattle.preview.specs.declared.Pixel.{Pixel}
use Rattle.preview.specs.declared.Rgb.{Rgb}
use Rattle.preview.specs.Quarters.{Maybe, just, nothing, four_times, pixel_quarters}
use Rattle.preview.specs.Spaces.{Space, quarters}
use Rattle.preview.specs.Calls.{Shown, shown, are_samples, preview_tests, has, found, back_call}
use Rattle.preview.specs.Parts.{Bits16, same_floats, Finds}
use Rattle.preview.proofs.Compared.{compared_as_numbers}
use Rattle.preview.proofs.Rows.{are_just}
use Rattle.preview.proofs.Values.{same_three_lem, three_itself}
use Rattle.preview.proofs.RoundTrips.{none_found, accepted, found_answer}

-- samples of a depth have at most 16 bits
in_bits : (b : ℕ) (z : ℤ) → b ≤ 16 → T (within 0 (max_sample b) z) → In 0 65535 z
in_bits b z l h = let i = (within_iff 0 (max_sample b) z).0 h in record { low = i.low; high = omega (arith, i.high, pow_mono {i = b} {j = 16} l) }

pub bits_16 : (b : ℕ) (s : Rgb) → b ≤ 16 → T (are_samples b s) → Bits16 s
bits_16 b s l h =
    let m = max_sample b in
    let p = (and_iff (within 0 m s.r) (within 0 m s.g && within 0 m s.b)).0 h in
    let q = (and_iff (within 0 m s.g) (within 0 m s.b)).0 p.1 in
    record { red = in_bits b s.r l p.0; green = in_bits b s.g l q.0; blue = in_bits b s.b l q.1 }

pub depth_most : (b : ℕ) → between 2 16 b ≡ true → b ≤ 16
depth_most b h = ((between_iff 2 16 b).0 (true_holds h)).1

-- what the forward calls accept
pub allowed_bits : (b : ℕ) (s : Rgb) → 0 ≡ refusal (preview_tests b s) → Bits16 s
allowed_bits b s h =
    let p = accepted b s (sym h) in
    bits_16 b s (depth_most b (holds_true (between 2 16 b) p.0)) p.1

-- ---- a pixel has the values of samples, as a test
pub has_iff : (σ : Space) (m : Maybe (Triple ℤ)) (s : Rgb) → T (has (done (shown σ m)) s) ↔ (m ≡ just (quarters σ s))
has_iff σ (just q) s = (
  (λ h. ap just (sym (same_three_lem (quarters σ s) q h))),
  (λ e. let g : q ≡ quarters σ s = cc in subst (λ (t : Triple ℤ). T (has (done (shown σ (just t))) s)) (sym g) (true_holds (three_itself (quarters σ s)))),
)
has_iff σ nothing s = ((λ h. absurd h), (λ e. let z : ◌≡◌ {A = ℕ} 0 1 = cc in absurd (omega arith)))

module _ (x y : Pixel) (q : Triple ℤ) (h : pixel_quarters y ≡ just q) where
  same_iff : T (same_floats x y) ↔ (pixel_quarters x ≡ just q)
  same_iff =
      let e = are_just (four_times y.v1) (four_times y.v2) (four_times y.v3) q h in
      let first = compared_as_numbers x.v1 y.v1 q.c1 e.0 in
      let second = compared_as_numbers x.v2 y.v2 q.c2 e.1 in
      let third = compared_as_numbers x.v3 y.v3 q.c3 e.2 in
      let both = and_iff (eq x.v1 y.v1) (eq x.v2 y.v2 && eq x.v3 y.v3) in
      let last = and_iff (eq x.v2 y.v2) (eq x.v3 y.v3) in (
        (λ g. let p = both.0 g in let r = last.0 p.1 in rw (first.0 p.0, second.0 r.0, third.0 r.1) refl),
        (λ g. let j = are_just (four_times x.v1) (four_times x.v2) (four_times x.v3) q g in both.1 (first.1 j.0, last.1 (second.1 j.1, third.1 j.2))),
      )

pub same_has : (σ : Space) (x y : Pixel) (s : Rgb) → pixel_quarters y ≡ just (quarters σ s) → same_floats x y ≡ has (done (shown σ (pixel_quarters x))) s
same_has σ x y s h = same_test (same_floats x y) (has (done (shown σ (pixel_quarters x))) s) (same_iff x y (quarters σ s) h) (has_iff σ (pixel_quarters x) s)

-- ---- the answer, from the samples that can only be meant
module _ (b : ℕ) (v : Reply Shown) (s : Rgb) (d : between 2 16 b ≡ true) (f : Finds v s) where
  none : (T (are_samples b s) → T (has v s) → ⊥) → refused 15 ≡ back_call b v
  none n =
      sym
      (none_found b v (true_holds d)
      (λ u h.
      let e = sym (f (found v) (bits_16 b (found v) (depth_most b d) u) h) in
      n (subst (λ (t : Rgb). T (are_samples b t)) e u) (subst (λ (t : Rgb). T (has v t)) e h)))

  pub no_samples : are_samples b s ≡ false → refused 15 ≡ back_call b v
  no_samples e = none (λ u h. subst T e u)

  pub other_floats : has v s ≡ false → refused 15 ≡ back_call b v
  other_floats e = none (λ u h. subst T e h)

  pub samples_found : are_samples b s ≡ true → has v s ≡ true → done s ≡ back_call b v
  samples_found u h = sym (found_answer b v s (true_holds d) (true_holds u) (true_holds h))
