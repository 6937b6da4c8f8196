-- The depth of a maxval: the one search of the definition, as a loop sees it and as the equation that it solves.
use mathlib.Core.Path.{◌≡◌, refl, sym, ap, ◌∙◌}
use mathlib.Core.Bool.{Bool, true, false, cond}
use Prim.Native.Nat.{ℕ, zero, suc, ◌+◌, ◌-◌, ◌^◌, ◌≤◌, ◌<◌}
use mathlib.Core.Logic.{⊎_elim}
use native.Mathlib.Nat.{eq-or-lt_of_le}
use native.Mathlib.Numerals.{add-one}
use native.Mathlib.Omega.{arith}
use lib.Dec.{eqb}
use lib.Pow.{pow_pos, pow_mono, pow-lt}
use borrow.Author.Tests.{eqb-true, eqb-false, eq-eqb, ne_eqb}
use Rattle.stage.specs.Pixmap.{depth_among, depth_of}

-- ---- the loop that tries the depths from b to 16
module _ (b m : ℕ) (h : b ≤ 16) where
  step : depth_among (17 - b) b m ≡ cond (eqb m (2 ^ b - 1)) b (depth_among (17 - (b + 1)) (b + 1) m)
  unfolding depth_among
  step =
      let e : 17 - b ≡ suc (16 - b) = omega arith in
      let f : 17 - (b + 1) ≡ 16 - b = omega arith in
      rw (e, f, add-one)

  pub depth_found : m ≡ 2 ^ b - 1 → b ≡ depth_among (17 - b) b m
  depth_found e = sym (step ∙ ap (λ (t : Bool). cond t b (depth_among (17 - (b + 1)) (b + 1) m)) (eq-eqb m (2 ^ b - 1) e))

  pub depth_next : (m ≡ 2 ^ b - 1 → ⊥) → depth_among (17 - (b + 1)) (b + 1) m ≡ depth_among (17 - b) b m
  depth_next e = sym (step ∙ ap (λ (t : Bool). cond t b (depth_among (17 - (b + 1)) (b + 1) m)) (ne_eqb m (2 ^ b - 1) e))

pub depth_none : (b m : ℕ) → 17 ≤ b → 0 ≡ depth_among (17 - b) b m
unfolding depth_among
depth_none b m h = let e : 17 - b ≡ 0 = omega arith in rw e

-- ---- what the search finds
record Found (low n m d : ℕ) : Type 0 where
  from : low ≤ d
  to : d < low + n
  is : m ≡ 2 ^ d - 1

found_by : (n low m d : ℕ) (t : Bool) → eqb m (2 ^ low - 1) ≡ t → (depth_among n (suc low) m ≡ d → Found (suc low) n m d) → cond t low (depth_among n (suc low) m) ≡ d → Found low (suc n) m d
found_by n low m d true e f h = record { from = omega arith; to = omega arith; is = eqb-true m (2 ^ low - 1) e ∙ ap (λ (x : ℕ). 2 ^ x - 1) h }
found_by n low m d false e f h = let k = f h in record { from = omega arith; to = omega arith; is = k.is }

found : (n low m d : ℕ) → depth_among n low m ≡ d → (d ≡ 0 → ⊥) → Found low n m d
unfolding depth_among
found zero low m d h z = absurd (z (sym h))
found (suc n) low m d h z = found_by n low m d (eqb m (2 ^ low - 1)) refl (λ e. found n (suc low) m d e z) h

pub depth_means : (m d : ℕ) → depth_of m ≡ d → (d ≡ 0 → ⊥) → ((2 ≤ d) × (d ≤ 16)) × (m ≡ 2 ^ d - 1)
depth_means m d h z = let k = found 15 2 m d h z in ((k.from, omega arith), k.is)

-- ---- and that it finds every such depth
higher : (low d : ℕ) → low < d → 2 ^ low - 1 ≡ 2 ^ d - 1 → ⊥
higher low d h e = omega (arith, pow-lt h, pow_pos low)

finds_by : (n low m d : ℕ) (t : Bool) → eqb m (2 ^ low - 1) ≡ t → m ≡ 2 ^ d - 1 → low ≤ d → (low < d → depth_among n (suc low) m ≡ d) → cond t low (depth_among n (suc low) m) ≡ d
finds_by n low m d true e h l f =
    ⊎_elim (λ (p : low ≡ d). p) (λ (p : low < d). absurd (higher low d p (sym (eqb-true m (2 ^ low - 1) e) ∙ h))) (eq-or-lt_of_le l)
finds_by n low m d false e h l f =
    ⊎_elim (λ (p : low ≡ d). absurd (eqb-false m (2 ^ low - 1) e (h ∙ ap (λ (x : ℕ). 2 ^ x - 1) (sym p)))) f (eq-or-lt_of_le l)

finds : (n low m d : ℕ) → m ≡ 2 ^ d - 1 → low ≤ d → d < low + n → depth_among n low m ≡ d
unfolding depth_among
finds zero low m d h l u = absurd (omega arith)
finds (suc n) low m d h l u = finds_by n low m d (eqb m (2 ^ low - 1)) refl h l (λ k. finds n (suc low) m d h k (omega arith))

pub means_depth : (m d : ℕ) → m ≡ 2 ^ d - 1 → 2 ≤ d → d ≤ 16 → depth_of m ≡ d
means_depth m d h l u = finds 15 2 m d h l (omega arith)

-- a maxval that has a depth is M of that depth, and below 65,536
pub depth_maxval : (m : ℕ) → (depth_of m ≡ 0 → ⊥) → (2 ^ depth_of m - 1 ≡ m) × (m ≤ 65535)
depth_maxval m z = let k = depth_means m (depth_of m) refl z in (sym k.1, omega (arith, pow_mono k.0.1, k.1))
