-- The maxvals that a kind of file takes: those of the grammar, none above 65,535, so that one kept to 100,000 is taken alike.
use mathlib.Core.Path.{◌≡◌, refl, sym, ap, ◌∙◌}
use mathlib.Core.Bool.{Bool, true, false, not}
use mathlib.Core.Logic.{◌↔◌}
use Prim.Native.Nat.{ℕ, ◌≤◌, ◌<◌, min}
use native.Mathlib.Omega.{arith}
use lib.Dec.{leb, eqb}
use borrow.Author.Tests.{not-true, leb-true, leb-false, eqb-true, eqb-false, eq-eqb, ne_eqb, le-ltb}
use Rattle.stage.specs.declared.Kind.{Kind}
use Rattle.stage.specs.declared.Kind.TheVariants.{Pixmap, Graymap}
use Rattle.stage.specs.Raster.{sample_bytes}
use Rattle.stage.specs.Pixmap.{depth_of, takes}
use Rattle.stage.specs.Grammar.{Takes}
use Rattle.pixmap.specs.Parsed.{Readable}
use Rattle.pixmap.proofs.Depths.{depth_means, means_depth, depth_maxval}

-- ---- of the reader and of the grammar
pub has_depth : (m : ℕ) → takes Pixmap m ≡ true → depth_of m ≡ 0 → ⊥
has_depth m h = eqb-false (depth_of m) 0 (not-true (eqb (depth_of m) 0) h)

pub takes_iff : (k : Kind) (m : ℕ) → (takes k m ≡ true) ↔ Takes k m
takes_iff Pixmap m = (
  λ h. let d = depth_means m (depth_of m) refl (has_depth m h) in record { depth = depth_of m; depth_range = d.0; is_maxval = d.1 },
  λ d. let e = means_depth m d.depth d.is_maxval d.depth_range.0 d.depth_range.1 in
      ap not (ne_eqb (depth_of m) 0 (λ z. omega (arith, e, z, d.depth_range.0))),
)
takes_iff (Graymap n) m = (λ h. eqb-true m n h, λ e. eq-eqb m n e)

-- ---- none is above 65,535
pub taken_most : (k : Kind) (m : ℕ) → Readable k → takes k m ≡ true → m ≤ 65535
taken_most Pixmap m r h = (depth_maxval m (has_depth m h)).1
taken_most (Graymap n) m r h = omega (arith, r, eqb-true m n h)

above : (k : Kind) (m : ℕ) → Readable k → 65535 < m → takes k m ≡ false
above k m r g = by (takes k m) refl
  where
    by : (t : Bool) → takes k m ≡ t → takes k m ≡ false
    by true e = absurd (omega (arith, taken_most k m r e))
    by false e = e

pub takes_kept : (k : Kind) (m : ℕ) → Readable k → takes k (min m 100000) ≡ takes k m
takes_kept k m r = by (leb m 100000) refl
  where
    by : (t : Bool) → leb m 100000 ≡ t → takes k (min m 100000) ≡ takes k m
    by true e = ap (takes k) (omega (arith, leb-true m 100000 e))
    by false e = let l = leb-false m 100000 e in above k (min m 100000) r (omega arith) ∙ sym (above k m r (omega arith))

pub bytes_kept : (m : ℕ) → sample_bytes (min m 100000) ≡ sample_bytes m
bytes_kept m = by (leb m 100000) refl
  where
    by : (t : Bool) → leb m 100000 ≡ t → sample_bytes (min m 100000) ≡ sample_bytes m
    by true e = let k : min m 100000 ≡ m = omega (arith, leb-true m 100000 e) in rw k
    by false e = let l = leb-false m 100000 e in rw (le-ltb (min m 100000) 256 (omega arith), le-ltb m 256 (omega arith))
