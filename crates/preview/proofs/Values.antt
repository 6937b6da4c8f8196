-- Samples and four times their values: these lead back to the samples, and are 001's matrices, row by row.
use mathlib.Core.Path.{◌≡◌, refl, sym, ap, ◌∙◌}
use mathlib.Core.Bool.{true, ◌&&◌}
use Prim.Native.Nat.{ℕ, suc, ◌*◌}
use native.Mathlib.Omega.{arith}
use lib.Dec.{T, lit<}
use lib.IntN.{ℤ, pos, negsuc, neg_ℤ, ◌+ℤ◌, ◌-ℤ◌, ◌*ℤ◌, +ℤ_idr, neg_ℤ-neg_ℤ}
use Rattle.integers.specs.Parts.{floor_div}
use Rattle.integers.proofs.Booleans.{holds_true, and_iff}
use Rattle.integers.proofs.FloorDivision.{floor_div_out}
use Rattle.integers.proofs.Linear.{eq_lin, flat, count}
use Rattle.stage.specs.declared.Plane.{Plane}
use Rattle.stage.specs.declared.Triple.{Triple}
use Rattle.stage.specs.Planes.{get}
use Rattle.stage.specs.Estimate.{same_number}
use Rattle.stage.proofs.Triples.{each_plane, triple_ext}
use Rattle.stage.proofs.Prediction.{same_equal, same_itself}
use Rattle.preview.specs.declared.Rgb.{Rgb}
use Rattle.preview.specs.Spaces.{Space, HVSCT, YCoCg, quarters, rgb_of, samples}
use Rattle.preview.specs.Calls.{same_three}
use Rattle.preview.specs.Matrices.{ByMatrix, ByInverse}
use Rattle.preview.specs.Theorems.{OnlyOne}

-- ---- three numbers
pub same_rgb : {s t : Rgb} → s.r ≡ t.r → s.g ≡ t.g → s.b ≡ t.b → s ≡ t
same_rgb {s} {t} p q u =
    ap (λ (z : ℤ). rgb_of z s.g s.b) p ∙ ap (λ (z : ℤ). rgb_of t.r z s.b) q ∙ ap (λ (z : ℤ). rgb_of t.r t.g z) u

three_same : {q t : Triple ℤ} → q.c1 ≡ t.c1 → q.c2 ≡ t.c2 → q.c3 ≡ t.c3 → q ≡ t
three_same {q} {t} p r u = triple_ext (each_plane (λ (c : Plane). get q c ≡ get t c) p r u)

pub same_three_lem : (q t : Triple ℤ) → T (same_three q t) → q ≡ t
same_three_lem q t h =
    let p = (and_iff (same_number q.c1 t.c1) (same_number q.c2 t.c2 && same_number q.c3 t.c3)).0 h in
    let r = (and_iff (same_number q.c2 t.c2) (same_number q.c3 t.c3)).0 p.1 in
    three_same (same_equal q.c1 t.c1 (holds_true _ p.0)) (same_equal q.c2 t.c2 (holds_true _ r.0)) (same_equal q.c3 t.c3 (holds_true _ r.1))

pub three_itself : (q : Triple ℤ) → same_three q q ≡ true
three_itself q = rw (same_itself q.c1, same_itself q.c2) (same_itself q.c3)

-- ---- values lead back to the samples that they are of
exact_floor : (z r : ℤ) → z ≡ pos 4 *ℤ r → floor_div z 4 ≡ r
exact_floor z r h = ap (λ (w : ℤ). floor_div w 4) (h ∙ sym (+ℤ_idr (pos 4 *ℤ r))) ∙ floor_div_out r (pos 0) 4 (lit< tt) ∙ +ℤ_idr r

pub back_again : (σ : Space) (s : Rgb) → samples σ (quarters σ s) ≡ s
back_again HVSCT s =
    let q = quarters HVSCT s in
    same_rgb
    (exact_floor (q.c1 +ℤ q.c2) s.r (eq_lin (simp flat (simp count (omega arith)))))
    (exact_floor (q.c1 -ℤ q.c2) s.g (eq_lin (simp flat (simp count (omega arith)))))
    (exact_floor (q.c1 +ℤ pos 2 *ℤ q.c3) s.b (eq_lin (simp flat (simp count (omega arith)))))
back_again YCoCg s =
    let q = quarters YCoCg s in
    same_rgb
    (exact_floor (q.c1 +ℤ q.c2 -ℤ q.c3) s.r (eq_lin (simp flat (simp count (omega arith)))))
    (exact_floor (q.c1 +ℤ q.c3) s.g (eq_lin (simp flat (simp count (omega arith)))))
    (exact_floor (q.c1 -ℤ q.c2 -ℤ q.c3) s.b (eq_lin (simp flat (simp count (omega arith)))))

pub only_one : OnlyOne
only_one σ s t h = sym (back_again σ s) ∙ ap (samples σ) h ∙ back_again σ t

-- ---- 001's matrices, row by row
minus_times_lem : (n : ℕ) (z : ℤ) → negsuc n *ℤ z ≡ neg_ℤ (pos (suc n) *ℤ z)
minus_times_lem n (pos m) = refl
minus_times_lem n (negsuc m) = sym (neg_ℤ-neg_ℤ (pos (suc n * suc m)))

-- rows with entries below 0, and rows of an inverse with such
module _ (x y z : ℤ) where
  less_second : pos 2 *ℤ x -ℤ pos 2 *ℤ y ≡ pos 2 *ℤ x +ℤ negsuc 1 *ℤ y +ℤ pos 0 *ℤ z
  less_second = rw (minus_times_lem 1 y) (eq_lin (simp flat (simp count (omega arith))))

  less_third : pos 2 *ℤ x -ℤ pos 2 *ℤ z ≡ pos 2 *ℤ x +ℤ pos 0 *ℤ y +ℤ negsuc 1 *ℤ z
  less_third = rw (minus_times_lem 1 z) (eq_lin (simp flat (simp count (omega arith))))

  third_less : pos 2 *ℤ z -ℤ x -ℤ y ≡ negsuc 0 *ℤ x +ℤ negsuc 0 *ℤ y +ℤ pos 2 *ℤ z
  third_less = rw (minus_times_lem 0 x, minus_times_lem 0 y) (eq_lin (simp flat (simp count (omega arith))))

  second_less : pos 2 *ℤ y -ℤ x -ℤ z ≡ negsuc 0 *ℤ x +ℤ pos 2 *ℤ y +ℤ negsuc 0 *ℤ z
  second_less = rw (minus_times_lem 0 x, minus_times_lem 0 z) (eq_lin (simp flat (simp count (omega arith))))

  back_second : pos 4 *ℤ x +ℤ negsuc 3 *ℤ y +ℤ pos 0 *ℤ z ≡ pos 4 *ℤ (x -ℤ y)
  back_second = rw (minus_times_lem 3 y) (eq_lin (simp flat (simp count (omega arith))))

  back_first : pos 4 *ℤ x +ℤ pos 4 *ℤ y +ℤ negsuc 3 *ℤ z ≡ pos 4 *ℤ (x +ℤ y -ℤ z)
  back_first = rw (minus_times_lem 3 z) (eq_lin (simp flat (simp count (omega arith))))

  back_third : pos 4 *ℤ x +ℤ negsuc 3 *ℤ y +ℤ negsuc 3 *ℤ z ≡ pos 4 *ℤ (x -ℤ y -ℤ z)
  back_third = rw (minus_times_lem 3 y, minus_times_lem 3 z) (eq_lin (simp flat (simp count (omega arith))))

pub by_matrix : ByMatrix
by_matrix HVSCT s = three_same (eq_lin (simp flat (simp count (omega arith)))) (less_second s.r s.g s.b) (third_less s.r s.g s.b)
by_matrix YCoCg s = three_same (eq_lin (simp flat (simp count (omega arith)))) (less_third s.r s.g s.b) (second_less s.r s.g s.b)

pub by_inverse : ByInverse
by_inverse HVSCT s =
    let q = quarters HVSCT s in
    three_same (eq_lin (simp flat (simp count (omega arith)))) (back_second q.c1 q.c2 q.c3 ∙ eq_lin (simp flat (simp count (omega arith)))) (eq_lin (simp flat (simp count (omega arith))))
by_inverse YCoCg s =
    let q = quarters YCoCg s in
    three_same (back_first q.c1 q.c2 q.c3 ∙ eq_lin (simp flat (simp count (omega arith)))) (eq_lin (simp flat (simp count (omega arith)))) (back_third q.c1 q.c2 q.c3 ∙ eq_lin (simp flat (simp count (omega arith))))
