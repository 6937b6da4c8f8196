-- The mean at any sample, by rows of the window, and in the interior, where all nine positions are inside.
use Rattle.std.proofs.Common.{◌≡◌, ℕ, zero, suc, ◌+◌, ◌-◌, ◌*◌, ◌/◌, ◌%◌, ◌≤◌, cond, eqb, List, ℤ, pos, ◌+ℤ◌, ◌*ℤ◌, sym, ap, ◌∙◌, ap₂, suc-mul, arith}
use Rattle.integers.specs.Lists.{at}
use Rattle.integers.proofs.Linear.{flat, count, eq_lin}
use Rattle.stage.specs.Filter.{weight, weight_sum, weighted_sum, window_sample, rounded_mean, mean}
use Rattle.stage.proofs.Windows.{weight_sum_same, weighted_sum_same}
use Rattle.kernel.specs.Window.{neighbour_sum, row_sum, window_weight, window_mean}
use Rattle.kernel.proofs.Windows.{indicator_at, Neighbourhood, window_weight_lem, window_sample_lem}

-- an indicator times one of two numbers that are the same where it is 1
times_same : (b : ℕ) (x y : ℤ) → b ≤ 1 → (1 ≤ b → x ≡ y) → pos b *ℤ x ≡ pos b *ℤ y
times_same zero x y l f = eq_lin (simp flat (simp count (omega arith)))
times_same (suc b) x y l f = ap (λ (z : ℤ). pos (suc b) *ℤ z) (f (omega arith))

-- ---- nine positions by rows, the centre's weight k + 1
module _ (left right : ℕ) where
  abbrev weighted_row : ℤ → ℤ → ℤ → ℤ
  weighted_row x y z = pos left *ℤ x +ℤ y +ℤ pos right *ℤ z

  weighted_row_times : (u : ℕ) (x y z : ℤ) → pos (u * (left * 1)) *ℤ x +ℤ pos (u * (1 * 1)) *ℤ y +ℤ pos (u * (right * 1)) *ℤ z ≡ pos u *ℤ weighted_row x y z
  weighted_row_times u x y z = eq_lin (simp flat (simp count (omega arith)))

  weighted_row_centre : (k : ℕ) (x y z : ℤ) → pos (1 * (left * 1)) *ℤ x +ℤ pos (1 * (1 * (k + 1))) *ℤ y +ℤ pos (1 * (right * 1)) *ℤ z ≡ weighted_row x y z +ℤ pos k *ℤ y
  weighted_row_centre k x y z = eq_lin (simp flat (simp count (omega arith)))

by_rows : (a b c d e f g h i : ℤ) → pos 0 +ℤ a +ℤ b +ℤ c +ℤ d +ℤ e +ℤ f +ℤ g +ℤ h +ℤ i ≡ (d +ℤ e +ℤ f) +ℤ (a +ℤ b +ℤ c) +ℤ (g +ℤ h +ℤ i)
by_rows a b c d e f g h i = eq_lin (simp flat (simp count (omega arith)))

module _ (left right above below k : ℕ) where
  abbrev indicated : ℕ → ℕ
  indicated n = indicator_at above below (n / 3) * (indicator_at left right (n % 3) * cond (eqb n 4) (k + 1) 1)

  indicated_sum : (g : ℕ → ℤ) → weighted_sum indicated g 9 ≡ weighted_row left right (g 3) (g 4) (g 5) +ℤ pos k *ℤ g 4 +ℤ pos above *ℤ weighted_row left right (g 0) (g 1) (g 2) +ℤ pos below *ℤ weighted_row left right (g 6) (g 7) (g 8)
  indicated_sum g =
      let t : ℕ → ℤ = λ n. pos (indicated n) *ℤ g n in
      by_rows (t 0) (t 1) (t 2) (t 3) (t 4) (t 5) (t 6) (t 7) (t 8)
      ∙ ap₂ ◌+ℤ◌
      (ap₂ ◌+ℤ◌ (weighted_row_centre left right k (g 3) (g 4) (g 5)) (weighted_row_times left right above (g 0) (g 1) (g 2)))
      (weighted_row_times left right below (g 6) (g 7) (g 8))

  indicated_weight : weight_sum indicated 9 ≡ window_weight left right above below (k + 1)
  indicated_weight = omega arith

-- the rows above, of and below row y
module _ (y w : ℕ) where
  row_above : 1 ≤ y → (y + 0 - 1) * w + w ≡ y * w
  row_above l = let e : suc (y + 0 - 1) ≡ y = omega arith in sym (suc-mul (y + 0 - 1) w) ∙ ap (λ (n : ℕ). n * w) e

  row_own : (y + 1 - 1) * w ≡ y * w
  row_own = let e : y + 1 - 1 ≡ y = omega arith in ap (λ (n : ℕ). n * w) e

  row_below : (y + 2 - 1) * w ≡ y * w + w
  row_below = let e : y + 2 - 1 ≡ suc y = omega arith in ap (λ (n : ℕ). n * w) e ∙ suc-mul y w

module _ {w h x y left right above below : ℕ} (s : Neighbourhood w h x y left right above below) (k : ℕ) (a : List ℤ) where
  abbrev g : ℕ → ℤ
  g = window_sample w a (y * w + x)

  abbrev i : ℕ
  i = y * w + x

  -- the row whose centre is at b + x
  weighted_row_is : (b : ℕ) → weighted_row left right (at a (b + (x + 0 - 1))) (at a (b + (x + 1 - 1))) (at a (b + (x + 2 - 1))) ≡ row_sum a (b + x) left right
  weighted_row_is b =
      let e : b + (x + 1 - 1) ≡ b + x = omega arith in
      ap₂ ◌+ℤ◌
      (ap₂ ◌+ℤ◌ (times_same left (at a (b + (x + 0 - 1))) (at a (b + x - left)) s.on_left.most before) (ap (at a) e))
      (times_same right (at a (b + (x + 2 - 1))) (at a (b + x + right)) s.on_right.most after)
    where
      before : 1 ≤ left → at a (b + (x + 0 - 1)) ≡ at a (b + x - left)
      before o = let p = s.on_left.on o in let m = s.on_left.most in let e : b + (x + 0 - 1) ≡ b + x - left = omega arith in ap (at a) e

      after : 1 ≤ right → at a (b + (x + 2 - 1)) ≡ at a (b + x + right)
      after o = let m = s.on_right.most in let e : b + (x + 2 - 1) ≡ b + x + right = omega arith in ap (at a) e

  row_is : (b : ℕ) {c : ℕ} {u v z : ℤ} → u ≡ at a (b + (x + 0 - 1)) → v ≡ at a (b + (x + 1 - 1)) → z ≡ at a (b + (x + 2 - 1)) → b + x ≡ c → weighted_row left right u v z ≡ row_sum a c left right
  row_is b p q r e = let l = weighted_row_is b in cc

  own_row : weighted_row left right (g 3) (g 4) (g 5) ≡ row_sum a i left right
  own_row = row_is ((y + 1 - 1) * w) (window_sample_lem k s 3 a) (window_sample_lem k s 4 a) (window_sample_lem k s 5 a) (omega (arith, row_own y w))

  above_row : 1 ≤ above → weighted_row left right (g 0) (g 1) (g 2) ≡ row_sum a (i - above * w) left right
  above_row o =
      let m : above ≡ 1 = omega (arith, s.on_top.most) in
      let f = ap (λ (n : ℕ). n * w) m in
      row_is ((y + 0 - 1) * w) (window_sample_lem k s 0 a) (window_sample_lem k s 1 a) (window_sample_lem k s 2 a) (omega (arith, row_above y w (s.on_top.on o)))

  below_row : 1 ≤ below → weighted_row left right (g 6) (g 7) (g 8) ≡ row_sum a (i + below * w) left right
  below_row o =
      let m : below ≡ 1 = omega (arith, s.at_bottom.most) in
      let f = ap (λ (n : ℕ). n * w) m in
      row_is ((y + 2 - 1) * w) (window_sample_lem k s 6 a) (window_sample_lem k s 7 a) (window_sample_lem k s 8 a) (omega (arith, row_below y w))

  centre_sample : g 4 ≡ at a i
  centre_sample = let e : (y + 1 - 1) * w + (x + 1 - 1) ≡ i = omega (arith, row_own y w) in window_sample_lem k s 4 a ∙ ap (at a) e

  abbrev rows : ℤ
  rows = row_sum a i left right +ℤ pos k *ℤ at a i
      +ℤ pos above *ℤ row_sum a (i - above * w) left right +ℤ pos below *ℤ row_sum a (i + below * w) left right

  sum_is : weighted_sum (weight w h (k + 1) i) g 9 ≡ rows
  sum_is =
      weighted_sum_same (weight w h (k + 1) i) (indicated left right above below k) g g 9
      (λ n l. ap (λ (m : ℕ). pos m *ℤ g n) (window_weight_lem (k + 1) s n l))
      ∙ indicated_sum left right above below k g
      ∙ ap₂ ◌+ℤ◌
      (ap₂ ◌+ℤ◌ (ap₂ ◌+ℤ◌ own_row (ap (λ (z : ℤ). pos k *ℤ z) centre_sample))
      (times_same above (weighted_row left right (g 0) (g 1) (g 2)) (row_sum a (i - above * w) left right) s.on_top.most above_row))
      (times_same below (weighted_row left right (g 6) (g 7) (g 8)) (row_sum a (i + below * w) left right) s.at_bottom.most below_row)

  mean_by_rows : {centre : ℕ} → centre ≡ k + 1 → rounded_mean rows (window_weight left right above below centre) ≡ mean w h centre a i
  unfolding mean
  mean_by_rows e =
      let same = weight_sum_same (weight w h (k + 1) i) (indicated left right above below k) 9 (window_weight_lem (k + 1) s) in
      rw e (sym (ap₂ rounded_mean sum_is (same ∙ indicated_weight left right above below k)))

-- ---- the interior
interior_sum : (w k i : ℕ) (a : List ℤ) → row_sum a i 1 1 +ℤ pos k *ℤ at a i +ℤ pos 1 *ℤ row_sum a (i - 1 * w) 1 1 +ℤ pos 1 *ℤ row_sum a (i + 1 * w) 1 1 ≡ neighbour_sum w a i +ℤ pos (k + 1) *ℤ at a i
interior_sum w k i a = let e : 1 * w ≡ w = omega arith in rw e (eq_lin (simp flat (simp count (omega arith))))

pub interior_window : (w centre i : ℕ) (a : List ℤ) → 1 ≤ centre → rounded_mean (neighbour_sum w a i +ℤ pos centre *ℤ at a i) (8 + centre) ≡ window_mean w 1 1 1 1 centre a i
unfolding window_mean
interior_window w centre i a l =
    let e : centre - 1 + 1 ≡ centre = omega arith in
    let m : 8 + centre ≡ (1 + 1 + 1) * (1 + 1 + 1) + (centre - 1) = omega arith in
    ap₂ rounded_mean (sym (rw e at (interior_sum w (centre - 1) i a))) m

-- ---- any sample
pub window_mean_lem : {w h x y left right above below i : ℕ} → Neighbourhood w h x y left right above below → i ≡ y * w + x → (centre : ℕ) (a : List ℤ) → 1 ≤ centre → window_mean w left right above below centre a i ≡ mean w h centre a i
unfolding window_mean
window_mean_lem s e centre a l = rw e (mean_by_rows s (centre - 1) a (omega arith))
