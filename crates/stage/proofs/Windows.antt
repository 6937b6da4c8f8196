-- A mean depends only on the samples of its window that are inside the picture.
use mathlib.Core.Path.{◌≡◌, refl, ap, ap₂, sym, ◌∙◌}
use mathlib.Core.Bool.{Bool, true, false, cond}
use mathlib.Core.List.{List}
use Prim.Native.Nat.{ℕ, zero, suc, ◌+◌, ◌*◌, ◌-◌, ◌/◌, ◌%◌, ◌<◌}
use native.Mathlib.Omega.{arith}
use lib.Arith.{digits_div, digits_mod}
use lib.Dec.{T, eqb}
use lib.IntN.{ℤ, pos, ◌+ℤ◌, ◌*ℤ◌, zero-*ℤ}
use Rattle.stage.specs.Filter.{inside, window_index, window_sample, weight, weight_sum, weighted_sum, rounded_mean, mean}

-- position k of the window at column x and row y
pub window_index_lem : {w x : ℕ} (y : ℕ) → x < w → (k : ℕ) → window_index w (y * w + x) k ≡ (y + k / 3 - 1) * w + (x + k % 3 - 1)
window_index_lem y h k = rw (digits_div y h, digits_mod y h)

-- sums of the same weights, and of the same weighted samples
module _ (f g : ℕ → ℕ) where
  pub weight_sum_same : (n : ℕ) → ((k : ℕ) → k < n → f k ≡ g k) → weight_sum f n ≡ weight_sum g n
  weight_sum_same zero e = refl
  weight_sum_same (suc n) e = ap₂ ◌+◌ (weight_sum_same n (λ k l. e k (omega arith))) (e n (omega arith))

  pub weighted_sum_same : (s t : ℕ → ℤ) (n : ℕ) → ((k : ℕ) → k < n → pos (f k) *ℤ s k ≡ pos (g k) *ℤ t k) → weighted_sum f s n ≡ weighted_sum g t n
  weighted_sum_same s t zero e = refl
  weighted_sum_same s t (suc n) e = ap₂ ◌+ℤ◌ (weighted_sum_same s t n (λ k l. e k (omega arith))) (e n (omega arith))

-- a sample counts only inside
weighted_same : (b c : Bool) (n : ℕ) (y z : ℤ) → b ≡ c → (T b → y ≡ z) → pos (cond b n 0) *ℤ y ≡ pos (cond c n 0) *ℤ z
weighted_same true c n y z e h = rw (← e) (ap (λ (x : ℤ). pos n *ℤ x) (h tt))
weighted_same false c n y z e h = rw (← e) (zero-*ℤ y ∙ sym (zero-*ℤ z))

-- Two windows: at index i of a picture of size w by h with samples a, and at index j of one of size v by g with samples b. The same positions are
-- inside, and there the samples are the same.
pub record SameWindow (w h i : ℕ) (a : List ℤ) (v g j : ℕ) (b : List ℤ) : Type 0 where
  pub positions : (k : ℕ) → k < 9 → inside w h i k ≡ inside v g j k
  pub samples : (k : ℕ) → k < 9 → T (inside w h i k) → window_sample w a i k ≡ window_sample v b j k

pub mean_same : {w h i : ℕ} {a : List ℤ} {v g j : ℕ} {b : List ℤ} → SameWindow w h i a v g j b → (centre : ℕ) → mean w h centre a i ≡ mean v g centre b j
unfolding mean
mean_same {w} {h} {i} {a} {v} {g} {j} {b} s centre =
    ap₂ rounded_mean
    (weighted_sum_same (weight w h centre i) (weight v g centre j) (window_sample w a i) (window_sample v b j) 9
    (λ k l. weighted_same (inside w h i k) (inside v g j k) (cond (eqb k 4) centre 1) _ _ (s.positions k l) (s.samples k l)))
    (weight_sum_same (weight w h centre i) (weight v g centre j) 9 (λ k l. ap (λ (t : Bool). cond t (cond (eqb k 4) centre 1) 0) (s.positions k l)))
