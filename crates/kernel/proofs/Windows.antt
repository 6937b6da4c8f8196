-- The definition's window at column x and row y: the weight and the sample of each position.
use Rattle.std.proofs.Common.{◌≡◌, ℕ, zero, suc, ◌+◌, ◌-◌, ◌*◌, ◌/◌, ◌%◌, ◌<◌, ◌≤◌, Bool, true, false, cond, ◌&&◌, eqb, leb, List, get_or, refl, ℤ, pos, ap, ◌∙◌, ap₂, arith, eq-eqb, ne_eqb, le-leb}
use native.Mathlib.Decide.{dec_lt}
use borrow.Author.Tests.{lt-leb}
use lib.Dec.{ltb, ltb→lt, nltb→le}
use Rattle.integers.proofs.Booleans.{true_holds, false_fails}
use lib.Arith.{digits_div, digits_mod}
use Rattle.integers.specs.Lists.{at}
use Rattle.stage.specs.Filter.{weight, window_sample, mean, centre_weights, filtered}
use Rattle.stage.proofs.Windows.{window_index_lem}
use Rattle.kernel.specs.Window.{one_if}

-- r is 1 where n < m, and else 0
pub record Indicator (n m r : ℕ) : Type 0 where
  pub most : r ≤ 1
  pub on : 1 ≤ r → n < m
  pub off : n < m → 1 ≤ r

pub indicator : (n m : ℕ) → Indicator n m (one_if (ltb n m))
indicator n m = go (ltb n m) refl
  where
    go : (b : Bool) → ltb n m ≡ b → Indicator n m (one_if b)
    go true e = record { most = omega arith; on = λ o. ltb→lt n m (true_holds e); off = λ l. omega arith }
    go false e = record { most = omega arith; on = λ o. absurd (omega arith); off = λ l. absurd (omega (arith, nltb→le n m (false_fails e))) }

-- e is 1 where column or row p, counted from 1, is one of n, and else 0
record Present (p n e : ℕ) : Type 0 where
  most : e ≤ 1
  on : 1 ≤ e → (1 ≤ p) × (p ≤ n)
  off : 1 ≤ p → p ≤ n → 1 ≤ e

present_test : {p n e : ℕ} → Present p n e → cond (leb 1 p && leb p n) 1 0 ≡ e
present_test {p} {n} {e} h = go (dec_lt 0 e) (dec_lt 0 p) (dec_lt n p)
  where
    go : Dec (0 < e) → Dec (0 < p) → Dec (n < p) → cond (leb 1 p && leb p n) 1 0 ≡ e
    go (yes s) t u = let i = h.on s in simp (le-leb 1 p i.0, le-leb p n i.1) (omega (arith, h.most))
    go (no s) (no t) u = simp (lt-leb 1 p (omega arith)) (omega arith)
    go (no s) (yes t) (yes u) = simp (le-leb 1 p t, lt-leb p n u) (omega arith)
    go (no s) (yes t) (no u) = absurd (s (h.off t (omega arith)))

-- the three columns or rows about x: before is 1 where there is one below x, after where there is one above
abbrev pub indicator_at : ℕ → ℕ → ℕ → ℕ
indicator_at before after zero = before
indicator_at before after (suc zero) = 1
indicator_at before after (suc (suc j)) = after

indicator_present : (x n before after j : ℕ) → Indicator 0 x before → Indicator (x + 1) n after → x < n → j < 3 → Present (x + j) n (indicator_at before after j)
indicator_present x n before after zero p q l h =
    record { most = p.most; on = λ o. let i = p.on o in (omega arith, omega arith); off = λ i k. p.off (omega arith) }
indicator_present x n before after (suc zero) p q l h = record { most = omega arith; on = λ o. (omega arith, omega arith); off = λ i k. omega arith }
indicator_present x n before after (suc (suc j)) p q l h =
    record { most = q.most; on = λ o. let i = q.on o in (omega arith, omega arith); off = λ i k. q.off (omega arith) }

weight_product : (a b c d : Bool) (v : ℕ) → cond (a && b && c && d) v 0 ≡ cond (a && b) 1 0 * (cond (c && d) 1 0 * v)
weight_product true true true true v = omega arith
weight_product true true true false v = omega arith
weight_product true true false d v = omega arith
weight_product true false c d v = omega arith
weight_product false b c d v = omega arith

-- column x and row y, and which columns and rows beside them there are
pub record Neighbourhood (w h x y left right above below : ℕ) : Type 0 where
  pub column : x < w
  pub row : y < h
  pub on_left : Indicator 0 x left
  pub on_right : Indicator (x + 1) w right
  pub on_top : Indicator 0 y above
  pub at_bottom : Indicator (y + 1) h below

module _ {w h x y left right above below : ℕ} (centre : ℕ) (s : Neighbourhood w h x y left right above below) (k : ℕ) where
  pub window_weight_lem : k < 9 → weight w h centre (y * w + x) k ≡ indicator_at above below (k / 3) * (indicator_at left right (k % 3) * cond (eqb k 4) centre 1)
  window_weight_lem l =
      let v = cond (eqb k 4) centre 1 in
      let p = indicator_present x w left right (k % 3) s.on_left s.on_right s.column (omega arith) in
      let q = indicator_present y h above below (k / 3) s.on_top s.at_bottom s.row (omega arith) in
      rw (digits_div y s.column, digits_mod y s.column)
      (weight_product (leb 1 (y + k / 3)) (leb (y + k / 3) h) (leb 1 (x + k % 3)) (leb (x + k % 3) w) v
      ∙ ap₂ (λ (m n : ℕ). m * (n * v)) (present_test q) (present_test p))

  pub window_sample_lem : (a : List ℤ) → window_sample w a (y * w + x) k ≡ at a ((y + k / 3 - 1) * w + (x + k % 3 - 1))
  window_sample_lem a = ap (at a) (window_index_lem y s.column k)

-- ---- the thirteen filters
module _ (w h filter : ℕ) (a : List ℤ) (i : ℕ) where
  pub filtered_itself : filter ≡ 0 → at a i ≡ filtered w h filter a i
  unfolding filtered
  filtered_itself e = simp (eq-eqb filter 0 e)

  pub filtered_nothing : filter ≡ 12 → pos 0 ≡ filtered w h filter a i
  unfolding filtered
  filtered_nothing e = simp (ne_eqb filter 0 (λ z. omega arith), eq-eqb filter 12 e)

  pub filtered_mean : 1 ≤ filter → filter ≤ 11 → mean w h (get_or centre_weights (filter - 1) 0) a i ≡ filtered w h filter a i
  unfolding filtered
  filtered_mean l m = simp (ne_eqb filter 0 (λ e. omega arith), ne_eqb filter 12 (λ e. omega arith))
