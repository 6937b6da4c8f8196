-- The window around a spot of a part: what of it is inside the picture is inside the part, and each filtered value is the same in two pictures that
-- share the part, at every spot with a margin as wide as the filter's radius asks for.
use mathlib.Core.Path.{◌≡◌, refl, ap, sym, ◌∙◌}
use mathlib.Core.Bool.{Bool, true, false, cond, ◌&&◌, ◌||◌}
use mathlib.Core.Logic.{◌↔◌}
use mathlib.Core.List.{List}
use Prim.Native.Nat.{ℕ, suc, ◌+◌, ◌*◌, ◌-◌, ◌/◌, ◌%◌, ◌≤◌, ◌<◌}
use native.Mathlib.Decide.{dec_lt}
use native.Mathlib.Nat.{mul-le-mul_right}
use native.Mathlib.Omega.{arith}
use lib.Arith.{digits_div, digits_mod}
use lib.Dec.{T, leb, leb→le, le→leb, eqb}
use lib.IntN.{ℤ, pos}
use lib.ListN.{get_or}
use Rattle.integers.specs.Lists.{at}
use Rattle.integers.proofs.Booleans.{and_iff, same_test}
use Rattle.stage.specs.Filter.{inside, window_sample, mean, centre_weights, filtered}
use Rattle.stage.specs.Steps.{Setup}
use Rattle.stage.proofs.Windows.{window_index_lem, SameWindow, mean_same}
use Rattle.locality.specs.Reach.{radius}
use Rattle.locality.specs.Parts.{Corner, index, Margin, Fits, SpotMargin, SameWithMargin}

-- ---- one line
-- position p, counted from 1, is one of n
record InLine (n p : ℕ) : Type 0 where
  low : 1 ≤ p
  high : p ≤ n

margin_lesser : {d e x a u n : ℕ} → d ≤ e → Margin e x a u n → Margin d x a u n
margin_lesser l h = record { here = h.here; before = λ t. omega (arith, h.before t); behind = λ t. omega (arith, h.behind t) }

-- around a pixel with a margin of suc d in a part of u pixels: position j of three
module _ {d x a u n : ℕ} (f : a + u ≤ n) (h : Margin (suc d) x a u n) (j : ℕ) (l : j < 3) where
  -- what is in the line is in the part, and what is in the part is in the line
  in_part : InLine n (a + x + j) → InLine u (x + j)
  in_part i = record { low = low (dec_lt 0 a); high = high (dec_lt (a + u) n) }
    where
      low : Dec (0 < a) → 1 ≤ x + j
      low (yes t) = omega (arith, h.before t)
      low (no t) = omega arith

      high : Dec (a + u < n) → x + j ≤ u
      high (yes t) = omega (arith, h.behind t)
      high (no t) = omega arith

  in_line : InLine u (x + j) → InLine n (a + x + j)
  in_line i = record { low = omega arith; high = omega arith }

  -- and there it has a margin of d
  beside_margin : InLine u (x + j) → Margin d (x + j - 1) a u n
  beside_margin i = record { here = omega arith; before = λ t. omega (arith, h.before t); behind = λ t. omega (arith, h.behind t) }

-- ---- a spot of the part
module _ {u v : ℕ} {σ : Setup} {a : Corner} where
  pub spot_lesser : {d e x y : ℕ} → d ≤ e → SpotMargin u v σ a e x y → SpotMargin u v σ a d x y
  spot_lesser l h = record { column = margin_lesser l h.column; row = margin_lesser l h.row }

  -- it is a pixel of the picture
  pub spot_below : {d x y : ℕ} → Fits u v σ a → SpotMargin u v σ a d x y → index σ a x y < σ.width * σ.height
  spot_below {y = y} f h = omega (arith, mul-le-mul_right {m = suc (a.top + y)} {n = σ.height} σ.width (omega arith))

-- ---- the window around it: position k
abbrev InPart : (u v x y k : ℕ) → Type 0
InPart u v x y k = InLine v (y + k / 3) × InLine u (x + k % 3)

-- the test of a position in row r and column c, both counted from 1
inside_iff : (w h r c : ℕ) → T (leb 1 r && leb r h && leb 1 c && leb c w) ↔ (InLine h r × InLine w c)
inside_iff w h r c =
    let three = and_iff (leb 1 r && leb r h && leb 1 c) (leb c w) in
    let two = and_iff (leb 1 r && leb r h) (leb 1 c) in
    let one = and_iff (leb 1 r) (leb r h) in (
      λ t.
          let p = three.0 t in
          let q = two.0 p.0 in
          let s = one.0 q.0 in
          (record { low = leb→le 1 r s.0; high = leb→le r h s.1 }, record { low = leb→le 1 c q.1; high = leb→le c w p.1 }),
      λ i. three.1 (two.1 (one.1 (le→leb 1 r i.0.low, le→leb r h i.0.high), le→leb 1 c i.1.low), le→leb c w i.1.high),
    )

module _ {u v : ℕ} {σ : Setup} {a : Corner} (f : Fits u v σ a) {d x y : ℕ} (h : SpotMargin u v σ a (suc d) x y) (k : ℕ) (l : k < 9) where
  column : a.left + x < σ.width
  column = omega (arith, h.column.here, f.columns)

  -- what of it is inside the picture is in the part
  window_inside : T (inside σ.width σ.height (index σ a x y) k) ↔ InPart u v x y k
  window_inside =
      let e = inside_iff σ.width σ.height (a.top + y + k / 3) (a.left + x + k % 3) in
      rw (digits_div (a.top + y) column, digits_mod (a.top + y) column) (
        λ t. (in_part f.rows h.row (k / 3) (omega arith) (e.0 t).0, in_part f.columns h.column (k % 3) (omega arith) (e.0 t).1),
        λ i. e.1 (in_line f.rows h.row (k / 3) (omega arith) i.0, in_line f.columns h.column (k % 3) (omega arith) i.1),
      )

  -- it is a spot of the part, with a margin of d
  module _ (i : InPart u v x y k) where
    window_sample_lem : (m : List ℤ) → window_sample σ.width m (index σ a x y) k ≡ at m (index σ a (x + k % 3 - 1) (y + k / 3 - 1))
    window_sample_lem m =
        let r : a.top + y + k / 3 - 1 ≡ a.top + (y + k / 3 - 1) = omega (arith, i.0.low) in
        let c : a.left + x + k % 3 - 1 ≡ a.left + (x + k % 3 - 1) = omega (arith, i.1.low) in
        ap (at m) (window_index_lem (a.top + y) column k ∙ (λ o. r o * σ.width + c o))

    window_margin : SpotMargin u v σ a d (x + k % 3 - 1) (y + k / 3 - 1)
    window_margin = record {
      column = beside_margin f.columns h.column (k % 3) (omega arith) i.1;
      row = beside_margin f.rows h.row (k / 3) (omega arith) i.0;
    }

-- ---- two pictures with numbers that are the same where the margin is d
module _ {u v : ℕ} {σ τ : Setup} {a b : Corner} (f : Fits u v σ a) (g : Fits u v τ b) {d : ℕ} (m n : List ℤ) (same : SameWithMargin u v σ τ a b d m n) {x y : ℕ} where
  window_same : SpotMargin u v σ a (suc d) x y → SpotMargin u v τ b (suc d) x y → SameWindow σ.width σ.height (index σ a x y) m τ.width τ.height (index τ b x y) n
  window_same h k = record {
    positions = λ z l. same_test _ _ (window_inside f h z l) (window_inside g k z l);
    samples = λ z l t.
        let i = (window_inside f h z l).0 t in
        window_sample_lem f h z l i m
        ∙ same (x + z % 3 - 1) (y + z / 3 - 1) (window_margin f h z l i) (window_margin g k z l i)
        ∙ sym (window_sample_lem g k z l i n);
  }

  -- a filtered value is the same where it is wider by the filter's radius
  pub filtered_same : (φ e : ℕ) → radius φ ≤ e → SpotMargin u v σ a (d + e) x y → SpotMargin u v τ b (d + e) x y
      → filtered σ.width σ.height φ m (index σ a x y) ≡ filtered τ.width τ.height φ n (index τ b x y)
  unfolding filtered
  filtered_same φ e l h k = by (eqb φ 0) (eqb φ 12) l
    where
      by : (none null : Bool) → cond (none || null) 0 1 ≤ e
          → cond none (at m (index σ a x y)) (cond null (pos 0) (mean σ.width σ.height (get_or centre_weights (φ - 1) 0) m (index σ a x y)))
          ≡ cond none (at n (index τ b x y)) (cond null (pos 0) (mean τ.width τ.height (get_or centre_weights (φ - 1) 0) n (index τ b x y)))
      by true null o = same x y (spot_lesser (omega arith) h) (spot_lesser (omega arith) k)
      by false true o = refl
      by false false o = mean_same (window_same (spot_lesser (omega arith) h) (spot_lesser (omega arith) k)) _
