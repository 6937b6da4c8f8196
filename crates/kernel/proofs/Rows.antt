-- A row of a picture, by columns that have the same neighbours: its first sample, those between, and its last.
use Rattle.std.proofs.Common.{◌≡◌, ℕ, zero, suc, ◌+◌, ◌-◌, ◌*◌, ◌<◌, ◌≤◌, List, ℤ, refl, ap, mul-le-mul_right, add-mul, arith}
use Rattle.integers.proofs.Changes.{changed_as}
use Rattle.stage.specs.Filter.{mean}
use Rattle.kernel.specs.Pass.{KeptPass, applied}
use Rattle.kernel.specs.Lifting.{MeanRow, Segment, Lifted}
use Rattle.kernel.specs.Window.{MeanWindows, window_mean}
use Rattle.kernel.specs.declared.centre.Centre.{Centre}
use Rattle.kernel.proofs.Windows.{Indicator, Neighbourhood}
use Rattle.kernel.proofs.Borders.{window_mean_lem}
use Rattle.kernel.proofs.Segments.{segment_rest, Progress, progress_join}

present : {n m : ℕ} → n < m → Indicator n m 1
present l = record { most = omega arith; on = λ o. l; off = λ p. omega arith }

absent : {n m : ℕ} → m ≤ n → Indicator n m 0
absent l = record { most = omega arith; on = λ o. omega arith; off = λ p. omega arith }

-- columns i to j − 1: each has a left neighbour where left is 1, and else none, and so on the right
pub record ColumnBounds (w left right i j : ℕ) : Type 0 where
  pub most_left : left ≤ 1
  pub most_right : right ≤ 1
  pub first : left ≤ i
  pub last : j + right ≤ w
  pub order : i ≤ j

pub record Columns (w left right i j : ℕ) : Type 0 where
  pub bounds : ColumnBounds w left right i j
  pub on_left : (x : ℕ) → i ≤ x → x < j → Indicator 0 x left
  pub on_right : (x : ℕ) → i ≤ x → x < j → Indicator (x + 1) w right

module _ {w : ℕ} (l : 1 < w) where
  pub first_column : Columns w 0 1 0 1
  first_column = record { bounds = omega arith; on_left = λ x p q. absent (omega arith); on_right = λ x p q. present (omega arith) }

  pub inner_columns : Columns w 1 1 1 (w - 1)
  inner_columns = record { bounds = omega arith; on_left = λ x p q. present (omega arith); on_right = λ x p q. present (omega arith) }

  pub last_column : Columns w 1 0 (w - 1) w
  last_column = record { bounds = omega arith; on_left = λ x p q. present (omega arith); on_right = λ x p q. absent (omega arith) }

pub only_column : {w : ℕ} → w ≡ 1 → Columns w 0 0 0 1
only_column l = record { bounds = omega arith; on_left = λ x p q. absent (omega arith); on_right = λ x p q. absent (omega arith) }

-- an indicator times a number
pub times_below : (b n m : ℕ) → b ≤ 1 → (1 ≤ b → n ≤ m) → b * n ≤ m
times_below zero n m l f = omega arith
times_below (suc b) n m l f = let e : suc b ≡ 1 = omega arith in rw e (omega (arith, f (omega arith)))

-- row y, with a row above and below it or not
pub record RowNeighbourhood (centre : Centre) (w h y : ℕ) (p : KeptPass) (above below : ℕ) (a c : List ℤ) : Type 0 where
  pub mean_row : MeanRow centre w h y p a c
  pub on_top : Indicator 0 y above
  pub at_bottom : Indicator (y + 1) h below

module _ {centre : Centre} {w h y : ℕ} {p : KeptPass} {above below : ℕ} {a c : List ℤ} (row : RowNeighbourhood centre w h y p above below a c) where
  module _ {left right i j : ℕ} (columns : Columns w left right i j) {m n : ℕ} (from : m ≡ y * w + i) (to : n ≡ y * w + j) {before : List ℤ} (u : Progress p (mean w h centre.weight a) (y * w) (y * w + w) m c before) where
    -- the columns before these are done, and these are ready
    pub columns_ready : Segment (λ k. MeanWindows centre w left right above below k (k + 1) a) p m n before
    columns_ready =
        let r = row.mean_row in
        let b = columns.bounds in
        let above_most = times_below above w (y * w) row.on_top.most (λ o. let q = mul-le-mul_right w (row.on_top.on o) in omega arith) in
        let below-most =
        times_below below w (w * h - y * w - w) row.at_bottom.most
        (λ o. let q = mul-le-mul_right w (row.at_bottom.on o) in let e = add-mul y 2 w in omega arith) in
        let inside = mul-le-mul_right w r.row in
        segment_rest r.segment u.done
        (λ k x y. record { windows = record { inside = omega arith; samples = r.read }; weights = r.weights })
        (omega arith) (omega arith) (omega arith)

    -- these are done too
    pub columns_done : {after : List ℤ} → Lifted p (window_mean w left right above below centre.weight a) m n before after → Progress p (mean w h centre.weight a) (y * w) (y * w + w) n c after
    columns_done v =
        let b = columns.bounds in
        progress_join u (omega arith) (omega arith)
        (changed_as m n v refl refl
        (λ k z q r. ap (applied p z) (window_mean_lem (beside k q r) (omega arith) centre.weight a row.mean_row.weights.least)))
      where
        beside : (k : ℕ) → m ≤ k → k < n → Neighbourhood w h (k - y * w) y left right above below
        beside k q r =
            let b = columns.bounds in
            record {
              column = omega arith;
              row = row.mean_row.row;
              on_left = columns.on_left (k - y * w) (omega arith) (omega arith);
              on_right = columns.on_right (k - y * w) (omega arith) (omega arith);
              on_top = row.on_top;
              at_bottom = row.at_bottom;
            }
