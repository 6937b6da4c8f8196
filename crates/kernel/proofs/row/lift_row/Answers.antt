use Rattle.std.proofs.Common.{◌≡◌, ℕ, ◌+◌, ◌-◌, ◌*◌, ◌<◌, Bool, true, false, List, ℤ, arith}
use lib.Dec.{ltb}
use Rattle.integers.proofs.Changes.{changed_none}
use Rattle.stage.specs.Filter.{mean}
use Rattle.kernel.specs.Pass.{KeptPass}
use Rattle.kernel.specs.Lifting.{MeanRow, MeanSegment, Lifted}
use Rattle.kernel.specs.Window.{one_if, border_mean}
use Rattle.kernel.specs.declared.centre.Centre.{Centre}
use Rattle.kernel.specs.declared.window.Border.{Border}
use Rattle.kernel.proofs.Windows.{indicator}
use Rattle.kernel.proofs.Rows.{RowNeighbourhood, first_column, inner_columns, last_column, only_column, columns_ready, columns_done}
use Rattle.kernel.proofs.Segments.{Progress, progress_none, progress_all}
use Rattle.kernel.proofs.row.lift_row.Goals as goal

module _ {centre : Centre} {w h y : ℕ} {p : KeptPass} {a c : List ℤ} (r : MeanRow centre w h y p a c) where
  row : RowNeighbourhood centre w h y p (one_if (ltb 0 y)) (one_if (ltb (y + 1) h)) a c
  row = record { mean_row = r; on_top = indicator 0 y; at_bottom = indicator (y + 1) h }

  -- its windows
  abbrev window : (left right : Bool) → Border
  window left right = record { width = w; centre = centre; left = left; right = right; above = ltb 0 y; below = ltb (y + 1) h }

  -- it is done up to index k
  abbrev Done : ℕ → List ℤ → Type 0
  Done k after = Progress p (mean w h centre.weight a) (y * w) (y * w + w) k c after

  none : Done (y * w) c
  none = progress_none (omega arith)

  module _ (l : 1 < w) where
    first_ready : MeanSegment (window false true) p (y * w) (y * w + 1) a c
    first_ready = columns_ready row (first_column l) (omega arith) (omega arith) none

    first_done : {d : List ℤ} → Lifted p (border_mean (window false true) a) (y * w) (y * w + 1) c d → Done (y * w + 1) d
    first_done u = columns_done row (first_column l) (omega arith) (omega arith) none u

    inner_ready : {d : List ℤ} → Done (y * w + 1) d → MeanSegment (window true true) p (y * w + 1) (y * w + w - 1) a d
    inner_ready d = columns_ready row (inner_columns l) (omega arith) (omega arith) d

    inner_done : {d e : List ℤ} → Done (y * w + 1) d → Lifted p (border_mean (window true true) a) (y * w + 1) (y * w + w - 1) d e → Done (y * w + w - 1) e
    inner_done d u = columns_done row (inner_columns l) (omega arith) (omega arith) d u

    last_ready : {d : List ℤ} → Done (y * w + w - 1) d → MeanSegment (window true false) p (y * w + w - 1) (y * w + w - 1 + 1) a d
    last_ready d = columns_ready row (last_column l) (omega arith) (omega arith) d

    last_done : {d e : List ℤ} → Done (y * w + w - 1) d → Lifted p (border_mean (window true false) a) (y * w + w - 1) (y * w + w - 1 + 1) d e → Done (y * w + w - 1 + 1) e
    last_done d u = columns_done row (last_column l) (omega arith) (omega arith) d u

  only_ready : w ≡ 1 → MeanSegment (window false false) p (y * w) (y * w + 1) a c
  only_ready e = columns_ready row (only_column e) (omega arith) (omega arith) none

  only_done : {d : List ℤ} → w ≡ 1 → Lifted p (border_mean (window false false) a) (y * w) (y * w + 1) c d → Done (y * w + 1) d
  only_done e u = columns_done row (only_column e) (omega arith) (omega arith) none u

pub lift_each-requires : goal.lift_each-requires
lift_each-requires c = first_ready c.requires c.if-width-gt1.true

pub lift_between_ends-requires : goal.lift_between_ends-requires
lift_between_ends-requires c = let l = c.if-width-gt1.true in inner_ready c.requires l (first_done c.requires l c.lift_each.ensures)

pub lift_each-requires-then-width-gt1 : goal.lift_each-requires-then-width-gt1
lift_each-requires-then-width-gt1 c =
    let l = c.if-width-gt1.true in
    last_ready c.requires l (inner_done c.requires l (first_done c.requires l c.lift_each.ensures) c.lift_between_ends.ensures)

pub lift_each-requires-then-width-eq1 : goal.lift_each-requires-then-width-eq1
lift_each-requires-then-width-eq1 c = only_ready c.requires c.if-width-eq1.true

pub returns-then-width-gt1 : goal.returns-then-width-gt1
returns-then-width-gt1 c =
    let l = c.if-width-gt1.true in
    let u = inner_done c.requires l (first_done c.requires l c.lift_each.ensures) c.lift_between_ends.ensures in
    progress_all (last_done c.requires l u c.lift_each-then-width-gt1.ensures) (omega arith)

pub returns-then-width-eq1 : goal.returns-then-width-eq1
returns-then-width-eq1 c = progress_all (only_done c.requires c.if-width-eq1.true c.lift_each-then-width-eq1.ensures) (omega arith)

pub returns-else-width-eq1 : goal.returns-else-width-eq1
returns-else-width-eq1 c =
    let e : c.args.width ≡ 0 = omega (arith, c.if-width-gt1.false, c.if-width-eq1.false) in
    changed_none _ _ (omega arith)
