use borrow.Author.Rules.{rules}
use mathlib.Core.Path.{◌≡◌, ap, ◌∙◌}
use Prim.Native.Nat.{ℕ, ◌+◌, ◌*◌, ◌<◌}
use native.Mathlib.Omega.{arith}
use lib.ListN.{length, get_or}
use Rattle.stage.specs.declared.Plane.TheVariants.{C1, C2, C3}
use Rattle.stage.specs.Planes.{Planes}
use Rattle.stage.specs.Steps.{steps, places}
use Rattle.stage.proofs.Choices.{Choices, choices}
use mathlib.Core.Bool.{true, ◌&&◌}
use mathlib.Core.List.{List}
use lib.Dec.{eqb}
use Rattle.stage.specs.declared.Settings.{Settings}
use Rattle.stage.specs.declared.Bands.{Bands}
use Rattle.lifting.specs.BandRows.{BandReady}
use Rattle.lifting.proofs.Table.{told}
use Rattle.lifting.proofs.TransformPasses.{both_equal}
use Rattle.lifting.proofs.BandRows.{band_most, band_set, rows_order, rows_most}
use Rattle.lifting.proofs.StepRows.{pass_rows, quarter_rows}
use Rattle.lifting.proofs.steps.lift_band.Goals as goal

module _ {β : Bands} {s : Settings} {φ : List ℕ} {k b : ℕ} {p : Planes} (r : BandReady β s φ k b p) where
  fit : Choices β s φ
  fit = choices β s φ r.fit.choices

  place : k < places (steps s.transform)
  place = omega (arith, r.fit.last, (told s.transform r.fit.transform).enough)

  -- the choice of a place is there, where a transform has n places
  within : (n j : ℕ) → n ≡ places (steps s.transform) → j < places (steps s.transform) → n * b + j < length φ
  within n j e h = rw (e, fit.count) (band_set β s b j r.fit.bands r.begins h)

  -- RCT's third step, and its second place
  third : (eqb s.transform 0 && eqb k 2) ≡ true → (s.transform ≡ 0) × (k ≡ 2)
  third e = both_equal s.transform k 0 2 e

  second : (eqb s.transform 0 && eqb k 2) ≡ true → 3 < places (steps s.transform)
  second e = rw (third e).0 (omega arith)

  -- the filter of a place
  filter_is : (n j f : ℕ) → n ≡ places (steps s.transform) → f ≡ get_or φ (n * b + j) 0 → f ≡ get_or φ (places (steps s.transform) * b + j) 0
  filter_is n j f e h = h ∙ ap (λ (m : ℕ). get_or φ (m * b + j) 0) e

pub rows_before-from-requires : goal.rows_before-from-requires
rows_before-from-requires c = omega (arith, band_most c.requires)

pub overflow_add-band : goal.overflow_add-band
overflow_add-band c = let m = band_most c.requires in search rules

pub rows_before-to-requires : goal.rows_before-to-requires
rows_before-to-requires c = omega (arith, band_most c.requires)

pub overflow_mul-first : goal.overflow_mul-first
overflow_mul-first c = let m = within c.requires _ _ c.places.ensures (place c.requires) in search rules

pub overflow_add-first : goal.overflow_add-first
overflow_add-first c = let m = within c.requires _ _ c.places.ensures (place c.requires) in search rules

pub filter_at-f-requires : goal.filter_at-f-requires
filter_at-f-requires c = omega (arith, within c.requires _ _ c.places.ensures (place c.requires))

pub overflow_add-first-then-settings-k : goal.overflow_add-first-then-settings-k
overflow_add-first-then-settings-k c =
    let m = within c.requires _ 3 c.places.ensures (second c.requires c.if-settings-k.true) in
    search rules

pub filter_at-g-requires : goal.filter_at-g-requires
filter_at-g-requires c = omega (arith, within c.requires _ 3 c.places.ensures (second c.requires c.if-settings-k.true))

pub lift_quarter-requires : goal.lift_quarter-requires
lift_quarter-requires c =
    let r = c.requires.planes in
    record {
      depth = c.requires.fit.depth;
      first_filter = omega (arith, c.filter_at-f.ensures, (fit c.requires).filters (c.places.result * c.args.band + c.args.k));
      second_filter = omega (arith, c.filter_at-g.ensures, (fit c.requires).filters (c.places.result * c.args.band + 3));
      order = omega (arith, c.rows_before-from.ensures, c.rows_before-to.ensures, rows_order c.requires);
      rows = omega (arith, c.rows_before-to.ensures, rows_most c.requires);
      first_size = r.size C1;
      second_size = r.size C3;
      changed_size = r.size C2;
      first = r.small C1;
      second = r.small C3;
      changed = r.small C2;
    }

pub lift_plane-requires : goal.lift_plane-requires
lift_plane-requires c = record {
  place = place c.requires;
  depth = c.requires.fit.depth;
  filter = omega (arith, c.filter_at-f.ensures, (fit c.requires).filters (c.places.result * c.args.band + c.args.k));
  order = omega (arith, c.rows_before-from.ensures, c.rows_before-to.ensures, rows_order c.requires);
  rows = omega (arith, c.rows_before-to.ensures, rows_most c.requires);
  planes = c.requires.planes;
}

pub returns-then-settings-k-clause-rows : goal.returns-then-settings-k-clause-rows
returns-then-settings-k-clause-rows c =
    quarter_rows c.args.plan.form c.requires c.rows_before-from.ensures c.rows_before-to.ensures _ _ c.args.back (third c.requires c.if-settings-k.true)
    (filter_is c.requires c.places.result c.args.k _ c.places.ensures c.filter_at-f.ensures)
    (filter_is c.requires c.places.result 3 _ c.places.ensures c.filter_at-g.ensures)
    c.lift_quarter.ensures

pub returns-else-settings-k-clause-rows : goal.returns-else-settings-k-clause-rows
returns-else-settings-k-clause-rows c =
    pass_rows c.args.plan.form c.requires c.rows_before-from.ensures c.rows_before-to.ensures _ c.args.back
    (filter_is c.requires c.places.result c.args.k _ c.places.ensures c.filter_at-f.ensures)
    c.if-settings-k.false c.lift_plane.ensures.rows
