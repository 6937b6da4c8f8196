use mathlib.Core.Path.{refl, ap}
use mathlib.Core.List.{List}
use Prim.Native.Nat.{ℕ, ◌*◌, ◌≤◌, ◌<◌}
use native.Mathlib.Omega.{arith}
use lib.ListN.{length, get_or, length-append}
use Rattle.report_text.specs.Text.{separated}
use Rattle.std.proofs.Common.{◌∙◌}
use Rattle.report_text.proofs.Filters.{separated_more, separated_none, separated_short}
use Rattle.text.proofs.Written.{remains_all, remains_less, remains_none, remains_long}
use Rattle.report_text.proofs.lines.put_filters.Goals as goal

-- bytes have few digits
short : (l : List ℕ) → ((i : ℕ) → get_or l i 0 < 256) → length (separated 32 l) ≤ 4 * length l
short l h = separated_short 32 l h

pub loop-filter-init : goal.loop-filter-init
loop-filter-init c = (refl, remains_all)

pub put_field-requires : goal.put_field-requires
put_field-requires c =
    let h : c.loop-filter.filter-index < length c.args.filters.now = omega arith in
    let e = simp length-append at (ap length (separated_more c.loop-filter.separator c.args.filters.now c.loop-filter.filter-index h)) in
    omega (arith, short c.args.filters.now (λ i. omega (arith, c.type_inv.filters i)), c.requires, c.loop-filter.invariant.1.end_is, remains_long c.loop-filter.invariant.1, e)

pub loop-filter-preserved : goal.loop-filter-preserved
loop-filter-preserved c =
    let h : c.loop-filter.filter-index < length c.args.filters.now = omega arith in (
      c.put_field.ensures.same ∙ c.loop-filter.invariant.0,
      remains_less _ (rw (separated_more c.loop-filter.separator c.args.filters.now c.loop-filter.filter-index h) at c.loop-filter.invariant.1) c.put_field.ensures.written,
    )

pub returns-clause-same : goal.returns-clause-same
returns-clause-same c = c.loop-filter.invariant.0

pub returns-clause-written : goal.returns-clause-written
returns-clause-written c =
    let h : length c.args.filters.now ≤ c.loop-filter.filter-index = omega arith in
    let w = remains_none (rw (separated_none c.loop-filter.separator c.args.filters.now c.loop-filter.filter-index h) at c.loop-filter.invariant.1) in
    record { written = w; fits = omega (arith, short c.args.filters.now (λ i. omega (arith, c.type_inv.filters i)), w.end_is) }
