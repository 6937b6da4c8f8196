use mathlib.Core.List.{List}
use mathlib.Core.Path.{◌≡◌, refl, sym, ap, ◌∙◌}
use Prim.Native.Nat.{ℕ, ◌*◌, ◌/◌, ◌%◌, ◌≤◌, ◌<◌, max}
use native.Mathlib.Omega.{arith}
use native.Mathlib.Nat.{mod-lt, zero-mod, zero-mul}
use lib.IntN.{ℤ}
use lib.ListN.{length, length-set}
use Rattle.stage.specs.Estimate.{counted, counted_index, residual, counted_residual}
use Rattle.stage.proofs.Counting.{counted_most, counted_rule}
use Rattle.estimate.specs.Counting.{bin, Countable}
use Rattle.estimate.proofs.Bins.{within_residual, bin_most}
use Rattle.estimate.proofs.Occurrences.{occurrences_none, occurrences_more, counter_le}
use Rattle.estimate.proofs.CountedIndices.{index_is, row_is, column_is, next_column, holds_none, holds_more}
use Rattle.estimate.proofs.residual.count.Goals as goal

-- this turn's index is that of the counted sample, it is inside, and a counter has room for one more
record Turn (a : List ℤ) (j at : ℕ) : Type 0 where
  index : at / 4096 ≡ counted_index (length a) j
  inside : at / 4096 < length a
  room : j < 4096

turn : {w d n every at j : ℕ} {a : List ℤ} → Countable w d a → n ≡ counted (length a) → every ≡ max (length a) 4096 → at ≡ j * every → j < n → Turn a j at
turn {j} {a} p e s i h =
    let t = length a in
    let k : j < counted t = rw e at h in
    let x = index_is t j p.some i s in
    record { index = x; inside = omega (arith, x, ((counted_rule t p.some).inside j).0 k); room = omega (arith, counted_most t) }

-- its counter's number
most : {w d x : ℕ} {a : List ℤ} → Countable w d a → (i : ℕ) → x ≡ bin d (residual w a i) → x ≤ 2 * d
most {w} {d} {a} p i e = rw e (bin_most d _ (within_residual w a i p.range))

pub loop-slot-init : goal.loop-slot-init
loop-slot-init c =
    let e = zero-mul c.max-every.result in
    let row = c.args.width * 4096 in
    record {
      index = sym e;
      column = sym (ap (λ (x : ℕ). x % row) e ∙ zero-mod row);
      long = refl;
      found = holds_none _ _;
      counts = occurrences_none c.requires.counters.zero;
    }

pub bin-x-requires-clause-inside : goal.bin-x-requires-clause-inside
bin-x-requires-clause-inside c =
    let l = c.loop-slot in
    let w = c.args.width in
    let p = c.requires.countable in
    record {
      inside = (turn p c.requires.n_value c.max-every.ensures l.invariant.index c.loop-slot-test.true).inside;
      row = row_is w l.at;
      column = column_is w (l.slot-index * c.max-every.result) p.across l.invariant.index l.invariant.column;
    }

-- there is a counter of that number
pub bounds-counters-x : goal.bounds-counters-x
bounds-counters-x c = omega (arith, most c.requires.countable _ c.bin-x.ensures, c.requires.counters.enough, c.loop-slot.invariant.long)

pub overflow_add-counters : goal.overflow_add-counters
overflow_add-counters c =
    let l = c.loop-slot in
    let t = turn c.requires.countable c.requires.n_value c.max-every.ensures l.invariant.index c.loop-slot-test.true in
    record { fits = omega (arith, counter_le l.invariant.counts c.bin-x.result, t.room) }

pub bounds-counters-x-in-loop-slot : goal.bounds-counters-x-in-loop-slot
bounds-counters-x-in-loop-slot c = omega (arith, most c.requires.countable _ c.bin-x.ensures, c.requires.counters.enough, c.loop-slot.invariant.long)

pub overflow_add-at : goal.overflow_add-at
overflow_add-at c =
    let t = turn c.requires.countable c.requires.n_value c.max-every.ensures c.loop-slot.invariant.index c.loop-slot-test.true in
    record { fits = omega (arith, t.inside, c.requires.countable.most, c.max-every.ensures) }

pub add_modulo-across-requires : goal.add_modulo-across-requires
add_modulo-across-requires c =
    let p = c.requires.countable in
    -- a row in 4096ths is not empty
    let some : 0 < c.args.width * 4096 = omega (arith, p.across) in
    record { m_bound = omega (arith, p.narrow); x_lt_m = (rw c.loop-slot.invariant.column (mod-lt _ some), mod-lt _ some) }

pub loop-slot-preserved : goal.loop-slot-preserved
loop-slot-preserved c =
    let s = c.args in
    let l = c.loop-slot in
    let t = turn c.requires.countable c.requires.n_value c.max-every.ensures l.invariant.index c.loop-slot-test.true in
    let there : c.bin-x.result < length l.counters = omega (arith, most c.requires.countable _ c.bin-x.ensures, c.requires.counters.enough, l.invariant.long) in
    let e : c.bin-x.result ≡ bin s.d (counted_residual s.width s.plane.now l.slot-index) = rw (← t.index) c.bin-x.ensures in
    record {
      index = omega (arith, l.invariant.index);
      column = c.add_modulo-across.ensures ∙ next_column l.slot-index c.max-every.result (s.width * 4096) l.invariant.column;
      long = simp length-set l.invariant.long;
      found = holds_more l.invariant.found e (omega (arith, l.auto.bins));
      counts = occurrences_more l.invariant.counts e there;
    }

pub returns : goal.returns
returns c =
    let l = c.loop-slot in
    let e : l.slot-index ≡ length l.bins = omega (arith, l.auto.bins) in
    record { holds = rw e at l.invariant.found; occurrences = rw e at l.invariant.counts }
