-- The test of all bits is the test of each number. The invariant: the whole test is that of the bits so far and the test of the rest.
use borrow.Author.Rules.{rules}
use mathlib.Core.Path.{sym, ◌∙◌}
use native.Mathlib.Omega.{arith}
use Prim.Native.Nat.{◌-◌, ◌^◌}
use lib.Dec.{ltb, lt→ltb}
use lib.Pow.{pow_pos}
use mir.Syntax.{w32}
use mir.Val.{SFits, of_z}
use lib.Bits.{bit_or}
use Rattle.std.proofs.lemmas.Int.{of_z-to_z}
use Rattle.std.proofs.lemmas.Nat.{or_lt}
use mir.Facts.{Fits-of_z}
use Rattle.integers.specs.Lists.{at}
use Rattle.integers.proofs.Booleans.{holds_true}
use Rattle.integers.proofs.Tests.{all_within_more, all_within_end, union_test, bits_test, shift_test}
use Rattle.integers.proofs.all_fit.Goals as goal

pub loop-z-init : goal.loop-z-init
loop-z-init c = let k = c.args.bits in (rw (holds_true (ltb 0 (2 ^ k)) (lt→ltb 0 (2 ^ k) (pow_pos k))))

pub loop-z-preserved : goal.loop-z-preserved
loop-z-preserved c =
    let s = c.args in
    let l = c.loop-z in
    let a = s.plane.now in
    let m = 2 ^ s.bits in
    let v = of_z w32 (at a l.z-index) in
    let f : SFits w32 (at a l.z-index) = search rules in
    let e = bits_test s.bits (at a l.z-index) (omega arith) f in
    let before = of_z-to_z w32 l.union-bits l.auto.union-fits.fits in
    let after = of_z-to_z w32 (bit_or l.union-bits v) (or_lt 32 l.union-bits v l.auto.union-fits.fits (Fits-of_z f).fits) in
    let i = rw before at l.invariant in
    (rw (after, union_test s.bits l.union-bits v) (i ∙ all_within_more 0 (m - 1) a l.z-index (ltb l.union-bits m) (ltb v m) (omega arith) e))

pub returns : goal.returns
returns c =
    let s = c.args in
    let l = c.loop-z in
    let m = 2 ^ s.bits in
    let i = rw (of_z-to_z w32 l.union-bits l.auto.union-fits.fits) at l.invariant in
    shift_test s.bits l.union-bits (omega arith)
    ∙ sym (i ∙ all_within_end 0 (m - 1) s.plane.now l.z-index (ltb l.union-bits m) (omega arith))
