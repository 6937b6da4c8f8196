-- From i on the piece remains to be written.
use mathlib.Core.Path.{◌∙◌}
use Prim.Native.Nat.{suc, ◌≤◌, ◌<◌}
use native.Mathlib.Omega.{arith}
use native.Mathlib.Numerals.{add-one}
use lib.ListN.{length, drop, length-drop, drop_of_length-le}
use lib.Seq.{drop-cons}
use Rattle.text.proofs.Written.{remains_less, remains_none, remains_long}
use Rattle.text.proofs.writing.Writer.put_bytes.Goals as goal

pub put_byte-requires : goal.put_byte-requires
put_byte-requires c =
    let v = c.loop-i.invariant in
    omega (arith, v.written.end_is, remains_long v.written, length-drop c.loop-i.i c.args.piece.now)

pub loop-i-preserved : goal.loop-i-preserved
loop-i-preserved c =
    let p = c.args.piece.now in
    let l = c.loop-i in
    let h : l.i < length p = omega arith in
    record {
      within = omega arith;
      same = c.put_byte.ensures.same ∙ l.invariant.same;
      written = rw add-one (remains_less (drop (suc l.i) p) (rw (drop-cons p l.i 0) at l.invariant.written) c.put_byte.ensures.written);
    }

pub returns-clause-written : goal.returns-clause-written
returns-clause-written c =
    let p = c.args.piece.now in
    let l = c.loop-i in
    let h : length p ≤ l.i = omega arith in
    remains_none (rw (drop_of_length-le p h) at l.invariant.written)
