use mathlib.Core.Path.{◌≡◌}
use Prim.Native.Nat.{◌-◌, ◌≤◌}
use lib.ListN.{length, drop}
use Rattle.text.proofs.Written.{Remains}
use Rattle.text.proofs.writing.Writer.put_bytes.Given as goal

abbrev pub invariant-loop-i : goal.invariant-loop-i
invariant-loop-i l =
    record {
      within : l.i ≤ length l.piece;
      same : l.self.text.ghost_name ≡ l.initial.self.text.ghost_name;
      written : Remains l.initial.self.text.now l.initial.self.at l.piece l.self.text.now l.self.at (drop l.i l.piece);
    }

abbrev pub decreases-loop-i : goal.decreases-loop-i
decreases-loop-i l = length l.piece - l.i
