use borrow.Author.Rules.{rules}
use native.Mathlib.Omega.{arith}
use lib.IntN.{pos}
use lib.ListN.{length-set}
use Rattle.search.proofs.Copied.{copied_none, copied_more, copied_all}
use Rattle.search.proofs.scratch.copy_plane.Goals as goal

pub loop-i-init : goal.loop-i-init
loop-i-init c = (search rules, search rules, copied_none (pos 0) _ _ c.requires)

pub loop-i-preserved : goal.loop-i-preserved
loop-i-preserved c =
    let l = c.loop-i in
    (l.invariant.0, simp length-set l.invariant.1, copied_more (pos 0) _ l.invariant.2 (omega arith) (search rules))

pub shape_of-target : goal.shape_of-target
shape_of-target c = c.loop-i.invariant.1

pub returns : goal.returns
returns c = copied_all (pos 0) c.loop-i.invariant.2 (omega arith)
