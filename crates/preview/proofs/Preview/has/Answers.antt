use mathlib.Core.Path.{◌∙◌}
use Rattle.preview.specs.Spaces.{HVSCT, YCoCg}
use Rattle.preview.proofs.Found.{same_has}
use Rattle.preview.proofs.Preview.has.Goals as goal

pub returns-in-Hvsct : goal.returns-in-Hvsct
returns-in-Hvsct c =
    let s = c.args.s in
    rw c.in-Hvsct.is (c.equals.ensures ∙ same_has HVSCT _ c.matrix.result s (c.matrix.ensures s c.requires c.floats.ensures))

pub returns-in-Ycocg : goal.returns-in-Ycocg
returns-in-Ycocg c =
    let s = c.args.s in
    rw c.in-Ycocg.is (c.equals-in-Ycocg.ensures ∙ same_has YCoCg _ c.matrix-in-Ycocg.result s (c.matrix-in-Ycocg.ensures s c.requires c.floats-in-Ycocg.ensures))
