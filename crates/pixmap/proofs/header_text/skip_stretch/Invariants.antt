use mathlib.Core.Path.{◌≡◌}
use mathlib.Core.Bool.{false}
use lib.ListN.{drop}
use Rattle.stage.specs.Pixmap.{after_stretch}
use Rattle.pixmap.proofs.header_text.skip_stretch.Given as goal

abbrev pub invariant-loop-i : goal.invariant-loop-i
invariant-loop-i l = after_stretch l.inside (drop l.i l.file) ≡ after_stretch false (drop l.at l.file)
