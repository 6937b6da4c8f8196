use mathlib.Core.Path.{◌≡◌}
use mathlib.Core.List.{map}
use lib.ListN.{drop}
use Rattle.stage.specs.Graymap.{less_lowest}
use Rattle.text.proofs.Written.{Remains}
use Rattle.raster.proofs.writing.put_all.Given as goal

abbrev pub invariant-loop-z : goal.invariant-loop-z
invariant-loop-z g l =
    record {
      same : l.to.text.ghost_name ≡ l.initial.to.text.ghost_name;
      written : Remains l.initial.to.text.now l.initial.to.at (g.T.Sample.bytes (map (less_lowest l.range) l.samples))
          l.to.text.now l.to.at (g.T.Sample.bytes (map (less_lowest l.range) (drop l.z-index l.samples)));
    }
