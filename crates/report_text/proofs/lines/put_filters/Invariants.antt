use Rattle.std.proofs.Common.{◌≡◌, drop}
use Rattle.report_text.specs.Text.{separated}
use Rattle.text.proofs.Written.{Remains}
use Rattle.report_text.proofs.lines.put_filters.Given as goal

abbrev pub invariant-loop-filter : goal.invariant-loop-filter
invariant-loop-filter l =
    (l.to.text.ghost_name ≡ l.fn.to.text.ghost_name)
    × Remains l.fn.to.text.now l.fn.to.at (separated 32 l.filters) l.to.text.now l.to.at (separated l.separator (drop l.filter-index l.filters))
