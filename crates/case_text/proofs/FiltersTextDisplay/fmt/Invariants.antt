use mathlib.Core.Path.{◌≡◌}
use mathlib.Core.List.{List, ◌++◌}
use Prim.Native.Nat.{ℕ}
use denote.Text.{Utf8}
use denote.Shadow.{shadow}
use Rattle.std.proofs.Common.{drop}
use Rattle.std.specs.Fmt.{HasWritten, IsPlainFormatter}
use Rattle.case_text.specs.Lines.{separated}
use Rattle.std.specs.Prelude.{codes}
use Rattle.case_text.proofs.FiltersTextDisplay.fmt.Given as goal

-- what is written, with what the rest gives behind this separator, is the whole
abbrev pub invariant-loop-filter : goal.invariant-loop-filter
invariant-loop-filter g l =
    shadow (Utf8 l.separator)
    × (IsPlainFormatter l.initial.f
    → (w : List ℕ) × (w ++ separated l.separator (drop l.filter-index l.filter-items) ≡ separated (codes " ") l.filter-items)
    × HasWritten g.W.Write.write_str_gives l.initial.f w l.f)
