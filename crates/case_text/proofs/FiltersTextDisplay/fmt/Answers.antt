-- One filter more is written, and the rest is one shorter.
use mathlib.Core.Path.{◌≡◌, sym, ap, ◌∙◌}
use mathlib.Core.List.{List, [], ◌∷◌, ◌++◌, append_assoc}
use Prim.Native.Nat.{ℕ, suc, ◌+◌, ◌<◌}
use native.Mathlib.Numerals.{add-one}
use lib.ListN.{length, get_or, drop}
use Rattle.std.proofs.Common.{arith, rules, drop-cons}
use Rattle.std.proofs.Output.{has_written_append}
use Rattle.std.specs.Fmt.{decimal}
use Rattle.case_text.specs.Lines.{separated}
use Rattle.case_text.proofs.FiltersTextDisplay.fmt.Goals as goal

joined : (w s d r : List ℕ) → (w ++ (s ++ d)) ++ r ≡ w ++ (s ++ (d ++ r))
joined w s d r = append_assoc w (s ++ d) r ∙ ap (λ (t : List ℕ). w ++ t) (append_assoc s d r)

shorter : (w s l : List ℕ) (i : ℕ) → i < length l
    → (w ++ (s ++ decimal (get_or l i 0))) ++ separated (44 ∷ []) (drop (i + 1) l) ≡ w ++ separated s (drop i l)
shorter w s l i h =
    rw add-one
    (joined w s (decimal (get_or l i 0)) (separated (44 ∷ []) (drop (suc i) l))
    ∙ ap (λ (t : List ℕ). w ++ separated s t) (sym (drop-cons l i 0 h)))

pub loop-filter-preserved : goal.loop-filter-preserved
loop-filter-preserved g c = (
  search rules,
  λ p.
      let q = c.loop-filter.invariant.1 p in
      let l = c.args.self.now.0.now in
      let i = c.loop-filter.filter-index in
      let s = c.loop-filter.separator.now in
      (q.0 ++ (s ++ decimal (get_or l i 0)), shorter q.0 s l i (omega arith) ∙ q.1, has_written_append _ _ _ _ _ _ q.2 (search rules)),
)
