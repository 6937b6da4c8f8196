-- The text of one number more.
use mathlib.Core.Path.{◌≡◌, sym, ap, ◌∙◌}
use mathlib.Core.List.{List, [], ◌∷◌, ◌++◌, append_assoc, append-nil}
use Prim.Native.Nat.{ℕ, zero, suc, ◌<◌}
use native.Mathlib.Numerals.{add-one}
use lib.IntN.{ℤ, pos}
use lib.ListN.{length, take, get_or}
use Rattle.std.proofs.Common.{arith, rules}
use Rattle.std.proofs.Output.{has_written_append, has_written_of_eq}
use Rattle.std.specs.Fmt.{signed_decimal}
use Rattle.case_text.specs.Lines.{numbers_text}
use Rattle.case_text.proofs.NumbersTextDisplay.fmt.Goals as goal

one_more : (l : List ℤ) (k : ℕ) → k < length l → numbers_text (take (suc k) l) ≡ numbers_text (take k l) ++ (32 ∷ signed_decimal (get_or l k (pos 0)))
one_more [] k h = absurd (omega arith)
one_more (z ∷ l) zero h = append-nil (32 ∷ signed_decimal z)
one_more (z ∷ l) (suc k) h =
    let x = 32 ∷ signed_decimal z in
    ap (λ (t : List ℕ). x ++ t) (one_more l k (omega arith)) ∙ sym (append_assoc x (numbers_text (take k l)) _)

pub loop-z-preserved : goal.loop-z-preserved
loop-z-preserved g c = λ p.
    let e = one_more c.args.self.now.0.now c.loop-z.z-index (omega arith) in
    rw add-one (has_written_of_eq _ _ _ _ _ (sym e) (has_written_append _ _ _ _ _ _ (c.loop-z.invariant p) (search rules)))
