-- The call that reads agrees with the reader of graymaps, and so with the grammar.
use mathlib.Core.Path.{◌≡◌, refl, sym, ap, subst, ◌∙◌}
use mathlib.Core.Bool.{Bool, true, false, cond}
use mathlib.Core.Logic.{◌↔◌}
use mathlib.Core.List.{List, [], ◌∷◌, ◌++◌}
use Prim.Native.Nat.{ℕ, zero, suc, ◌*◌, ◌≤◌}
use native.Mathlib.Omega.{arith}
use lib.Dec.{eqb}
use lib.IntN.{ℤ}
use lib.ListN.{length}
use borrow.Author.Tests.{eqb-true, ne_eqb}
use Rattle.stage.specs.Settings.{Depths}
use Rattle.stage.specs.declared.Kind.{Kind}
use Rattle.stage.specs.declared.Kind.TheVariants.{Graymap}
use Rattle.stage.specs.declared.Range.{Range}
use Rattle.stage.specs.declared.Size.{Size}
use Rattle.stage.specs.Answers.{Reply, done, refused, Test, ◌else◌, refusal, reply_by, number, Outcome}
use Rattle.stage.specs.Ranges.{extent, within_range}
use Rattle.stage.specs.Pixmap.{HeaderText, header_text, file_tests, file_of}
use Rattle.stage.specs.Grammar.{IsFile}
use Rattle.stage.specs.Graymap.{plane_range, plane_tests, raster_plane, graymap_read}
use Rattle.stage.proofs.Answers.{refusal_holds, holds_refusal, refusal_past, refusal_first, holds_append, done_refusal}
use Rattle.pixmap.proofs.Refusals.{is_taken}
use Rattle.pixmap.proofs.RefusedFiles.{reply_number}
use Rattle.pixmap.proofs.Agreement.{files_agree}
use Rattle.graymap.specs.Parts.{read_file}
use Rattle.graymap.specs.RoundTrips.{CallsAgree}
use Rattle.graymap.proofs.PlanesRead.{file_read}

-- a reply that is a refusal, by its number
refused_by : {A : Type 0} (n k : ℕ) (v : A) → 1 ≤ k → n ≡ k → reply_by n v ≡ refused k
refused_by n k v h e = rw (e, ne_eqb k 0 (λ z. omega arith))

module _ (d : Depths) (t n : ℕ) (file : List ℕ) (lent : List ℤ) (z : refusal (plane_tests d t n) ≡ 0) (narrow : extent (plane_range d t n) ≤ 65535) where
  abbrev r : Range
  r = plane_range d t n

  abbrev k : Kind
  k = Graymap (extent r)

  abbrev text : HeaderText
  text = header_text 53 file

  abbrev size : Size
  size = record { width = text.width; height = text.height }

  abbrev tests : List Test
  tests = file_tests k text

  abbrev last : List Test
  last = (eqb (length lent) (text.width * text.height) else 8) ∷ (within_range r (raster_plane r text.rest) else 12) ∷ []

  is_file_read : read_file r file lent ≡ graymap_read d t n file lent
  is_file_read = file_read d t n file lent (sym z) narrow

  reply_is : reply_by (refusal (tests ++ last)) size ≡ (graymap_read d t n file lent).reply
  reply_is = ap (λ (o : Outcome Size (List ℤ)). o.reply) is_file_read

  -- the last two tests have other numbers
  last_other : (a b : Bool) (m : ℕ) → 1 ≤ m → m ≤ 4 → cond a (cond b 0 12) 8 ≡ m → ⊥
  last_other true true m l u e = omega arith
  last_other true false m l u e = omega arith
  last_other false b m l u e = omega arith

  numbers_alike : (m : ℕ) → 1 ≤ m → m ≤ 4 → refusal (tests ++ last) ≡ m → refusal tests ≡ m
  numbers_alike m l u e = by (refusal tests) refl
    where
      by : (j : ℕ) → refusal tests ≡ j → refusal tests ≡ m
      by zero f = absurd (last_other (eqb (length lent) (text.width * text.height)) (within_range r (raster_plane r text.rest)) m l u (sym (refusal_past tests last (refusal_holds tests (tt, (tt, (tt, (tt, tt)))) f)) ∙ e))
      by (suc j) f = f ∙ refusal_first tests last (suc j) (sym f) (λ g. omega arith) ∙ e

  alike : (m : ℕ) → 1 ≤ m → m ≤ 4 → ((graymap_read d t n file lent).reply ≡ refused m) ↔ (file_of k file ≡ refused m)
  unfolding file_of
  alike m l u = (
    λ e. refused_by (refusal tests) m text l
        (numbers_alike m l u (sym (reply_number (refusal (tests ++ last)) size) ∙ ap (λ (x : Reply Size). number x) (reply_is ∙ e))),
    λ e. let f : refusal tests ≡ m = sym (reply_number (refusal tests) text) ∙ ap (λ (x : Reply HeaderText). number x) e in
        sym reply_is ∙ refused_by (refusal (tests ++ last)) m size l (sym (refusal_first tests last m (sym f) (λ g. omega arith))),
  )

  accepted : (v : Size) → (graymap_read d t n file lent).reply ≡ done v → IsFile k file v.width v.height (extent r) text.rest
  unfolding file_of
  accepted v e =
      let p = reply_is ∙ e in
      let q : refusal (tests ++ last) ≡ 0 = done_refusal size size size (tests ++ last) v p in
      let y : done size ≡ done v = rw q at p in
      let size_is : size ≡ v = cc in
      let h = ((holds_append tests last).0 (refusal_holds (tests ++ last) (tt, (tt, (tt, (tt, (tt, (tt, tt)))))) q)).0 in
      let g : refusal tests ≡ 0 = holds_refusal tests h in
      let m = eqb-true text.maxval (extent r) (is_taken k text g) in
      subst (λ (x : Size). IsFile k file x.width x.height (extent r) text.rest) size_is
      (subst (λ (x : ℕ). IsFile k file text.width text.height x text.rest) m ((files_agree k file).sound text (rw g)))

pub calls_agree : CallsAgree
calls_agree d t n file lent z narrow = record { alike = alike d t n file lent z narrow; accepted = accepted d t n file lent z narrow }
