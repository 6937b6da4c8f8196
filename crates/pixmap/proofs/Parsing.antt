-- From the text of a header to the answer and the raster.
use mathlib.Core.Path.{◌≡◌, refl, sym, ap, ◌∙◌}
use mathlib.Core.Bool.{Bool, true, false, cond}
use mathlib.Core.List.{List, []}
use Prim.Native.Nat.{ℕ}
use native.Mathlib.Omega.{arith}
use borrow.Author.Tests.{ne_eqb}
use Rattle.std.specs.Borrow.{Bor}
use Rattle.stage.specs.declared.Kind.{Kind}
use Rattle.stage.specs.declared.Kind.TheVariants.{Pixmap}
use Rattle.stage.specs.declared.Refusal.{Refusal}
use Rattle.stage.specs.Answers.{done, refused, refusal, number_of, sized}
use Rattle.stage.specs.Pixmap.{HeaderText, header_text, letter, file_tests, file_of, text_header, header_by, header_of, raster_by, raster_of}
use Rattle.stage.proofs.Answers.{number_positive}
use Rattle.pixmap.specs.declared.header_text.Parsed.{Parsed}
use Rattle.pixmap.specs.HeaderFields.{TextOf}
use Rattle.pixmap.specs.Parsed.{text_tests, Readable, Accepted}
use Rattle.pixmap.proofs.Maxvals.{taken_most, takes_kept, bytes_kept}
use Rattle.pixmap.proofs.Refusals.{is_sized, is_taken, sized_kept, size_kept}

past_size : (b : Bool) {m n : ℕ} → (b ≡ true → m ≡ n) → cond b m 2 ≡ cond b n 2
past_size true e = e refl
past_size false e = refl

module _ (k : Kind) (file : Bor (List ℕ)) (r : Parsed) (readable : Readable k) (a : TextOf (letter k) file r) where
  abbrev T : HeaderText
  T = header_text (letter k) file.now

  -- the tests of the header as it was read are those of its text
  pub tests_kept : refusal (text_tests k r) ≡ refusal (file_tests k T)
  tests_kept =
      rw (a.is_formed, a.width_is, a.height_is, size_kept T.width T.height, a.maxval_is, takes_kept k T.maxval readable, bytes_kept T.maxval, a.raster_is.bytes_are)
      (past_size (sized T.width T.height) (λ e. let kept = sized_kept T.width T.height e in rw (kept.0, kept.1)))

  pub accepted : 0 ≡ refusal (text_tests k r) → Accepted k file r
  accepted e =
      let passes : refusal (file_tests k T) ≡ 0 = sym (e ∙ tests_kept) in
      let kept = sized_kept T.width T.height (is_sized k T passes) in
      record {
        passes = passes;
        width_is = a.width_is ∙ kept.0;
        height_is = a.height_is ∙ kept.1;
        maxval_is = omega (arith, a.maxval_is, taken_most k T.maxval readable (is_taken k T passes));
        raster_is = a.raster_is;
      }

-- ---- a file that is refused, and one that is not
module _ (k : Kind) (file : List ℕ) where
  abbrev t : HeaderText
  t = header_text (letter k) file

  pub file_refused : (e : Refusal) → number_of e ≡ refusal (file_tests k t) → refused (number_of e) ≡ file_of k file
  unfolding file_of
  file_refused e h = rw (← h, ne_eqb (number_of e) 0 (number_positive e))

  pub file_accepted : refusal (file_tests k t) ≡ 0 → done t ≡ file_of k file
  unfolding file_of
  file_accepted h = rw h

-- ---- of a pixmap
module _ (file : List ℕ) where
  pub header_refused : (e : Refusal) → number_of e ≡ refusal (file_tests Pixmap (header_text 54 file)) → refused (number_of e) ≡ header_of file
  unfolding header_of
  header_refused e h = ap header_by (file_refused Pixmap file e h)

  pub header_accepted : refusal (file_tests Pixmap (header_text 54 file)) ≡ 0 → done (text_header (header_text 54 file)) ≡ header_of file
  unfolding header_of
  header_accepted h = ap header_by (file_accepted Pixmap file h)

  pub raster_none : (e : Refusal) → number_of e ≡ refusal (file_tests Pixmap (header_text 54 file)) → [] ≡ raster_of file
  unfolding raster_of
  raster_none e h = ap raster_by (file_refused Pixmap file e h)

  pub raster_read : refusal (file_tests Pixmap (header_text 54 file)) ≡ 0 → (header_text 54 file).rest ≡ raster_of file
  unfolding raster_of
  raster_read h = ap raster_by (file_accepted Pixmap file h)
