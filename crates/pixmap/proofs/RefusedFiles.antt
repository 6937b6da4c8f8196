-- Each refusal of a file, by the grammar: 1 where it has no header, then 2, 3 and 4 for what its header says.
use mathlib.Core.Path.{◌≡◌, refl, sym, ap, ◌∙◌}
use mathlib.Core.Bool.{Bool, true, false, cond, true≢false}
use mathlib.Core.Logic.{◌↔◌}
use mathlib.Core.List.{List, [], ◌∷◌}
use Prim.Native.Nat.{ℕ, ◌*◌, ◌≤◌}
use native.Mathlib.Omega.{arith}
use lib.Dec.{eqb}
use lib.ListN.{length}
use borrow.Author.Tests.{eqb-true, eqb-false, ne_eqb}
use Rattle.integers.proofs.Booleans.{holds_true, fails_false}
use Rattle.stage.specs.declared.Kind.{Kind}
use Rattle.stage.specs.Answers.{Reply, done, refused, Test, ◌else◌, refusal, reply_by, answer, number, sized}
use Rattle.stage.specs.Raster.{sample_bytes}
use Rattle.stage.specs.Pixmap.{HeaderText, header_text, letter, pixel_samples, takes, file_tests, file_of}
use Rattle.stage.specs.Grammar.{IsHeader, WrongSize, WrongMaxval, WrongLength}
use Rattle.stage.proofs.Answers.{sized_iff}
use Rattle.pixmap.proofs.Maxvals.{takes_iff}
use Rattle.pixmap.proofs.Refusals.{sized_range}
use Rattle.pixmap.proofs.Headers.{headers_agree}

pub range_sized : (w h : ℕ) → (1 ≤ w) × (w ≤ 8192) → (1 ≤ h) × (h ≤ 8192) → sized w h ≡ true
range_sized w h a b = holds_true (sized w h) ((sized_iff w h).1 (a, b))

abbrev pub text_reply : Kind → HeaderText → Reply HeaderText
text_reply k t = answer (file_tests k t) t

-- ---- a refusal's number says which test fails, and that those before it hold
past : (b : Bool) (m n : ℕ) (l : List Test) → (m ≡ n → ⊥) → refusal ((b else m) ∷ l) ≡ n → (b ≡ true) × (refusal l ≡ n)
past true m n l f e = (refl, e)
past false m n l f e = absurd (f e)

-- n is no test's number
abbrev Absent : ℕ → List Test → Type 0
Absent n [] = n ≡ 0 → ⊥
Absent n ((b else m) ∷ l) = (m ≡ n → ⊥) × Absent n l

fails : (b : Bool) (n : ℕ) (l : List Test) → Absent n l → refusal ((b else n) ∷ l) ≡ n → b ≡ false
fails false n l a e = refl
fails true n [] a e = absurd (a (sym e))
fails true n ((c else m) ∷ l) a e = fails true n l a.1 (past c m n l a.0 e).1

-- an answer that is a refusal has the first refusal's number
pub reply_number : {A : Type 0} (n : ℕ) (v : A) → number {A = A} (reply_by n v) ≡ n
reply_number {A} n v = by (eqb n 0) refl
  where
    by : (t : Bool) → eqb n 0 ≡ t → number {A = A} (cond t (done v) (refused n)) ≡ n
    by true e = sym (eqb-true n 0 e)
    by false e = refl

-- ---- from a refusal to the grammar
module _ (k : Kind) (file : List ℕ) where
  abbrev t : HeaderText
  t = header_text (letter k) file

  abbrev bytes : ℕ
  bytes = pixel_samples k * sample_bytes t.maxval * t.width * t.height

  -- the header's tests from the size on, from maxval on, and the last
  abbrev length_tests : List Test
  length_tests = (eqb (length t.rest) bytes else 4) ∷ []

  abbrev maxval_tests : List Test
  maxval_tests = (takes k t.maxval else 3) ∷ length_tests

  abbrev size_tests : List Test
  size_tests = (sized t.width t.height else 2) ∷ maxval_tests

  refusal_is : (n : ℕ) → file_of k file ≡ refused n → refusal (file_tests k t) ≡ n
  unfolding file_of
  refusal_is n e = sym (reply_number (refusal (file_tests k t)) t) ∙ ap (λ (a : Reply HeaderText). number a) e

  -- past the form, the size and maxval
  formed : (n : ℕ) → 2 ≤ n → file_of k file ≡ refused n → (t.formed ≡ true) × (refusal size_tests ≡ n)
  formed n h e = past t.formed 1 n size_tests (λ z. omega arith) (refusal_is n e)

  inside : (n : ℕ) → 3 ≤ n → file_of k file ≡ refused n → (sized t.width t.height ≡ true) × (refusal maxval_tests ≡ n)
  inside n h e = past (sized t.width t.height) 2 n maxval_tests (λ z. omega arith) (formed n (omega arith) e).1

  taken : file_of k file ≡ refused 4 → (takes k t.maxval ≡ true) × (refusal length_tests ≡ 4)
  taken e = past (takes k t.maxval) 3 4 length_tests (λ z. omega arith) (inside 4 (omega arith) e).1

  has_header : t.formed ≡ true → IsHeader (letter k) file t.width t.height t.maxval t.rest
  has_header = (headers_agree (letter k) file).sound

  pub header_missing : file_of k file ≡ refused 1 → (w h m : ℕ) (r : List ℕ) → IsHeader (letter k) file w h m r → ⊥
  header_missing e w h m r p =
      let f = fails t.formed 1 size_tests (λ z. omega arith, (λ z. omega arith, (λ z. omega arith, λ z. omega arith))) (refusal_is 1 e) in
      true≢false (sym (ap (λ (x : HeaderText). x.formed) ((headers_agree (letter k) file).complete w h m r p)) ∙ f)

  pub missing_header : ((w h m : ℕ) (r : List ℕ) → IsHeader (letter k) file w h m r → ⊥) → file_of k file ≡ refused 1
  unfolding file_of
  missing_header f = by t.formed refl
    where
      by : (b : Bool) → t.formed ≡ b → text_reply k t ≡ refused 1
      by true e = absurd (f _ _ _ _ (has_header e))
      by false e = rw e

  -- the answer for a header of these numbers
  pub read : (w h m : ℕ) (r : List ℕ) → IsHeader (letter k) file w h m r
      → file_of k file ≡ text_reply k (record { formed = true; width = w; height = h; maxval = m; rest = r })
  unfolding file_of
  read w h m r p = ap (text_reply k) ((headers_agree (letter k) file).complete w h m r p)

  pub wrong_size : (file_of k file ≡ refused 2) ↔ WrongSize k file
  wrong_size = (
    λ e. let f = formed 2 (omega arith) e in
        let o = fails (sized t.width t.height) 2 maxval_tests (λ z. omega arith, (λ z. omega arith, λ z. omega arith)) f.1 in record {
          width = t.width;
          height = t.height;
          maxval = t.maxval;
          raster = t.rest;
          is_header = has_header f.0;
          wrong = λ r. true≢false (sym (range_sized t.width t.height r.0 r.1) ∙ o);
        },
    λ x. read x.width x.height x.maxval x.raster x.is_header
        ∙ rw (fails_false (sized x.width x.height) (λ h. x.wrong ((sized_iff x.width x.height).0 h))),
  )

  pub wrong_maxval : (file_of k file ≡ refused 3) ↔ WrongMaxval k file
  wrong_maxval = (
    λ e. let i = inside 3 (omega arith) e in
        let s = sized_range t.width t.height i.0 in
        let f = fails (takes k t.maxval) 3 length_tests (λ z. omega arith, λ z. omega arith) i.1 in record {
          width = t.width;
          height = t.height;
          maxval = t.maxval;
          raster = t.rest;
          is_header = has_header (formed 3 (omega arith) e).0;
          width_range = s.0;
          height_range = s.1;
          wrong = λ m. true≢false (sym ((takes_iff k t.maxval).1 m) ∙ f);
        },
    λ x. read x.width x.height x.maxval x.raster x.is_header
        ∙ rw (
          range_sized x.width x.height x.width_range x.height_range,
          fails_false (takes k x.maxval) (λ h. x.wrong ((takes_iff k x.maxval).0 (holds_true (takes k x.maxval) h))),
        ),
  )

  pub wrong_length : (file_of k file ≡ refused 4) ↔ WrongLength k file
  wrong_length = (
    λ e. let s = sized_range t.width t.height (inside 4 (omega arith) e).0 in
        let k4 = taken e in record {
          width = t.width;
          height = t.height;
          maxval = t.maxval;
          raster = t.rest;
          is_header = has_header (formed 4 (omega arith) e).0;
          width_range = s.0;
          height_range = s.1;
          is_taken = (takes_iff k t.maxval).0 k4.0;
          wrong = eqb-false (length t.rest) bytes (fails (eqb (length t.rest) bytes) 4 [] (λ z. omega arith) k4.1);
        },
    λ x. let n = ne_eqb (length x.raster) (pixel_samples k * sample_bytes x.maxval * x.width * x.height) x.wrong in
        read x.width x.height x.maxval x.raster x.is_header
        ∙ rw (range_sized x.width x.height x.width_range x.height_range, (takes_iff k x.maxval).1 x.is_taken, n),
  )
