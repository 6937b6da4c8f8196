-- The fields and headers that the reader reads are those of the grammar.
use mathlib.Core.Path.{◌≡◌, refl, sym, ap, subst, ◌∙◌}
use mathlib.Core.Bool.{Bool, true, false, ◌&&◌, true≢false}
use mathlib.Core.List.{List, [], ◌∷◌, ◌++◌}
use Prim.Native.Nat.{ℕ}
use lib.Dec.{eqb}
use lib.ListN.{drop}
use borrow.Author.Tests.{eqb-true, eq-eqb}
use Rattle.integers.proofs.Booleans.{both_true}
use Rattle.stage.specs.Decimal.{is_digit, decimal, after_digits}
use Rattle.stage.specs.Pixmap.{is_white, first, after_stretch, field, header_text}
use Rattle.stage.specs.Grammar.{IsField, IsHeader}
use Rattle.pixmap.specs.Agreement.{HeadersAgree}
use Rattle.pixmap.proofs.Stretches.{white_no_digit, nothing_white, white_step, stretch_read, stretch_of}
use Rattle.pixmap.proofs.Numbers.{number_front, number_behind, number_value, number_of}

-- ---- a field
module _ (b : ℕ) (l : List ℕ) (w : is_white b ≡ true) (d : is_digit (first (after_stretch false (b ∷ l))) ≡ true) where
  field_of : IsField (b ∷ l) (decimal 0 (after_stretch false (b ∷ l))) (after_digits (after_stretch false (b ∷ l)))
  field_of =
      let s = white_step b l w in
      let k = stretch_of l (rw s at d) in
      let n = number_of (after_stretch false (b ∷ l)) d in
      let v : n.value ≡ decimal 0 (after_stretch false (b ∷ l)) = sym (ap (decimal 0) n.parts ∙ number_value (after_digits (after_stretch false (b ∷ l))) n.rest_none n.is_number) in
      record {
        space = b;
        stretch = k.stretch;
        digits = n.digits;
        parts = ap (λ (x : List ℕ). b ∷ x) (k.parts ∙ ap (λ (x : List ℕ). k.stretch ++ x) (sym s ∙ n.parts));
        is_white = w;
        is_stretch = k.is_stretch;
        is_number = rw v at n.is_number;
      }

field_sound : (l : List ℕ) → (field l).formed ≡ true → IsField l (field l).value (field l).rest
unfolding field
field_sound [] h = absurd (nothing_white (both_true (is_white 0) (is_digit (first (after_stretch false []))) h).0)
field_sound (b ∷ l) h =
    let k = both_true (is_white b) (is_digit (first (after_stretch false (b ∷ l)))) h in
    field_of b l k.0 k.1

field_complete : (l rest : List ℕ) (v : ℕ) → IsField l v rest → is_digit (first rest) ≡ false → field l ≡ record { formed = true; value = v; rest = rest }
unfolding field
field_complete l rest v f e =
    let t = f.digits ++ rest in
    let d = number_front rest f.is_number in
    let s : after_stretch false l ≡ t = ap (after_stretch false) f.parts ∙ white_step f.space (f.stretch ++ t) f.is_white ∙ stretch_read t d f.is_stretch in
    let w : is_white (first l) ≡ true = ap (λ (x : List ℕ). is_white (first x)) f.parts ∙ f.is_white in
    rw (s, w, d, number_behind rest e f.is_number, number_value rest e f.is_number)

-- a field begins with white space, so no number goes on into it
field_front : (l rest : List ℕ) (v : ℕ) → IsField l v rest → is_digit (first l) ≡ false
field_front l rest v f = ap (λ (x : List ℕ). is_digit (first x)) f.parts ∙ white_no_digit f.space f.is_white

-- ---- the header
first_of : (l : List ℕ) → is_white (first l) ≡ true → l ≡ first l ∷ drop 1 l
first_of [] h = absurd (nothing_white h)
first_of (b ∷ l) h = refl

record Conditions (p q w h m s : Bool) : Type 0 where
  is_p : p ≡ true
  is_letter : q ≡ true
  width : w ≡ true
  height : h ≡ true
  maxval : m ≡ true
  space : s ≡ true

conditions : (p q w h m s : Bool) → (p && q && w && h && m && s) ≡ true → Conditions p q w h m s
conditions true true true true true true e = record { is_p = refl; is_letter = refl; width = refl; height = refl; maxval = refl; space = refl }
conditions true true true true true false e = absurd (true≢false (sym e))
conditions true true true true false s e = absurd (true≢false (sym e))
conditions true true true false m s e = absurd (true≢false (sym e))
conditions true true false h m s e = absurd (true≢false (sym e))
conditions true false w h m s e = absurd (true≢false (sym e))
conditions false q w h m s e = absurd (true≢false (sym e))

field_white : (l : List ℕ) → (field l).formed ≡ true → is_white (first l) ≡ true
unfolding field
field_white l h = (both_true (is_white (first l)) (is_digit (first (after_stretch false l))) h).0

letters_of : (letter : ℕ) (file : List ℕ) → eqb (first file) 80 ≡ true → eqb (first (drop 1 file)) letter ≡ true → is_white (first (drop 2 file)) ≡ true → file ≡ 80 ∷ letter ∷ drop 2 file
letters_of letter [] p q w = absurd (nothing_white w)
letters_of letter (x ∷ []) p q w = absurd (nothing_white w)
letters_of letter (x ∷ y ∷ l) p q w =
    let x-is = eqb-true x 80 p in
    let y-is = eqb-true y letter q in
    cc

header_sound : (letter : ℕ) (file : List ℕ) → (header_text letter file).formed ≡ true → let t = header_text letter file in IsHeader letter file t.width t.height t.maxval t.rest
unfolding header_text
header_sound letter file e =
    let w = field (drop 2 file) in
    let h = field w.rest in
    let m = field h.rest in
    let c = conditions (eqb (first file) 80) (eqb (first (drop 1 file)) letter) w.formed h.formed m.formed (is_white (first m.rest)) e in
    record {
      behind_letters = drop 2 file;
      behind_width = w.rest;
      behind_height = h.rest;
      space = first m.rest;
      letters = letters_of letter file c.is_p c.is_letter (field_white (drop 2 file) c.width);
      is_width = field_sound (drop 2 file) c.width;
      is_height = field_sound w.rest c.height;
      is_maxval = subst (λ (r : List ℕ). IsField h.rest m.value r) (first_of m.rest c.space) (field_sound h.rest c.maxval);
      is_white = c.space;
    }

header_complete : (letter : ℕ) (file : List ℕ) (w h m : ℕ) (r : List ℕ) → IsHeader letter file w h m r → header_text letter file ≡ record { formed = true; width = w; height = h; maxval = m; rest = r }
unfolding header_text
header_complete letter file w h m r f =
    let a = field_complete f.behind_letters f.behind_width w f.is_width (field_front f.behind_width f.behind_height h f.is_height) in
    let b = field_complete f.behind_width f.behind_height h f.is_height (field_front f.behind_height (f.space ∷ r) m f.is_maxval) in
    let c = field_complete f.behind_height (f.space ∷ r) m f.is_maxval (white_no_digit f.space f.is_white) in
    rw (f.letters, a, b, c, eq-eqb letter letter refl, f.is_white)

pub headers_agree : HeadersAgree
headers_agree letter file = record { sound = header_sound letter file; complete = header_complete letter file }
