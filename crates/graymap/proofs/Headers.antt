-- A header that is written is read back.
use mathlib.Core.Path.{◌≡◌, refl, sym, ap, ◌∙◌}
use mathlib.Core.Bool.{true, false, not}
use mathlib.Core.List.{List, ◌∷◌, ◌++◌, append_assoc}
use mathlib.Core.Logic.{⊎_elim}
use Prim.Native.Nat.{ℕ, ◌≤◌}
use native.Mathlib.Omega.{arith}
use lib.ListN.{length}
use borrow.Author.Tests.{ne_eqb, eq-eqb}
use Rattle.stage.specs.Decimal.{is_digit, digit_count, numeral}
use Rattle.stage.specs.Grammar.{none}
use Rattle.stage.specs.Pixmap.{is_white, first, after_stretch, field, header_text}
use Rattle.stage.specs.Graymap.{written_header}
use Rattle.text.proofs.Numbers.{count_some}
use Rattle.text.proofs.Numerals.{lower_or_not, digit_length, more_length}
use Rattle.text.proofs.ReadBack.{numerals_read}
use Rattle.pixmap.proofs.Stretches.{white_step, white_no_digit, stretch_read}

some_digit : (n : ℕ) → 1 ≤ length (numeral n)
some_digit n = ⊎_elim (λ h. omega (arith, digit_length n h)) (λ h. omega (arith, more_length n h)) (lower_or_not n)

-- a number behind one white space byte, and no digit behind it
field_back : (b n : ℕ) (rest : List ℕ) → is_white b ≡ true → is_digit (first rest) ≡ false → field (b ∷ (numeral n ++ rest)) ≡ record { formed = true; value = n; rest = rest }
unfolding field
field_back b n rest w d =
    let l = numeral n ++ rest in
    let r = numerals_read n rest d in
    let f : is_digit (first l) ≡ true = sym (count_some l) ∙ ap not (ne_eqb (digit_count l) 0 (λ e. omega (arith, r.count_is, some_digit n))) in
    let s : after_stretch false (b ∷ l) ≡ l = white_step b l w ∙ stretch_read l f none in
    rw (s, w, f, r.value_is, r.rest_is)

line_feed : is_white 10 ≡ true
unfolding is_white
line_feed = refl

blank : is_white 32 ≡ true
unfolding is_white
blank = refl

-- the pieces in a row
header_row : (letter w h m : ℕ) (raster : List ℕ) → written_header letter w h m ++ raster ≡ 80 ∷ letter ∷ 10 ∷ (numeral w ++ (32 ∷ (numeral h ++ (10 ∷ (numeral m ++ (10 ∷ raster))))))
unfolding written_header
header_row letter w h m raster = simp append_assoc

pub header_back : (letter w h m : ℕ) (raster : List ℕ) → header_text letter (written_header letter w h m ++ raster) ≡ record { formed = true; width = w; height = h; maxval = m; rest = raster }
unfolding header_text
header_back letter w h m raster =
    rw (
      header_row letter w h m raster,
      field_back 10 w (32 ∷ (numeral h ++ (10 ∷ (numeral m ++ (10 ∷ raster))))) line_feed (white_no_digit 32 blank),
      field_back 32 h (10 ∷ (numeral m ++ (10 ∷ raster))) blank (white_no_digit 10 line_feed),
      field_back 10 m (10 ∷ raster) line_feed (white_no_digit 10 line_feed),
      eq-eqb letter letter refl,
      line_feed,
    )
