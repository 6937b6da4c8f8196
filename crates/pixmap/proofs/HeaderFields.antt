-- The header's text at a place of a file: the part from there on, a stretch byte by byte, a field and all fields.
use mathlib.Core.Path.{◌≡◌, refl, sym, ap, ◌∙◌}
use mathlib.Core.Bool.{Bool, true, false, ◌&&◌, not}
use mathlib.Core.List.{List, [], ◌∷◌}
use Prim.Native.Nat.{ℕ, ◌+◌, ◌-◌, ◌≤◌, ◌<◌, min}
use native.Mathlib.Omega.{arith}
use lib.Dec.{eqb}
use lib.ListN.{length, take, drop, get_or, length-drop, drop_of_length-le}
use borrow.Author.Tests.{ne_eqb}
use lib.Seq.{take_all, drop-length, drop-drop}
use Rattle.stage.specs.Pixmap.{is_white, first, ends_stretch, stays_inside, after_stretch, Field, field, header_text}
use Rattle.text.specs.declared.reading.Number.{Number}
use Rattle.text.specs.Numbers.{NumberAt}
use Rattle.text.proofs.Parts.{at_place}
use Rattle.std.specs.Borrow.{Bor}
use Rattle.stage.specs.Decimal.{is_digit, digit_count, after_digits}
use Rattle.text.proofs.Numbers.{count_some, all_digits, digits_end, rest_read}
use Rattle.integers.proofs.Booleans.{and-false}
use Rattle.pixmap.specs.declared.header_text.Field as read
use Rattle.pixmap.specs.Parts.{PartOf}
use Rattle.pixmap.specs.HeaderFields.{FieldAt, TextOf}

-- ---- the part of a file from a place on
part : (l : List ℕ) (k : ℕ) → take (length l - k) (drop k l) ≡ drop k l
part l k = take_all (length l - k) (drop k l) (omega (arith, length-drop k l))

-- a part begins as far behind the file's pointer p as the file is longer
pub part_pointer : (l : List ℕ) (p : ℕ × ℕ) (k : ℕ) → k ≤ length l → ◌≡◌ {A = ℕ × ℕ} (p.0, k + p.1) (p.0, (length l - length (take (length l - k) (drop k l))) + p.1)
part_pointer l p k h =
    let e : k ≡ length l - length (take (length l - k) (drop k l)) = rw (part l k) (omega (arith, length-drop k l)) in
    ap (λ (z : ℕ). (p.0, z + p.1)) e

pub part_behind : (l : List ℕ) (i : ℕ) → take (length l - (i + 1)) (drop (i + 1) l) ≡ drop 1 (drop i l)
part_behind l i = part l (i + 1) ∙ sym (drop-drop 1 i l)

pub part_empty : (l : List ℕ) → take (length l - length l) (drop (length l) l) ≡ []
part_empty l = part l (length l) ∙ drop-length l

-- ---- stretches
pub stretch_ends : (c : Bool) (b : ℕ) (l : List ℕ) → ends_stretch c b ≡ true → b ∷ l ≡ after_stretch c (b ∷ l)
unfolding after_stretch
stretch_ends c b l h = rw h

pub stretch_goes : (c : Bool) (b : ℕ) (l : List ℕ) → ends_stretch c b ≡ false → after_stretch (stays_inside c b) l ≡ after_stretch c (b ∷ l)
unfolding after_stretch
stretch_goes c b l h = rw h

pub stretch_nil : (c : Bool) → [] ≡ after_stretch c []
unfolding after_stretch
stretch_nil c = refl

module _ (file : List ℕ) (c : Bool) (i : ℕ) where
  pub ends_here : i < length file → ends_stretch c (get_or file i 0) ≡ true → drop i file ≡ after_stretch c (drop i file)
  ends_here h t = rw (at_place file i h) (stretch_ends c (get_or file i 0) (drop (i + 1) file) t)

  pub goes_here : i < length file → ends_stretch c (get_or file i 0) ≡ false → after_stretch (stays_inside c (get_or file i 0)) (drop (i + 1) file) ≡ after_stretch c (drop i file)
  goes_here h t = stretch_goes c (get_or file i 0) (drop (i + 1) file) t ∙ ap (after_stretch c) (sym (at_place file i h))

  pub file_ends : length file ≤ i → drop (length file) file ≡ after_stretch c (drop i file)
  file_ends h = drop-length file ∙ rw (drop_of_length-le file h) (stretch_nil c)

-- ---- a field, from what its parts give
module _ (file : List ℕ) (at b : ℕ) (t : Bool) (hb : b ≡ first (drop at file)) (ht : t ≡ is_white b) where
  spaced : is_white (first (drop at file)) ≡ t
  spaced = ap is_white (sym hb) ∙ sym ht

  pub field_unspaced : t ≡ false → (field (drop at file)).formed ≡ false
  unfolding field
  field_unspaced e = rw (spaced, e)

  module _ (s : ℕ) (hs : drop s file ≡ after_stretch false (drop at file)) (e : t ≡ true) where
    digit_is : (n : ℕ) → digit_count (take (length file) (drop s file)) ≡ n → is_digit (first (after_stretch false (drop at file))) ≡ not (eqb n 0)
    digit_is n z =
        ap (λ (l : List ℕ). is_digit (first l)) (sym hs) ∙ sym (count_some (drop s file))
        ∙ ap (λ (k : ℕ). not (eqb k 0)) (ap digit_count (sym (all_digits file s)) ∙ z)

    pub field_none : digit_count (take (length file) (drop s file)) ≡ 0 → (field (drop at file)).formed ≡ false
    unfolding field
    field_none z = rw (spaced, e, digit_is 0 z)

    pub field_some : (n : Number) → NumberAt file s (length file) 100000 n → FieldAt file at (record { value = n.value; at = n.at })
    unfolding field
    field_some n hn =
        let some : n.digits ≡ 0 → ⊥ = λ z. omega (arith, hn.some) in
        let a = all_digits file s in
        let r = rest_read hn in
        record { is_formed = rw (spaced, e, digit_is n.digits (sym hn.digits_is), ne_eqb n.digits 0 some); value_is = cc; rest_is = cc }

-- ---- where a field ends, of the form or not
module _ (file : List ℕ) (at s : ℕ) (hs : drop s file ≡ after_stretch false (drop at file)) where
  no_digit : digit_count (take (length file) (drop s file)) ≡ 0 → is_digit (first (drop s file)) ≡ false
  no_digit z = sym (count_some (drop s file)) ∙ ap (λ (k : ℕ). not (eqb k 0)) (ap digit_count (sym (all_digits file s)) ∙ z)

  pub end_unread : digit_count (take (length file) (drop s file)) ≡ 0 → drop s file ≡ (field (drop at file)).rest
  unfolding field
  end_unread z = sym (digits_end (drop s file) (no_digit z)) ∙ ap after_digits hs

  pub end_read : (n : Number) {limit : ℕ} → NumberAt file s (length file) limit n → drop n.at file ≡ (field (drop at file)).rest
  unfolding field
  end_read n hn = rest_read hn ∙ ap after_digits hs

pub rest_behind : (letter : ℕ) (file : List ℕ) (w h m : ℕ) → drop w file ≡ (field (drop 2 file)).rest → drop h file ≡ (field (drop w file)).rest → drop m file ≡ (field (drop h file)).rest
    → drop 1 (drop m file) ≡ (header_text letter file).rest
unfolding header_text
rest_behind letter file w h m hw hh hm = ap (drop 1) (hm ∙ ap (λ (l : List ℕ). (field l).rest) (hh ∙ ap (λ (l : List ℕ). (field l).rest) hw))

-- ---- a header
module _ (letter : ℕ) (file : Bor (List ℕ)) where
  abbrev W : Field
  W = field (drop 2 file.now)

  abbrev H : Field
  H = field W.rest

  abbrev M : Field
  M = field H.rest

  abbrev Unformed : Type 0
  Unformed = (header_text letter file.now).formed ≡ false

  pub no_width : W.formed ≡ false → Unformed
  unfolding header_text
  no_width e = rw (e, and-false (eqb (first file.now) 80 && eqb (first (drop 1 file.now)) letter))

  no_height : H.formed ≡ false → Unformed
  unfolding header_text
  no_height e = rw (e, and-false (eqb (first file.now) 80 && eqb (first (drop 1 file.now)) letter && W.formed))

  no_maxval : M.formed ≡ false → Unformed
  unfolding header_text
  no_maxval e = rw (e, and-false (eqb (first file.now) 80 && eqb (first (drop 1 file.now)) letter && W.formed && H.formed))

  no_space : is_white (first M.rest) ≡ false → Unformed
  unfolding header_text
  no_space e = rw (e, and-false (eqb (first file.now) 80 && eqb (first (drop 1 file.now)) letter && W.formed && H.formed && M.formed))

  module _ (x y : ℕ) (hx : x ≡ first file.now) (hy : y ≡ first (drop 1 file.now)) where
    pub no_letters : (eqb x 80 && eqb y letter) ≡ false → Unformed
    unfolding header_text
    no_letters e = rw (← hx, ← hy, e)

    module _ (w : read.Field) (hw : FieldAt file.now 2 w) where
      pub none_high : (field (drop w.at file.now)).formed ≡ false → Unformed
      none_high e = no_height (ap (λ (l : List ℕ). (field l).formed) (sym hw.rest_is) ∙ e)

      module _ (h : read.Field) (hh : FieldAt file.now w.at h) where
        height_is : field (drop w.at file.now) ≡ H
        height_is = ap field hw.rest_is

        maxval_is : field (drop h.at file.now) ≡ M
        maxval_is = ap field (hh.rest_is ∙ ap (λ (f : Field). f.rest) height_is)

        pub none_most : (field (drop h.at file.now)).formed ≡ false → Unformed
        none_most e = no_maxval (ap (λ (f : Field). f.formed) (sym maxval_is) ∙ e)

        module _ (m : read.Field) (hm : FieldAt file.now h.at m) (z : ℕ) (t : Bool) (hz : z ≡ first (drop m.at file.now)) (ht : t ≡ is_white z) where
          rest_is : drop m.at file.now ≡ M.rest
          rest_is = hm.rest_is ∙ ap (λ (f : Field). f.rest) maxval_is

          space_is : is_white (first M.rest) ≡ t
          space_is = ap (λ (l : List ℕ). is_white (first l)) (sym rest_is) ∙ ap is_white (sym hz) ∙ sym ht

          pub unended : t ≡ false → Unformed
          unended e = no_space (space_is ∙ e)

          pub ended : (eqb x 80 && eqb y letter) ≡ true → t ≡ true → (r : Bor (List ℕ)) → PartOf file (drop 1 (drop m.at file.now)) r
              → TextOf letter file (record { width = w.value; height = h.value; maxval = m.value; raster = r })
          unfolding header_text
          ended e k r pr =
              record {
                is_formed = rw (← hx, ← hy, e, hw.is_formed, ap (λ (f : Field). f.formed) (sym height_is) ∙ hh.is_formed, ap (λ (f : Field). f.formed) (sym maxval_is) ∙ hm.is_formed, space_is, k);
                width_is = hw.value_is;
                height_is = hh.value_is ∙ ap (λ (f : Field). min f.value 100000) height_is;
                maxval_is = hm.value_is ∙ ap (λ (f : Field). min f.value 100000) maxval_is;
                raster_is = rw (ap (drop 1) rest_is) at pr;
              }
