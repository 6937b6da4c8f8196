-- What the parts of the reader promise of a place in a file. Numbers are kept to 100,000, which every test refuses like what is above it.
use Rattle.std.specs.Prelude.{◌≡◌, true, false, List, ℕ, min, drop, Option, None, Some}
use Rattle.std.specs.Borrow.{Bor}
use Rattle.stage.specs.Pixmap.{field, header_text}
use Rattle.pixmap.specs.declared.header_text.Field.{Field}
use Rattle.pixmap.specs.declared.header_text.Parsed.{Parsed}
use Rattle.pixmap.specs.Parts.{PartOf}

pub record FieldAt (file : List ℕ) (at : ℕ) (r : Field) : Type 0 where
  pub is_formed : (field (drop at file)).formed ≡ true
  pub value_is : r.value ≡ min (field (drop at file)).value 100000
  pub rest_is : drop r.at file ≡ (field (drop at file)).rest

abbrev pub FieldRead : (file : List ℕ) (at : ℕ) → Option Field → Type 0
FieldRead file at None = (field (drop at file)).formed ≡ false
FieldRead file at (Some r) = FieldAt file at r

pub record TextOf (letter : ℕ) (file : Bor (List ℕ)) (r : Parsed) : Type 0 where
  pub is_formed : (header_text letter file.now).formed ≡ true
  pub width_is : r.width ≡ min (header_text letter file.now).width 100000
  pub height_is : r.height ≡ min (header_text letter file.now).height 100000
  pub maxval_is : r.maxval ≡ min (header_text letter file.now).maxval 100000
  pub raster_is : PartOf file (header_text letter file.now).rest r.raster

abbrev pub TextRead : (letter : ℕ) (file : Bor (List ℕ)) → Option Parsed → Type 0
TextRead letter file None = (header_text letter file.now).formed ≡ false
TextRead letter file (Some r) = TextOf letter file r
