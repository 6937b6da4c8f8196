-- The header once more, as a grammar (01, "Pixmaps and the report"): which bytes are a comment, a stretch, a number, a field, a header; and
-- which files of a kind k are taken. l is a text, b a byte, n a number.
use Rattle.std.specs.Prelude.{◌≡◌, true, false, List, [], ◌∷◌, ◌++◌, ℕ, ◌+◌, ◌-◌, ◌*◌, ◌^◌, ◌≤◌, length}
use Rattle.stage.specs.Decimal.{is_digit}
use Rattle.stage.specs.Raster.{sample_bytes}
use Rattle.stage.specs.Pixmap.{is_white, ends_comment, Kind, Pixmap, Graymap, letter, pixel_samples}

-- what stands behind # in a comment: bytes that do not end it, and the one that does
pub data CommentText : List ℕ → Type 0 where
  end : {b : ℕ} → ends_comment b ≡ true → CommentText (b ∷ [])
  byte : {b : ℕ} {l : List ℕ} → ends_comment b ≡ false → CommentText l → CommentText (b ∷ l)

-- white space and comments in any order
pub data Stretch : List ℕ → Type 0 where
  none : Stretch []
  white : {b : ℕ} {l : List ℕ} → is_white b ≡ true → Stretch l → Stretch (b ∷ l)
  comment : {c l : List ℕ} → CommentText c → Stretch l → Stretch (35 ∷ (c ++ l))

-- one or more decimal digits, and the number that they are: each counts ten times as much as the next
pub data Number : List ℕ → ℕ → Type 0 where
  last : {b : ℕ} → is_digit b ≡ true → Number (b ∷ []) (b - 48)
  more : {b : ℕ} {l : List ℕ} {n : ℕ} → is_digit b ≡ true → Number l n → Number (b ∷ l) ((b - 48) * 10 ^ length l + n)

-- l is a white space byte, a stretch, a number, and the rest
pub record IsField (l : List ℕ) (value : ℕ) (rest : List ℕ) : Type 0 where
  pub space : ℕ
  pub stretch : List ℕ
  pub digits : List ℕ
  pub parts : l ≡ space ∷ (stretch ++ (digits ++ rest))
  pub is_white : is_white space ≡ true
  pub is_stretch : Stretch stretch
  pub is_number : Number digits value

-- file is P and the letter, three fields, one white space byte, and the raster
pub record IsHeader (letter : ℕ) (file : List ℕ) (width height maxval : ℕ) (raster : List ℕ) : Type 0 where
  pub behind_letters : List ℕ
  pub behind_width : List ℕ
  pub behind_height : List ℕ
  pub space : ℕ
  pub letters : file ≡ 80 ∷ letter ∷ behind_letters
  pub is_width : IsField behind_letters width behind_width
  pub is_height : IsField behind_width height behind_height
  pub is_maxval : IsField behind_height maxval (space ∷ raster)
  pub is_white : is_white space ≡ true

-- a maxval that is taken: "Maxval is M for a depth of 2 to 8", and of 9 to 16; a graymap's own
pub record IsDepth (maxval : ℕ) : Type 0 where
  pub depth : ℕ
  pub depth_range : (2 ≤ depth) × (depth ≤ 16)
  pub is_maxval : maxval ≡ 2 ^ depth - 1

abbrev pub Takes : Kind → (maxval : ℕ) → Type 0
Takes Pixmap maxval = IsDepth maxval
Takes (Graymap n) maxval = maxval ≡ n

-- a file that no refusal concerns
pub record IsFile (k : Kind) (file : List ℕ) (width height maxval : ℕ) (raster : List ℕ) : Type 0 where
  pub is_header : IsHeader (letter k) file width height maxval raster
  pub width_range : (1 ≤ width) × (width ≤ 8192)
  pub height_range : (1 ≤ height) × (height ≤ 8192)
  pub is_taken : Takes k maxval
  pub is_length : length raster ≡ pixel_samples k * sample_bytes maxval * width * height

-- ---- files of that form that are refused all the same, in order
-- "2 width or height outside 1 to 8,192"
pub record WrongSize (k : Kind) (file : List ℕ) : Type 0 where
  pub width : ℕ
  pub height : ℕ
  pub maxval : ℕ
  pub raster : List ℕ
  pub is_header : IsHeader (letter k) file width height maxval raster
  pub wrong : ((1 ≤ width) × (width ≤ 8192)) × ((1 ≤ height) × (height ≤ 8192)) → ⊥

-- "3 other maxval"
pub record WrongMaxval (k : Kind) (file : List ℕ) : Type 0 where
  pub width : ℕ
  pub height : ℕ
  pub maxval : ℕ
  pub raster : List ℕ
  pub is_header : IsHeader (letter k) file width height maxval raster
  pub width_range : (1 ≤ width) × (width ≤ 8192)
  pub height_range : (1 ≤ height) × (height ≤ 8192)
  pub wrong : Takes k maxval → ⊥

-- "4 raster length wrong"
pub record WrongLength (k : Kind) (file : List ℕ) : Type 0 where
  pub width : ℕ
  pub height : ℕ
  pub maxval : ℕ
  pub raster : List ℕ
  pub is_header : IsHeader (letter k) file width height maxval raster
  pub width_range : (1 ≤ width) × (width ≤ 8192)
  pub height_range : (1 ≤ height) × (height ≤ 8192)
  pub is_taken : Takes k maxval
  pub wrong : length raster ≡ pixel_samples k * sample_bytes maxval * width * height → ⊥
