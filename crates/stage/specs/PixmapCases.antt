-- Cases of decimal text and of pixmaps: files of a few bytes, ASCII codes.
use Rattle.std.specs.Prelude.{true, false, List, [], ◌∷◌, map, ℕ, ℤ, pos}
use Rattle.stage.specs.Answers.{done, refused}
use Rattle.stage.specs.Planes.{triple}
use Rattle.stage.specs.Decimal.{is_digit, decimal, digit_count, after_digits, digits, numeral}
use Rattle.stage.specs.Pixmap.{is_white, depth_of, header_of, raster_of, planes_of}
use Rattle.stage.specs.Case.{Value, Case, ◌gives◌, Hold, truths, count, counts, file, call, accepted, refuses}

unfoldable pub text_cases : List Case
text_cases =
    -- the digits are 48 to 57
    (truths (map is_digit (47 ∷ 48 ∷ 57 ∷ 58 ∷ [])) gives truths (false ∷ true ∷ true ∷ false ∷ []))
    -- "007 5": the number in front, how many digits it has, and what is left
    ∷ (count (decimal 0 (48 ∷ 48 ∷ 55 ∷ 32 ∷ 53 ∷ [])) gives count 7)
    ∷ (count (digit_count (48 ∷ 48 ∷ 55 ∷ 32 ∷ 53 ∷ [])) gives count 3)
    ∷ (counts (after_digits (48 ∷ 48 ∷ 55 ∷ 32 ∷ 53 ∷ [])) gives counts (32 ∷ 53 ∷ []))
    -- "1785" to its end, and no text
    ∷ (count (decimal 0 (49 ∷ 55 ∷ 56 ∷ 53 ∷ [])) gives count 1785)
    ∷ (count (digit_count (49 ∷ 55 ∷ 56 ∷ 53 ∷ [])) gives count 4)
    ∷ (counts (after_digits (49 ∷ 55 ∷ 56 ∷ 53 ∷ [])) gives counts [])
    ∷ (count (decimal 0 []) gives count 0)
    -- the text of 0, 9, 10 and 1785, and of 7 where one digit is allowed
    ∷ (counts (numeral 0) gives counts (48 ∷ []))
    ∷ (counts (numeral 9) gives counts (57 ∷ []))
    ∷ (counts (numeral 10) gives counts (49 ∷ 48 ∷ []))
    ∷ (counts (numeral 1785) gives counts (49 ∷ 55 ∷ 56 ∷ 53 ∷ []))
    ∷ (counts (digits 0 7) gives counts (55 ∷ []))
    -- "White space is blank, tab, line feed, vertical tab, form feed or carriage return": 32, 9, 10, 11, 12, 13
    ∷ (truths (map is_white (8 ∷ 9 ∷ 10 ∷ 11 ∷ 12 ∷ 13 ∷ 14 ∷ 31 ∷ 32 ∷ 33 ∷ []))
    gives truths (false ∷ true ∷ true ∷ true ∷ true ∷ true ∷ false ∷ false ∷ true ∷ false ∷ []))
    -- "Maxval is M for a depth of 2 to 8", "P6 input gains depths 9 to 16": M for 1 to 9 and for 15 to 17, and the depths
    ∷ (counts (map depth_of (1 ∷ 3 ∷ 7 ∷ 15 ∷ 31 ∷ 63 ∷ 127 ∷ 255 ∷ 511 ∷ []))
    gives counts (0 ∷ 2 ∷ 3 ∷ 4 ∷ 5 ∷ 6 ∷ 7 ∷ 8 ∷ 9 ∷ []))
    ∷ (counts (map depth_of (32767 ∷ 65535 ∷ 131071 ∷ [])) gives counts (15 ∷ 16 ∷ 0 ∷ []))
    ∷ (counts (map depth_of (0 ∷ 2 ∷ 254 ∷ 256 ∷ 65534 ∷ [])) gives counts (0 ∷ 0 ∷ 0 ∷ 0 ∷ 0 ∷ []))
    ∷ []

-- two pixels
abbrev raster : List ℕ
raster = 10 ∷ 20 ∷ 30 ∷ 40 ∷ 50 ∷ 60 ∷ []

abbrev reads : List ℕ → Value
reads f = file (header_of f) (raster_of f)

abbrev picture : ℕ → ℕ → ℕ → Value
picture w h d = file (done (record { width = w; height = h; depth = d })) raster

-- a refusal, and the empty part
abbrev refuses_file : ℕ → Value
refuses_file n = file (refused n) []

unfoldable pub file_cases : List Case
file_cases =
    -- 01's example: "P6, line feed, 2 1, line feed, 255, line feed"
    (reads (80 ∷ 54 ∷ 10 ∷ 50 ∷ 32 ∷ 49 ∷ 10 ∷ 50 ∷ 53 ∷ 53 ∷ 10 ∷ raster) gives picture 2 1 8)
    -- comments, one ended by a carriage return; tab, vertical tab, form feed; leading zeros
    ∷ (reads (80 ∷ 54 ∷ 9 ∷ 35 ∷ 120 ∷ 13 ∷ 48 ∷ 48 ∷ 50 ∷ 11 ∷ 35 ∷ 10 ∷ 35 ∷ 49 ∷ 10 ∷ 49 ∷ 12 ∷ 32 ∷ 51 ∷ 32 ∷ raster) gives picture 2 1 2)
    -- a stretch that begins with a comment
    ∷ (reads (80 ∷ 54 ∷ 35 ∷ 10 ∷ 50 ∷ 32 ∷ 49 ∷ 10 ∷ 50 ∷ 53 ∷ 53 ∷ 10 ∷ raster) gives refuses_file 1)
    -- a comment right behind a number
    ∷ (reads (80 ∷ 54 ∷ 10 ∷ 50 ∷ 32 ∷ 49 ∷ 35 ∷ 10 ∷ 32 ∷ 50 ∷ 53 ∷ 53 ∷ 10 ∷ raster) gives refuses_file 1)
    -- a comment right behind maxval
    ∷ (reads (80 ∷ 54 ∷ 10 ∷ 50 ∷ 32 ∷ 49 ∷ 10 ∷ 50 ∷ 53 ∷ 53 ∷ 35 ∷ 10 ∷ raster) gives refuses_file 1)
    -- maxval inside a comment
    ∷ (reads (80 ∷ 54 ∷ 10 ∷ 50 ∷ 32 ∷ 49 ∷ 32 ∷ 35 ∷ 50 ∷ 53 ∷ 53 ∷ 10 ∷ []) gives refuses_file 1)
    -- no white space and no number: for the width, for the height
    ∷ (reads (80 ∷ 54 ∷ 50 ∷ 32 ∷ 49 ∷ 10 ∷ 50 ∷ 53 ∷ 53 ∷ 10 ∷ raster) gives refuses_file 1)
    ∷ (reads (80 ∷ 54 ∷ 10 ∷ 120 ∷ 32 ∷ 49 ∷ 10 ∷ 50 ∷ 53 ∷ 53 ∷ 10 ∷ raster) gives refuses_file 1)
    ∷ (reads (80 ∷ 54 ∷ 10 ∷ 50 ∷ 32 ∷ 120 ∷ 10 ∷ 50 ∷ 53 ∷ 53 ∷ 10 ∷ raster) gives refuses_file 1)
    -- nothing behind maxval
    ∷ (reads (80 ∷ 54 ∷ 10 ∷ 50 ∷ 32 ∷ 49 ∷ 10 ∷ 50 ∷ 53 ∷ 53 ∷ []) gives refuses_file 1)
    -- the letters O6 and P5
    ∷ (reads (79 ∷ 54 ∷ 10 ∷ 50 ∷ 32 ∷ 49 ∷ 10 ∷ 50 ∷ 53 ∷ 53 ∷ 10 ∷ raster) gives refuses_file 1)
    ∷ (reads (80 ∷ 53 ∷ 10 ∷ 50 ∷ 32 ∷ 49 ∷ 10 ∷ 50 ∷ 53 ∷ 53 ∷ 10 ∷ raster) gives refuses_file 1)
    -- no byte
    ∷ (reads [] gives refuses_file 1)
    -- width 8,193, and neither maxval nor raster right
    ∷ (reads (80 ∷ 54 ∷ 10 ∷ 56 ∷ 49 ∷ 57 ∷ 51 ∷ 32 ∷ 49 ∷ 10 ∷ 50 ∷ 53 ∷ 54 ∷ 10 ∷ []) gives refuses_file 2)
    -- width 2^32 + 2
    ∷ (reads (80 ∷ 54 ∷ 10 ∷ 52 ∷ 50 ∷ 57 ∷ 52 ∷ 57 ∷ 54 ∷ 55 ∷ 50 ∷ 57 ∷ 56 ∷ 32 ∷ 49 ∷ 10 ∷ 50 ∷ 53 ∷ 53 ∷ 10 ∷ raster) gives refuses_file 2)
    -- height 0
    ∷ (reads (80 ∷ 54 ∷ 10 ∷ 50 ∷ 32 ∷ 48 ∷ 10 ∷ 50 ∷ 53 ∷ 53 ∷ 10 ∷ []) gives refuses_file 2)
    -- maxval 2^64 + 255
    ∷ (reads (80 ∷ 54 ∷ 10 ∷ 50 ∷ 32 ∷ 49 ∷ 10 ∷ 49 ∷ 56 ∷ 52 ∷ 52 ∷ 54 ∷ 55 ∷ 52 ∷ 52 ∷ 48 ∷ 55 ∷ 51 ∷ 55 ∷ 48 ∷ 57 ∷ 53 ∷ 53 ∷ 49 ∷ 56
    ∷ 55 ∷ 49 ∷ 10 ∷ raster) gives refuses_file 3)
    -- maxval 256, and no raster
    ∷ (reads (80 ∷ 54 ∷ 10 ∷ 50 ∷ 32 ∷ 49 ∷ 10 ∷ 50 ∷ 53 ∷ 54 ∷ 10 ∷ []) gives refuses_file 3)
    -- width 8,192, and no raster
    ∷ (reads (80 ∷ 54 ∷ 10 ∷ 56 ∷ 49 ∷ 57 ∷ 50 ∷ 32 ∷ 49 ∷ 10 ∷ 50 ∷ 53 ∷ 53 ∷ 10 ∷ []) gives refuses_file 4)
    -- a second white space byte, which belongs to the raster
    ∷ (reads (80 ∷ 54 ∷ 10 ∷ 50 ∷ 32 ∷ 49 ∷ 10 ∷ 50 ∷ 53 ∷ 53 ∷ 10 ∷ 10 ∷ raster) gives refuses_file 4)
    -- a comment behind the header, which belongs to the raster
    ∷ (reads (80 ∷ 54 ∷ 10 ∷ 50 ∷ 32 ∷ 49 ∷ 10 ∷ 50 ∷ 53 ∷ 53 ∷ 10 ∷ 35 ∷ 10 ∷ raster) gives refuses_file 4)
    -- maxval 511, and a raster of one byte a sample
    ∷ (reads (80 ∷ 54 ∷ 10 ∷ 50 ∷ 32 ∷ 49 ∷ 10 ∷ 53 ∷ 49 ∷ 49 ∷ 10 ∷ raster) gives refuses_file 4)
    -- one byte short
    ∷ (reads (80 ∷ 54 ∷ 10 ∷ 50 ∷ 32 ∷ 49 ∷ 10 ∷ 50 ∷ 53 ∷ 53 ∷ 10 ∷ 10 ∷ 20 ∷ 30 ∷ 40 ∷ 50 ∷ []) gives refuses_file 4)
    ∷ []

-- ---- the call that fills three lent planes: 01's example, one without its raster, and one of maxval 511
abbrev whole : List ℕ
whole = 80 ∷ 54 ∷ 10 ∷ 50 ∷ 32 ∷ 49 ∷ 10 ∷ 50 ∷ 53 ∷ 53 ∷ 10 ∷ raster

abbrev cut : List ℕ
cut = 80 ∷ 54 ∷ 10 ∷ 50 ∷ 32 ∷ 49 ∷ 10 ∷ 50 ∷ 53 ∷ 53 ∷ 10 ∷ []

abbrev deep : List ℕ
deep = 80 ∷ 54 ∷ 10 ∷ 50 ∷ 32 ∷ 49 ∷ 10 ∷ 53 ∷ 49 ∷ 49 ∷ 10 ∷ 0 ∷ 10 ∷ 1 ∷ 255 ∷ 0 ∷ 30 ∷ 1 ∷ 0 ∷ 0 ∷ 50 ∷ 255 ∷ 255 ∷ []

abbrev one : List ℤ
one = pos 7 ∷ []

abbrev two : List ℤ
two = pos 7 ∷ pos 8 ∷ []

unfoldable pub planes_cases : List Case
planes_cases =
    -- "R G B by pixel"
    (call (planes_of whole (triple two two two))
    gives accepted (triple (pos 10 ∷ pos 40 ∷ []) (pos 20 ∷ pos 50 ∷ []) (pos 30 ∷ pos 60 ∷ [])))
    -- "two bytes a sample", the more significant first; the last is above maxval and stays as it is
    ∷ (call (planes_of deep (triple two two two))
    gives accepted (triple (pos 10 ∷ pos 256 ∷ []) (pos 511 ∷ pos 50 ∷ []) (pos 30 ∷ pos 65535 ∷ [])))
    -- "8 a plane's length not width × height", and the file's own refusal before it
    ∷ (call (planes_of whole (triple two one two)) gives refuses 8 (triple two one two))
    ∷ (call (planes_of cut (triple two one two)) gives refuses 4 (triple two one two))
    ∷ []

abbrev pub PixmapCasesHold : Type 0
PixmapCasesHold = Hold text_cases × Hold file_cases × Hold planes_cases
