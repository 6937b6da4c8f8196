-- Cases of graymaps: planes of two samples, ASCII codes.
use Rattle.std.specs.Prelude.{List, [], ◌∷◌, ◌++◌, map, ℕ, ℤ, pos, replicate}
use Rattle.stage.specs.Answers.{done, refused}
use Rattle.stage.specs.Settings.{Depths, each, depths_of, settings_of}
use Rattle.stage.specs.Raster.{sample_bytes, raster_samples, samples_raster}
use Rattle.stage.specs.Graymap.{graymap_written, graymap_read}
use Rattle.stage.specs.Case.{Value, Case, ◌gives◌, Hold, minus, counts, written, read}

unfoldable pub raster_cases : List Case
raster_cases =
    -- "one byte a sample when maxval is below 256, else two, most significant first"
    (counts (map sample_bytes (0 ∷ 255 ∷ 256 ∷ 65535 ∷ [])) gives counts (1 ∷ 1 ∷ 2 ∷ 2 ∷ []))
    ∷ (counts (raster_samples 255 (1 ∷ 2 ∷ 3 ∷ [])) gives counts (1 ∷ 2 ∷ 3 ∷ []))
    ∷ (counts (raster_samples 256 (1 ∷ 2 ∷ 0 ∷ 255 ∷ 3 ∷ [])) gives counts (258 ∷ 255 ∷ []))
    ∷ (counts (samples_raster 255 (254 ∷ 3 ∷ [])) gives counts (254 ∷ 3 ∷ []))
    ∷ (counts (samples_raster 510 (510 ∷ 3 ∷ [])) gives counts (1 ∷ 254 ∷ 0 ∷ 3 ∷ []))
    ∷ []

-- a file of width 2 and height 1, by the digits of its maxval: "`P5`, line feed, width, blank, height, line feed, maxval, line feed"
abbrev headed : List ℕ → List ℕ → List ℕ
headed digits raster = 80 ∷ 53 ∷ 10 ∷ 50 ∷ 32 ∷ 49 ∷ 10 ∷ digits ++ 10 ∷ raster

-- the digits of 255, 256, 510 and 65,535
abbrev d255 : List ℕ
d255 = 50 ∷ 53 ∷ 53 ∷ []

abbrev d256 : List ℕ
d256 = 50 ∷ 53 ∷ 54 ∷ []

abbrev d510 : List ℕ
d510 = 53 ∷ 49 ∷ 48 ∷ []

abbrev d65535 : List ℕ
d65535 = 54 ∷ 53 ∷ 53 ∷ 51 ∷ 53 ∷ []

-- ---- writing: plane n of transform t, of size 2 by 1, into a buffer whose bytes are 7
abbrev sevens : ℕ → List ℕ
sevens room = replicate room 7

abbrev writes : Depths → (t n : ℕ) → List ℤ → (room : ℕ) → Value
writes d t n a room = written (graymap_written (settings_of 2 1 d t) n a (sevens room))

abbrev leaves : (length : ℕ) → List ℕ → Value
leaves length buffer = written (record { reply = done length; memory = buffer })

abbrev unwritten : (number room : ℕ) → Value
unwritten number room = written (record { reply = refused number; memory = sevens room })

-- the ends of RDgDb's plane 2 at depth 8
abbrev ends : List ℤ
ends = minus 255 ∷ pos 255 ∷ []

unfoldable pub write_cases : List Case
write_cases =
    -- RDgDb's plane 2 at depth 8, −255 to 255: maxval 510, two bytes a sample; "buffer bytes after it keep what they held"
    (writes (each 8) 2 2 ends 17 gives leaves 15 (headed d510 (0 ∷ 0 ∷ 1 ∷ 254 ∷ []) ++ sevens 2))
    -- its plane 1, 0 to 255: maxval exactly 255, one byte a sample; a buffer of exactly the file's length, and of one byte less
    ∷ (writes (each 8) 2 1 (pos 0 ∷ pos 255 ∷ []) 13 gives leaves 13 (headed d255 (0 ∷ 255 ∷ [])))
    ∷ (writes (each 8) 2 1 (pos 0 ∷ pos 255 ∷ []) 12 gives unwritten 14 12)
    -- RCT's plane 2 at depths 8, 7 and 3, −64 to 192: maxval exactly 256
    ∷ (writes (depths_of 8 7 3) 0 2 (minus 64 ∷ pos 192 ∷ []) 15 gives leaves 15 (headed d256 (0 ∷ 0 ∷ 1 ∷ 0 ∷ [])))
    -- RDgDb's plane 1 at depth 16: maxval exactly 65,535
    ∷ (writes (each 16) 2 1 (pos 258 ∷ pos 65535 ∷ []) 17 gives leaves 17 (headed d65535 (1 ∷ 2 ∷ 255 ∷ 255 ∷ [])))
    -- LDgEb's plane 2 at depth 8, −255 to 255
    ∷ (writes (each 8) 3 2 ends 15 gives leaves 15 (headed d510 (0 ∷ 0 ∷ 1 ∷ 254 ∷ [])))
    -- YCoCg-R's plane 3 at depth 8, −319 to 573: maxval 892
    ∷ (writes (each 8) 1 3 (minus 319 ∷ pos 573 ∷ []) 15 gives leaves 15 (headed (56 ∷ 57 ∷ 50 ∷ []) (0 ∷ 0 ∷ 3 ∷ 124 ∷ [])))
    -- YCoCg-R's plane 3 at depth 16: "13 if the wanted maxval exceeds 65,535"; RCT's plane 2 at depths 3, 15 and 16, −16,384 to 49,152: by one
    ∷ (writes (each 16) 1 3 (pos 0 ∷ pos 0 ∷ []) 99 gives unwritten 13 99)
    ∷ (writes (depths_of 3 15 16) 0 2 (pos 0 ∷ pos 0 ∷ []) 99 gives unwritten 13 99)
    -- RDgDb's plane 1 at depth 2, 10 by 1 and 1 by 10: the file has 20 bytes
    ∷ (written (graymap_written (settings_of 10 1 (each 2) 2) 1 (replicate 10 (pos 3)) (sevens 19)) gives unwritten 14 19)
    ∷ (written (graymap_written (settings_of 1 10 (each 2) 2) 1 (replicate 10 (pos 3)) (sevens 19)) gives unwritten 14 19)
    -- "12 for a sample outside the plane's range", one below it and one above
    ∷ (writes (each 8) 2 2 (minus 256 ∷ pos 0 ∷ []) 15 gives unwritten 12 15)
    ∷ (writes (each 8) 2 2 (pos 0 ∷ pos 256 ∷ []) 15 gives unwritten 12 15)
    ∷ []

-- "Writing tests 2, 5, 6, 8, 13, 14, 12": each of these fails a test and the next one; "6 also for a plane number outside 1 to 3"
unfoldable pub write_order_cases : List Case
write_order_cases =
    (written (graymap_written (settings_of 0 1 (each 17) 2) 2 ends (sevens 15)) gives unwritten 2 15)
    ∷ (written (graymap_written (settings_of 2 8193 (each 8) 2) 2 ends (sevens 15)) gives unwritten 2 15)
    ∷ (writes (each 17) 4 2 ends 15 gives unwritten 5 15)
    ∷ (writes (each 8) 4 2 [] 15 gives unwritten 6 15)
    ∷ (writes (each 8) 2 0 [] 15 gives unwritten 6 15)
    ∷ (writes (each 8) 2 4 [] 15 gives unwritten 6 15)
    ∷ (writes (each 16) 1 3 [] 15 gives unwritten 8 15)
    ∷ (writes (each 16) 1 3 (pos 0 ∷ pos 0 ∷ []) 0 gives unwritten 13 0)
    ∷ (writes (each 8) 2 2 (pos 256 ∷ pos 0 ∷ []) 14 gives unwritten 14 14)
    ∷ []

-- ---- reading to a plane of two samples, 7 and 8
abbrev lent : List ℤ
lent = pos 7 ∷ pos 8 ∷ []

abbrev reads : Depths → (t n : ℕ) → List ℕ → Value
reads d t n f = read (graymap_read d t n f lent)

abbrev restores : List ℤ → Value
restores a = read (record { reply = done (record { width = 2; height = 1 }); memory = a })

abbrev unread : ℕ → Value
unread number = read (record { reply = refused number; memory = lent })

unfoldable pub read_cases : List Case
read_cases =
    -- what was written above
    (reads (each 8) 2 2 (headed d510 (0 ∷ 0 ∷ 1 ∷ 254 ∷ [])) gives restores ends)
    ∷ (reads (each 8) 2 1 (headed d255 (0 ∷ 255 ∷ [])) gives restores (pos 0 ∷ pos 255 ∷ []))
    ∷ (reads (depths_of 8 7 3) 0 2 (headed d256 (0 ∷ 0 ∷ 1 ∷ 0 ∷ [])) gives restores (minus 64 ∷ pos 192 ∷ []))
    ∷ (reads (each 16) 2 1 (headed d65535 (1 ∷ 2 ∷ 255 ∷ 255 ∷ [])) gives restores (pos 258 ∷ pos 65535 ∷ []))
    -- "with the P6 header rules": a comment, leading zeros, a tab; and a comment after maxval
    ∷ (reads (each 8) 2 1 (80 ∷ 53 ∷ 32 ∷ 35 ∷ 10 ∷ 48 ∷ 50 ∷ 9 ∷ 49 ∷ 10 ∷ d255 ++ 32 ∷ 1 ∷ 2 ∷ []) gives restores (pos 1 ∷ pos 2 ∷ []))
    ∷ (reads (each 8) 2 1 (headed (d255 ++ 35 ∷ []) (1 ∷ 2 ∷ [])) gives unread 1)
    -- the letter 6; "3 for another maxval in a P5 file"; one byte short
    ∷ (reads (each 8) 2 1 (80 ∷ 54 ∷ 10 ∷ 50 ∷ 32 ∷ 49 ∷ 10 ∷ d255 ++ 10 ∷ 1 ∷ 2 ∷ []) gives unread 1)
    ∷ (reads (each 8) 2 1 (headed d256 (0 ∷ 1 ∷ 0 ∷ 2 ∷ [])) gives unread 3)
    ∷ (reads (each 8) 2 2 (headed d510 (0 ∷ 0 ∷ 1 ∷ [])) gives unread 4)
    -- "12 for a sample outside the plane's range"
    ∷ (reads (each 8) 2 2 (headed d510 (0 ∷ 0 ∷ 1 ∷ 255 ∷ [])) gives unread 12)
    ∷ []

-- "reading tests 5, 6, 13, 1 to 4, 8, 12": each of these fails a test and the next one; of 1 to 4 the last
unfoldable pub read_order_cases : List Case
read_order_cases =
    (reads (each 17) 4 1 (headed d255 (1 ∷ 2 ∷ [])) gives unread 5)
    ∷ (reads (each 16) 1 4 (headed d255 (1 ∷ 2 ∷ [])) gives unread 6)
    ∷ (reads (each 16) 1 3 [] gives unread 13)
    ∷ (reads (depths_of 3 15 16) 0 2 [] gives unread 13)
    ∷ (read (graymap_read (each 8) 2 2 (headed d510 (0 ∷ 0 ∷ 1 ∷ [])) []) gives read (record { reply = refused 4; memory = [] }))
    ∷ (read (graymap_read (each 8) 2 2 (headed d510 (0 ∷ 0 ∷ 1 ∷ 255 ∷ [])) []) gives read (record { reply = refused 8; memory = [] }))
    ∷ []

abbrev pub GraymapCasesHold : Type 0
GraymapCasesHold = Hold raster_cases × Hold write_cases × Hold write_order_cases × Hold read_cases × Hold read_order_cases
