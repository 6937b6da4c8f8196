-- The report (01, "Pixmaps and the report"): from the bytes of the input to the bytes that are printed.
use Rattle.std.specs.Prelude.{cond, List, ◌++◌, ℕ, ltb, pos, length, replicate}
use Rattle.stage.specs.Answers.{Reply, done, refused, Outcome}
use Rattle.stage.specs.Settings.{each, settings_of}
use Rattle.stage.specs.Planes.{Planes, triple}
use Rattle.stage.specs.Steps.{steps, places}
use Rattle.stage.specs.declared.Header.{Header}
use Rattle.stage.specs.Pixmap.{header_of, raster_of, raster_planes}
use Rattle.stage.specs.declared.Estimated.{Estimated}
use Rattle.stage.specs.Search.{Lent, search_call}
use Rattle.report_text.specs.Text.{line, title, rct, ycocg_r, rdgdb, ldgeb, refusal_line}

-- "The program lends trial planes for 2,048 pixels and 1,785 counters", here all zero
unfoldable pub lent : List ℕ → Lent
lent choices =
    let trial = replicate 2048 (pos 0) in
    record { choices = choices; scratch = record { trials = triple trial trial trial; counters = replicate 1785 0 } }

-- "searches with two rounds", for transform t; a file has one depth for all planes
unfoldable pub search_of : Header → Planes → ℕ → Outcome Estimated Lent
search_of h p t = search_call (settings_of h.width h.height (each h.depth) t) p 2 (lent (replicate (places (steps t)) 0))

abbrev pub line_by : List ℕ → List ℕ → Reply Estimated → Reply (List ℕ)
line_by name φ (done e) = done (line name φ e)
line_by name φ (refused n) = refused n

-- the line of transform t, or the search's refusal
abbrev pub line_of : Header → Planes → List ℕ → ℕ → Reply (List ℕ)
line_of h p name t = line_by name (search_of h p t).memory.choices (search_of h p t).reply

-- one text and then the other, or the first refusal
abbrev pub both : Reply (List ℕ) → Reply (List ℕ) → Reply (List ℕ)
both (done a) (done b) = done (a ++ b)
both (done a) (refused n) = refused n
both (refused n) r = refused n

-- the four transforms in order
unfoldable pub lines : Header → Planes → Reply (List ℕ)
lines h p = both (both (both (line_of h p rct 0) (line_of h p ycocg_r 1)) (line_of h p rdgdb 2)) (line_of h p ldgeb 3)

-- the header line and the four others, or "only" the refusal
abbrev pub printed : Reply (List ℕ) → List ℕ
printed (done l) = title ++ l
printed (refused n) = refusal_line n

-- of a file, by its header and its raster
abbrev pub lines_by : Reply Header → List ℕ → Reply (List ℕ)
lines_by (done h) raster = lines h (raster_planes h.depth raster)
lines_by (refused n) raster = refused n

-- "Input above 8,192 bytes gives `refused 9` before its header is read."
abbrev pub file_lines : List ℕ → Reply (List ℕ)
file_lines file = cond (ltb 8192 (length file)) (refused 9) (lines_by (header_of file) (raster_of file))

unfoldable pub report_of : List ℕ → List ℕ
report_of file = printed (file_lines file)
