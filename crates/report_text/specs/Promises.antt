-- What the functions ask and promise of a report's text, in a buffer and as an answer.
use Rattle.std.specs.Prelude.{◌≡◌, List, ◌++◌, ℕ, ◌+◌, ◌*◌, ◌-◌, ◌≤◌, length, replicate, Result, Ok, Err}
use Rattle.stage.specs.declared.Refusal.{Refusal}
use Rattle.stage.specs.Answers.{Reply, done, refused, number_of}
use Rattle.text.specs.Written.{Written}
use Rattle.report_text.specs.declared.Output.{Output}
use Rattle.report_text.specs.declared.lines.Line.{Line}
use Rattle.report_text.specs.Text.{title, line}
use Rattle.report_text.specs.Report.{report_of}

-- room enough for the four numbers of a line, each a blank and at most ten digits,
abbrev pub numbers_room : ℕ
numbers_room = 4 * 11

-- and for a line, whose filters take a separator and at most three digits each
abbrev pub line_room : List ℕ → List ℕ → ℕ
line_room name φ = length name + 4 * length φ + numbers_room + 1

-- a place of a text with so much room, for numbers of a search that counted a sample
pub record Room (text : List ℕ) (at room samples : ℕ) : Type 0 where
  pub fits : at + room ≤ length text
  pub some : 1 ≤ samples

-- a piece at such a place
pub record WrittenIn (before : List ℕ) (at room : ℕ) (piece after : List ℕ) (end : ℕ) : Type 0 where
  pub written : Written before at piece after end
  pub fits : end ≤ at + room

-- room enough for any report, and a report at the front of a text
abbrev pub report_room : ℕ
report_room = 320

abbrev pub ReportAt : (before report after : List ℕ) (end : ℕ) → Type 0
ReportAt before report after end = WrittenIn before 0 report_room report after end

-- a text with room for a report, of which nothing is written yet
pub record Empty (text : List ℕ) (at : ℕ) : Type 0 where
  pub room : report_room ≤ length text
  pub none : at ≡ 0

-- the lines of a reply behind the header line; or its refusal, and nothing is written
abbrev pub LinesPut : Reply (List ℕ) → Result (Unit {0}) Refusal → (before after : List ℕ) (end : ℕ) → Type 0
LinesPut r (Ok u) before after end = (l : List ℕ) × (r ≡ done l) × ReportAt before (title ++ l) after end
LinesPut r (Err e) before after end = (r ≡ refused (number_of e)) × (after ≡ before) × (end ≡ 0)

-- what the lines of four searches are written with, and what is then written
pub record LinesRoom (text : List ℕ) (at : ℕ) (l0 l1 l2 l3 : Line) : Type 0 where
  pub empty : Empty text at
  pub room : length title + (line_room l0.name.now l0.filters.now + line_room l1.name.now l1.filters.now + line_room l2.name.now l2.filters.now + line_room l3.name.now l3.filters.now) ≤ report_room
  pub some0 : 1 ≤ l0.found.samples
  pub some1 : 1 ≤ l1.found.samples
  pub some2 : 1 ≤ l2.found.samples
  pub some3 : 1 ≤ l3.found.samples

abbrev pub FourLines : (before : List ℕ) (l0 l1 l2 l3 : Line) (after : List ℕ) (end : ℕ) → Type 0
FourLines before l0 l1 l2 l3 after end =
    ReportAt before (title ++ (line l0.name.now l0.filters.now l0.found ++ line l1.name.now l1.filters.now l1.found ++ line l2.name.now l2.filters.now l2.found ++ line l3.name.now l3.filters.now l3.found)) after end

-- the text is the report and then zeros
pub record OutputIs (report : List ℕ) (r : Output) : Type 0 where
  pub text_is : r.text ≡ report ++ replicate (report_room - r.length) 0
  pub length_is : r.length ≡ length report
  pub fits : r.length ≤ report_room

-- What is handed over to be printed: the report on a file of at most 8,193 bytes. That those are the first bytes of the input, and that
-- the report's bytes are written, rests with the library's `read` and `write_all`: no contract says which bytes the system moves.
pub record Printed (r : Output) : Type 0 where
  pub file : List ℕ
  pub short : length file ≤ 8193
  pub output_is : OutputIs (report_of file) r
