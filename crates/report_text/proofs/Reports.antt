-- The report in each of its cases, and the text that it is written to.
use mathlib.Core.Path.{◌≡◌, sym, ap, ◌∙◌}
use mathlib.Core.List.{List, ◌++◌}
use Prim.Native.Nat.{ℕ, zero, suc, ◌-◌, ◌≤◌, ◌<◌}
use native.Mathlib.Omega.{arith}
use lib.ListN.{length, take, drop, replicate, length-append, length-take, length-replicate}
use lib.Seq.{length-take-le}
use borrow.Author.Tests.{lt-ltb, le-ltb}
use Rattle.stage.specs.Answers.{Reply, done, refused}
use Rattle.stage.specs.declared.Header.{Header}
use Rattle.stage.specs.Pixmap.{header_of, raster_of, raster_planes}
use Rattle.text.proofs.Written.{written_parts}
use Rattle.report_text.specs.Text.{title, refusal_line}
use Rattle.report_text.specs.declared.Output.{Output}
use Rattle.report_text.specs.Promises.{report_room, ReportAt, OutputIs, Printed}
use Rattle.report_text.specs.Report.{lines, printed, lines_by, file_lines, report_of}

module _ (file : List ℕ) where
  pub file_long : 8192 < length file → file_lines file ≡ refused 9
  file_long h = rw (lt-ltb 8192 (length file) h)

  pub file_refused : (n : ℕ) → length file ≤ 8192 → refused n ≡ header_of file → file_lines file ≡ refused n
  file_refused n h e = rw (le-ltb 8192 (length file) h, ← e)

  pub file_read : (h : Header) → length file ≤ 8192 → done h ≡ header_of file → file_lines file ≡ lines h (raster_planes h.depth (raster_of file))
  file_read h l e = rw (le-ltb 8192 (length file) l) (sym (ap (λ (r : Reply Header). lines_by r (raster_of file)) e))

-- the report of a file's lines, and of its refusal
pub lines_reported : (file l : List ℕ) → file_lines file ≡ done l → title ++ l ≡ report_of file
unfolding report_of
lines_reported file l e = sym (ap printed e)

pub refusal_reported : (file : List ℕ) (n : ℕ) → file_lines file ≡ refused n → refusal_line n ≡ report_of file
unfolding report_of
refusal_reported file n e = sym (ap printed e)

drop-replicate : (n m a : ℕ) → drop n (replicate m a) ≡ replicate (m - n) a
drop-replicate zero m a = let e : m - 0 ≡ m = omega arith in rw e
drop-replicate (suc n) zero a = let e : 0 - suc n ≡ 0 = omega arith in rw e
drop-replicate (suc n) (suc m) a = let e : suc m - suc n ≡ m - n = omega arith in rw e (drop-replicate n m a)

-- the same report, otherwise written
pub report_as : {a p q b : List ℕ} {n : ℕ} → p ≡ q → ReportAt a p b n → ReportAt a q b n
report_as {a} {p} {q} {b} {n} e w = rw e at w

-- what was written at the front of zeros
pub output_is : (report : List ℕ) (r : Output) → ReportAt (replicate report_room 0) report r.text r.length → OutputIs report r
output_is report r w =
    record {
      text_is = written_parts w.written (omega (arith, w.fits, length-replicate {A = ℕ} report_room 0)) ∙ ap (λ l. report ++ l) (drop-replicate r.length report_room 0);
      length_is = omega (arith, w.written.end_is);
      fits = w.fits;
    }

-- the report's bytes are a part of the text
pub output_within : {report : List ℕ} {r : Output} → OutputIs report r → r.length ≤ length r.text
output_within {report} {r} o = omega (arith, o.length_is, simp length-append at (ap length o.text_is))

pub output_count : {report : List ℕ} {r : Output} → OutputIs report r → r.length ≡ length (take r.length r.text)
output_count {report} {r} o = sym (length-take-le r.length r.text (output_within o))

-- the report on what was read, the first n bytes of a buffer
pub printed_part : (n : ℕ) (l : List ℕ) {r : Output} → n ≤ 8193 → OutputIs (report_of (take n l)) r → Printed r
printed_part n l h o = record { file = take n l; short = simp length-take (omega arith); output_is = o }
