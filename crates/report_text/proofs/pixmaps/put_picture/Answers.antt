-- The first search that refuses, or four lines.
use Rattle.std.proofs.Common.{refl}
use Rattle.std.proofs.lemmas.Result.{err_from_is_err_and}
use native.Mathlib.Omega.{arith}
use Rattle.stage.specs.Planes.{samples}
use Rattle.report_text.proofs.Replies.{found_some, first_refused, second_refused, third_refused, fourth_refused, lines_done}
use Rattle.report_text.proofs.pixmaps.put_picture.Goals as goal

pub returns-in_err-s0-clause-put : goal.returns-in_err-s0-clause-put
returns-in_err-s0-clause-put c =
    let a = c.args in
    let r = err_from_is_err_and c.from_residual.result c.from_residual.ensures.1 in
    rw (r.1, r.2) (first_refused a.header (samples a.picture) c.in_err-s0.field-0.0 c.in_err-s0.ensures, refl, c.requires.none)

pub returns-in_err-s1-clause-put : goal.returns-in_err-s1-clause-put
returns-in_err-s1-clause-put c =
    let a = c.args in
    let r = err_from_is_err_and c.from_residual-in_err-s1.result c.from_residual-in_err-s1.ensures.1 in
    rw (r.1, r.2) (second_refused a.header (samples a.picture) c.in_ok-s0.s0 c.in_ok-s0.ensures c.in_err-s1.field-0.0 c.in_err-s1.ensures, refl, c.requires.none)

pub returns-in_err-s2-clause-put : goal.returns-in_err-s2-clause-put
returns-in_err-s2-clause-put c =
    let a = c.args in
    let r = err_from_is_err_and c.from_residual-in_err-s2.result c.from_residual-in_err-s2.ensures.1 in
    rw (r.1, r.2) (third_refused a.header (samples a.picture) c.in_ok-s0.s0 c.in_ok-s0.ensures c.in_ok-s1.s1 c.in_ok-s1.ensures c.in_err-s2.field-0.0 c.in_err-s2.ensures, refl, c.requires.none)

pub returns-in_err-s3-clause-put : goal.returns-in_err-s3-clause-put
returns-in_err-s3-clause-put c =
    let a = c.args in
    let r = err_from_is_err_and c.from_residual-in_err-s3.result c.from_residual-in_err-s3.ensures.1 in
    rw (r.1, r.2) (fourth_refused a.header (samples a.picture) c.in_ok-s0.s0 c.in_ok-s0.ensures c.in_ok-s1.s1 c.in_ok-s1.ensures c.in_ok-s2.s2 c.in_ok-s2.ensures c.in_err-s3.field-0.0 c.in_err-s3.ensures, refl, c.requires.none)

pub put_lines-requires : goal.put_lines-requires
put_lines-requires c =
    let a = c.args in
    record {
      empty = c.requires;
      room = omega arith;
      some0 = found_some a.header (samples a.picture) 0 c.in_ok-s0.s0 c.in_ok-s0.ensures;
      some1 = found_some a.header (samples a.picture) 1 c.in_ok-s1.s1 c.in_ok-s1.ensures;
      some2 = found_some a.header (samples a.picture) 2 c.in_ok-s2.s2 c.in_ok-s2.ensures;
      some3 = found_some a.header (samples a.picture) 3 c.in_ok-s3.s3 c.in_ok-s3.ensures;
    }

pub returns-clause-put : goal.returns-clause-put
returns-clause-put c =
    let a = c.args in
    (_, lines_done a.header (samples a.picture) c.in_ok-s0.s0 c.in_ok-s0.ensures c.in_ok-s1.s1 c.in_ok-s1.ensures c.in_ok-s2.s2 c.in_ok-s2.ensures c.in_ok-s3.s3 c.in_ok-s3.ensures, c.put_lines.ensures.written)
