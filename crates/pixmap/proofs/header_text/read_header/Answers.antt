-- The fields' promises make up the header's.
use Rattle.pixmap.proofs.HeaderFields.{no_letters, no_width, none_high, none_most, unended, ended}
use Rattle.pixmap.proofs.header_text.read_header.Goals as goal

pub returns-then-not-letters : goal.returns-then-not-letters
returns-then-not-letters c = no_letters c.args.letter c.args.file _ _ c.byte.ensures c.byte-2.ensures c.if-not-letters.true

pub returns-in_err-w : goal.returns-in_err-w
returns-in_err-w c = rw c.from_residual.ensures (no_width c.args.letter c.args.file c.in_err-w.ensures)

pub returns-in_err-h : goal.returns-in_err-h
returns-in_err-h c = rw c.from_residual-in_err-h.ensures (none_high c.args.letter c.args.file _ _ c.byte.ensures c.byte-2.ensures _ c.in_ok-w.ensures c.in_err-h.ensures)

pub returns-in_err-m : goal.returns-in_err-m
returns-in_err-m c =
    rw c.from_residual-in_err-m.ensures (none_most c.args.letter c.args.file _ _ c.byte.ensures c.byte-2.ensures _ c.in_ok-w.ensures _ c.in_ok-h.ensures c.in_err-m.ensures)

pub returns-then-not-is_white : goal.returns-then-not-is_white
returns-then-not-is_white c =
    unended c.args.letter c.args.file _ _ c.byte.ensures c.byte-2.ensures _ c.in_ok-w.ensures _ c.in_ok-h.ensures _ c.in_ok-m.ensures _ _ c.byte-3.ensures c.is_white.ensures
    c.if-not-is_white.true

pub returns : goal.returns
returns c =
    ended c.args.letter c.args.file _ _ c.byte.ensures c.byte-2.ensures _ c.in_ok-w.ensures _ c.in_ok-h.ensures _ c.in_ok-m.ensures _ _ c.byte-3.ensures c.is_white.ensures
    c.if-not-letters.false c.if-not-is_white.false _ c.part_behind.ensures
