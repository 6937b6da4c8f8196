use Rattle.std.proofs.Common.{arith, ◌∙◌}
use Rattle.transform.proofs.Refusals.{no_bands, bands_rounded_up, bands_few}
use Rattle.transform.proofs.settings.band_count.Goals as goal

pub returns-then-rows-eq0 : goal.returns-then-rows-eq0
returns-then-rows-eq0 c = let a = c.args in (no_bands a.rows a.height c.if-rows-eq0.true, omega arith)

pub returns : goal.returns
returns c =
    let a = c.args in
    let e = bands_rounded_up a.rows a.height (omega arith) in
    (c.div_ceil.ensures ∙ e, omega (arith, bands_few a.rows a.height (omega arith) (omega arith), c.div_ceil.ensures, e))
