-- From one sample to the next there remains to be written what is behind it.
use mathlib.Core.Path.{ap, ◌∙◌}
use native.Mathlib.Omega.{arith}
use lib.ListN.{length, length-append}
use Rattle.text.proofs.Written.{remains_less, remains_none, remains_long}
use Rattle.raster.proofs.Raised.{sample_raisable, value_most, next_raised, none_raised}
use Rattle.raster.proofs.writing.put_all.Goals as goal

pub less_lowest-requires : goal.less_lowest-requires
less_lowest-requires g c = sample_raisable c.requires g.met.T.Sample.most_fits c.loop-z.z-index

pub put-requires-clause-fits : goal.put-requires-clause-fits
put-requires-clause-fits g c = value_most c.requires g.met.T.Sample.most_fits c.loop-z.z-index c.less_lowest.ensures

pub put-requires-clause-room : goal.put-requires-clause-room
put-requires-clause-room g c =
    let p = c.loop-z.invariant.written in
    let e = ap g.T.Sample.bytes (next_raised c.requires g.met.T.Sample.most_fits c.loop-z.z-index c.less_lowest.ensures (omega arith)) ∙ g.met.T.Sample.each_written c.less_lowest.result _ in
    omega (arith, p.end_is, remains_long p, simp length-append at (ap length e), c.requires.room)

pub loop-z-preserved : goal.loop-z-preserved
loop-z-preserved g c =
    let i = c.loop-z.invariant in
    let e = ap g.T.Sample.bytes (next_raised c.requires g.met.T.Sample.most_fits c.loop-z.z-index c.less_lowest.ensures (omega arith)) ∙ g.met.T.Sample.each_written c.less_lowest.result _ in
    record { same = c.put.ensures.same ∙ i.same; written = remains_less _ (rw e at i.written) c.put.ensures.written }

pub returns-clause-written : goal.returns-clause-written
returns-clause-written g c =
    let e = ap g.T.Sample.bytes (none_raised c.args.range c.args.samples.now c.loop-z.z-index (omega arith)) ∙ g.met.T.Sample.none_written in
    remains_none {text = c.loop-z.to.text.now} {next = c.loop-z.to.at} (rw e at c.loop-z.invariant.written)
