use Rattle.std.proofs.Common.{refl, arith, rules}
use Rattle.kernel.proofs.Reciprocals.{entry_sound}
use Rattle.kernel.proofs.centre.centre_at.Goals as goal

pub overflow_add-weight : goal.overflow_add-weight
overflow_add-weight c = let e = entry_sound c.args.entry c.requires in search rules

pub reciprocal_of-requires : goal.reciprocal_of-requires
reciprocal_of-requires c = let e = entry_sound c.args.entry c.requires in omega arith

pub returns : goal.returns
returns c =
    let e = entry_sound c.before.args.entry c.before.requires in
    record { is = refl; sound = record { least = e.least; most = e.most; product = e.product; divides = c.reciprocal_of.ensures } }
