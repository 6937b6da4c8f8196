use Rattle.std.proofs.Common.{arith}
use Rattle.integers.proofs.Booleans.{true_holds}
use Rattle.preview.specs.Calls.{preview_reply}
use Rattle.preview.proofs.Found.{depth_most, bits_16, no_samples, other_floats, samples_found}
use Rattle.preview.proofs.back.go_back.Goals as goal

pub returns-in_err-require-2 : goal.returns-in_err-require-2
returns-in_err-require-2 c =
    let h = no_samples c.args.depth (preview_reply c.args.v) c.candidate-s.result (grind arith) c.candidate-s.ensures in
    grind (arith, h)

pub has-requires : goal.has-requires
has-requires c =
    bits_16 c.args.depth c.candidate-s.result (depth_most _ (grind arith)) (true_holds (grind arith))

pub returns-in_err-require-3 : goal.returns-in_err-require-3
returns-in_err-require-3 c =
    let h = other_floats c.args.depth (preview_reply c.args.v) c.candidate-s.result (grind arith) c.candidate-s.ensures in
    grind (arith, h)

pub returns : goal.returns
returns c = samples_found c.args.depth (preview_reply c.args.v) c.candidate-s.result (grind arith) c.candidate-s.ensures (grind arith) (grind arith)
