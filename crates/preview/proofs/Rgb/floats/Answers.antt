use Rattle.preview.proofs.Rows.{all_known}
use Rattle.preview.proofs.Stored.{stored, sample_is}
use Rattle.preview.proofs.Rgb.floats.Goals as goal

pub returns : goal.returns
returns c =
    let u = c.requires in
    rw (stored u.red, stored u.green, stored u.blue)
    (all_known (sample_is u.red) (sample_is u.green) (sample_is u.blue))
