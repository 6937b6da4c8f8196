use Rattle.preview.specs.Quarters.{pixel_quarters}
use Rattle.preview.specs.Spaces.{HVSCT, YCoCg}
use Rattle.preview.proofs.Found.{has_iff}
use Rattle.preview.proofs.Preview.candidate.Goals as goal

pub returns-in-Hvsct : goal.returns-in-Hvsct
returns-in-Hvsct c =
    rw c.in-Hvsct.is (λ s u h. c.samples.ensures s u (c.inverse.ensures s u ((has_iff HVSCT (pixel_quarters _) s).0 h)))

pub returns-in-Ycocg : goal.returns-in-Ycocg
returns-in-Ycocg c =
    rw c.in-Ycocg.is (λ s u h. c.samples-in-Ycocg.ensures s u (c.inverse-in-Ycocg.ensures s u ((has_iff YCoCg (pixel_quarters _) s).0 h)))
