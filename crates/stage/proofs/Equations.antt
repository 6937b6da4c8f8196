-- 01's equations are what the lists of steps compute to.
use mathlib.Core.Path.{refl}
use Rattle.stage.specs.Transform.{transformed, untransformed}
use Rattle.stage.specs.Equations.{EquationsHold}

pub equations_hold : EquationsHold
unfolding transformed untransformed
equations_hold = (
  record { there = λ κ β w h d φ p. refl; back = λ κ β w h d φ q. refl },
  record { there = λ κ β w h d φ p. refl; back = λ κ β w h d φ q. refl },
  record { there = λ κ β w h d φ p. refl; back = λ κ β w h d φ q. refl },
  record { there = λ κ β w h d φ p. refl; back = λ κ β w h d φ q. refl },
)
