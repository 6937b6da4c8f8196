-- The cases, by computation: each inequality is one of two numbers.
use mathlib.Core.Path.{refl}
use lib.Dec.{ltb→lt, le→leb}
use Rattle.stage.specs.Estimate.{med, prediction, residual, counted, counted_index, occurrences, histogram}
use Rattle.entropy.specs.Entropy.{product}
use Rattle.entropy.specs.EntropyCases.{EntropyCases}

pub entropy_cases : EntropyCases
unfolding product med prediction residual counted counted_index occurrences histogram
entropy_cases = record {
  one = record { high = ltb→lt _ _ tt; low = ltb→lt _ _ tt };
  one_only = λ x. le→leb _ _ x.high;
  counts = refl;
  powers = refl;
  plane = record {
    from = record { high = ltb→lt _ _ tt; low = ltb→lt _ _ tt };
    to = record { high = ltb→lt _ _ tt; low = ltb→lt _ _ tt };
    not_less = λ x. le→leb _ _ x.low;
    not_more = λ x. le→leb _ _ x.high;
  };
  even = record {
    from = record { high = ltb→lt _ _ tt; low = ltb→lt _ _ tt };
    to = record { high = ltb→lt _ _ tt; low = ltb→lt _ _ tt };
    not_less = λ x. le→leb _ _ x.low;
    not_more = λ x. le→leb _ _ x.high;
  };
  planes = record {
    from = record { high = ltb→lt _ _ tt; low = ltb→lt _ _ tt };
    to = record { high = ltb→lt _ _ tt; low = ltb→lt _ _ tt };
    not_less = λ x. le→leb _ _ x.low;
    not_more = λ x. le→leb _ _ x.high;
  };
}
