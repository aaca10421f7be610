use mathlib.Core.Path.{ap}
use lib.Dec.{eqb}
use Rattle.polymatroid.specs.Sets.{has}
use Rattle.setcodes.proofs.contains.Goals as goal

pub returns : goal.returns
unfolding has
returns c = ap (λ n. eqb n 1) c.digit.ensures
