use Rattle.piles.proofs.Meant.{ceiling_bounds}
use Rattle.piles.proofs.a_ceiling_bounds_its_side.Goals as goal

pub returns : goal.returns
returns c = ceiling_bounds
