use Rattle.network.proofs.Cuts.{cut_bounds}
use Rattle.network.proofs.cut_bounds.Goals as goal

pub returns : goal.returns
returns c = cut_bounds
