use Rattle.network.proofs.Moves.{pair_dies}
use Rattle.network.proofs.pair_dies.Goals as goal

pub returns : goal.returns
returns c = pair_dies
