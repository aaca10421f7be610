use Rattle.network.proofs.Bound.{few_share_a_length}
use Rattle.network.proofs.few_share_a_length.Goals as goal

pub returns : goal.returns
returns c = few_share_a_length
