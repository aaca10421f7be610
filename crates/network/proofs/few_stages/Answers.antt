use Rattle.network.proofs.Bound.{few_stages}
use Rattle.network.proofs.few_stages.Goals as goal

pub returns : goal.returns
returns c = few_stages
