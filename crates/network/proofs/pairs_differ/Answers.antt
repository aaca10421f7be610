use Rattle.network.proofs.Stages.{pairs_differ}
use Rattle.network.proofs.pairs_differ.Goals as goal

pub returns : goal.returns
returns c = pairs_differ
