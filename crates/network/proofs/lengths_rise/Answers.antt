use Rattle.network.proofs.Stages.{lengths_rise}
use Rattle.network.proofs.lengths_rise.Goals as goal

pub returns : goal.returns
returns c = lengths_rise
