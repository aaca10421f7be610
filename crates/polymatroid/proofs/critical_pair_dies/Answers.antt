use Rattle.polymatroid.proofs.Critical.{critical_pair_dies}
use Rattle.polymatroid.proofs.critical_pair_dies.Goals as goal

pub returns : goal.returns
returns c = critical_pair_dies
