use Rattle.labelling.proofs.Runs.{moves_are_few}
use Rattle.labelling.proofs.moves_are_few.Goals as goal

pub returns : goal.returns
returns c = moves_are_few
