use Rattle.labelling.proofs.Best.{path_missing_when_best}
use Rattle.labelling.proofs.path_missing_when_best.Goals as goal

pub returns : goal.returns
returns c = path_missing_when_best
