use Rattle.labelling.proofs.Best.{finished_is_best}
use Rattle.labelling.proofs.finished_is_best.Goals as goal

pub returns : goal.returns
returns c = finished_is_best
