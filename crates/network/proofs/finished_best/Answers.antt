use Rattle.network.proofs.Finished.{finished_best}
use Rattle.network.proofs.finished_best.Goals as goal

pub returns : goal.returns
returns c = finished_best
