use Rattle.labelling.proofs.Runs.{runs_finish}
use Rattle.labelling.proofs.runs_finish.Goals as goal

pub returns : goal.returns
returns c = runs_finish
