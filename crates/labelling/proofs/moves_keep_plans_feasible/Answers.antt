use Rattle.labelling.proofs.Moving.{moves_keep_plans_feasible}
use Rattle.labelling.proofs.moves_keep_plans_feasible.Goals as goal

pub returns : goal.returns
returns c = moves_keep_plans_feasible
