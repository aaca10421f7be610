use Rattle.labelling.proofs.Worked.{worked_floors_hold}
use Rattle.labelling.proofs.worked_floors_hold.Goals as goal

pub returns : goal.returns
returns c = worked_floors_hold
