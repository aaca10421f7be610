use Rattle.polymatroid.proofs.Worked.{worked_tables}
use Rattle.polymatroid.proofs.worked_tables_hold.Goals as goal

pub returns : goal.returns
returns c = worked_tables
