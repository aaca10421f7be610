use Rattle.polymatroid.proofs.Tables.{tables_tested}
use Rattle.polymatroid.proofs.tables_tested.Goals as goal

pub returns : goal.returns
returns c = tables_tested
