use Rattle.polymatroid.proofs.Tables.{tests_decide}
use Rattle.polymatroid.proofs.tests_decide.Goals as goal

pub returns : goal.returns
returns c = tests_decide
