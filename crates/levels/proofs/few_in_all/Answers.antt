use Rattle.levels.proofs.Counting.{few_in_all}
use Rattle.levels.proofs.few_in_all.Goals as goal

pub returns : goal.returns
returns c = few_in_all
