use Rattle.levels.proofs.Counting.{few_at_one_length}
use Rattle.levels.proofs.few_at_one_length.Goals as goal

pub returns : goal.returns
returns c = few_at_one_length
