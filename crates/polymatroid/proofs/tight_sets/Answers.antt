use Rattle.polymatroid.proofs.Side.{tight_sets}
use Rattle.polymatroid.proofs.tight_sets.Goals as goal

pub returns : goal.returns
returns c = tight_sets
