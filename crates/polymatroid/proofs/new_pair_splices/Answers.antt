use Rattle.polymatroid.proofs.Critical.{new_pair_splices}
use Rattle.polymatroid.proofs.new_pair_splices.Goals as goal

pub returns : goal.returns
returns c = new_pair_splices
