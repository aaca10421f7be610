use Rattle.network.proofs.Found.{search_finds}
use Rattle.network.proofs.search_finds.Goals as goal

pub returns : goal.returns
returns c = search_finds
