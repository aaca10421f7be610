use Rattle.measures.proofs.ByRooms.{rooms_beside}
use Rattle.measures.proofs.rooms_beside.Goals as goal

pub returns : goal.returns
returns c = rooms_beside
