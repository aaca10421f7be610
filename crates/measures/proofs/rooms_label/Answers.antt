use Rattle.measures.proofs.ByRooms.{rooms_label}
use Rattle.measures.proofs.rooms_label.Goals as goal

pub returns : goal.returns
returns c = rooms_label
