use Rattle.moves.proofs.ByRooms.{amounts_by_rooms}
use Rattle.moves.proofs.amounts_by_rooms.Goals as goal

pub returns : goal.returns
returns c = amounts_by_rooms
