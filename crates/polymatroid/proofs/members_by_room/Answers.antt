use Rattle.polymatroid.proofs.Zeroing.{members_by_room}
use Rattle.polymatroid.proofs.members_by_room.Goals as goal

pub returns : goal.returns
returns c = members_by_room
