use Rattle.measures.proofs.ByRooms.{rooms_rule}
use Rattle.measures.proofs.rooms_rule.Goals as goal

pub returns : goal.returns
returns c = rooms_rule
