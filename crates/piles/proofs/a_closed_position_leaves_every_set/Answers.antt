use Rattle.piles.proofs.Meant.{closing_closes}
use Rattle.piles.proofs.a_closed_position_leaves_every_set.Goals as goal

pub returns : goal.returns
returns c = closing_closes
