use Rattle.std.proofs.Common.{vec_items}
use Rattle.answers.proofs.Positions.{Found}
use Rattle.answers.proofs.file_plant.FilePlant.lanes_on.Given as goal

abbrev pub invariant-loop-number : goal.invariant-loop-number
invariant-loop-number l = Found l.self.head (vec_items l.self.lanes) l.side l.numbers l.count l.number
