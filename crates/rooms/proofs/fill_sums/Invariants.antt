use Rattle.rooms.specs.Rooms.{at}
use Rattle.rooms.proofs.Doubling.{Loaded}
use Rattle.rooms.proofs.fill_sums.Given as goal

abbrev pub invariant-loop-position : goal.invariant-loop-position
invariant-loop-position l = Loaded (at l.trays) l.sums l.position
