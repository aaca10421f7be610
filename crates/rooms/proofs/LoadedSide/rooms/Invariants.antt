use Rattle.std.proofs.Common.{length}
use Rattle.rooms.specs.Rooms.{at}
use Rattle.rooms.proofs.Rounds.{Roomed}
use Rattle.rooms.proofs.LoadedSide.rooms.Given as goal

abbrev pub invariant-loop-set : goal.invariant-loop-set
invariant-loop-set l = Roomed (length l.self.trays.items) (at l.self.caps.now) (at l.self.trays.items) l.rooms l.set
