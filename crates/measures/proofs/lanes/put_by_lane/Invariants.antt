use Rattle.std.proofs.Common.{length}
use Rattle.measures.specs.Measures.{Put}
use Rattle.measures.proofs.lanes.put_by_lane.Given as goal

-- the rooms so far are put
abbrev pub invariant-loop-lane : goal.invariant-loop-lane
invariant-loop-lane l = Put l.entering l.lanes l.on l.initial.rooms l.rooms (length l.yielded)
