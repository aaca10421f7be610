use Rattle.std.proofs.Common.{◌≡◌, length}
use Rattle.rooms.specs.Rooms.{at}
use Rattle.tables.specs.Tables.{meaning_in}
use Rattle.measures.specs.Measures.{MeasuredBelow}
use Rattle.measures.proofs.lanes.measure.Given as goal

-- the rooms at the sides so far are measured
abbrev pub invariant-loop-side : goal.invariant-loop-side
invariant-loop-side l =
    (length l.rooms ≡ length l.initial.rooms)
    × MeasuredBelow (meaning_in l.floor.tables.now) (at l.floor.trays.now) l.rooms l.side
