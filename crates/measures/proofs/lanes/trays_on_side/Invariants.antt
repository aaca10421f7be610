use Rattle.std.proofs.Common.{◌≡◌, ℕ, ◌<◌, length, get_or}
use Rattle.rooms.specs.Rooms.{at}
use Rattle.measures.proofs.lanes.trays_on_side.Given as goal

-- the trays of the lanes so far are there
abbrev pub invariant-loop-lane : goal.invariant-loop-lane
invariant-loop-lane l =
    (length l.trays.items ≡ l.lane-index)
    × ((p : ℕ) → p < l.lane-index → get_or l.trays.items p 0 ≡ at l.floor.trays.now (get_or l.lane-items p 0))
