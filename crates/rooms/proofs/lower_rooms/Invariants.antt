use Rattle.std.proofs.Common.{◌≡◌, ℕ, ◌<◌, ◌≤◌, get_or}
use Rattle.rooms.specs.Rooms.{lowered}
use Rattle.rooms.proofs.lower_rooms.Given as goal

-- the rooms of the first positions have been lowered, the others are as they were
abbrev pub invariant-loop-position : goal.invariant-loop-position
invariant-loop-position l =
    ((p : ℕ) → p < l.position → get_or l.rooms p 0 ≡ lowered l.set l.most l.initial.rooms p)
    × ((p : ℕ) → l.position ≤ p → get_or l.rooms p 0 ≡ get_or l.initial.rooms p 0)
