-- The floor and the trays of a standing, and its rules of a scan.
use Rattle.std.specs.Prelude.{ℕ, Bool, vec_len}
use Rattle.floor.specs.Meaning.{Meaning}
use Rattle.network.specs.States.{State}
use Rattle.rooms.specs.Rooms.{at}
use Rattle.tables.specs.Tables.{meaning_in}
use Rattle.measures.specs.ByRooms.{ruled_by_rooms}
use Rattle.scans.specs.declared.standing.Standing.{Standing}

-- the floor and its caps
abbrev pub meaning_of : Standing → Meaning
meaning_of s = meaning_in s.floor.tables.now

-- the trays of each lane
abbrev pub trays_of : Standing → ℕ → ℕ
trays_of s = at s.floor.trays.now

-- how many lanes there are
abbrev pub lanes_of : Standing → ℕ
lanes_of s = vec_len s.floor.tables.now.lanes

-- who gives a label to whom
abbrev pub rule_of : Standing → State → State → Bool
rule_of s = ruled_by_rooms (meaning_of s) (trays_of s)
