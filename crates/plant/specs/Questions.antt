-- What a plant answers: what its meaning says, or the refusal where the lane, side, position or set is not on the floor.
use Rattle.std.specs.Prelude.{ℕ, ◌^◌, Bool, cond, ◌&&◌, Ok, Err, Result, nat_lt}
use Rattle.plant.specs.declared.OffFloor.{OffFloor}
use Rattle.floor.specs.Floor.{Floor, sides, width, end_of, station_of, lane_at, leaving, entering}
use Rattle.floor.specs.Meaning.{Meaning}

-- x where the test passes, and else the refusal
abbrev pub answered : {X : Type 0} → Bool → X → Result X OffFloor
answered on x = cond on (Ok x) (Err (record {}))

-- the station that a lane leaves and the one that it enters
abbrev pub ends_asked : Floor → ℕ → Result (ℕ × ℕ) OffFloor
ends_asked F e = answered (nat_lt e F.lanes) (F.end leaving e, F.end entering e)

-- how many lanes a side has
abbrev pub width_asked : Floor → ℕ → Result ℕ OffFloor
width_asked F s = answered (nat_lt s (sides F)) (width F s)

-- the lane at a position of a side
abbrev pub lane_asked : Floor → ℕ → ℕ → Result ℕ OffFloor
lane_asked F s p = answered (nat_lt s (sides F) && nat_lt p (width F s)) (lane_at F (end_of s) (station_of s) p)

-- the cap of a set of lanes of a side
abbrev pub cap_asked : Meaning → ℕ → ℕ → Result ℕ OffFloor
cap_asked M s X = answered (nat_lt s (sides M.floor) && nat_lt X (2 ^ width M.floor s)) (M.cap (end_of s) (station_of s) X)
