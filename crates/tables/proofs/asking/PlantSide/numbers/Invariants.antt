use Rattle.std.proofs.Common.{◌≡◌, take, length, map}
use Rattle.std.specs.List.{range_with_len}
use Rattle.floor.specs.Numbers.{most_on_side}
use Rattle.floor.specs.Floor.{lane_at, end_of, station_of}
use Rattle.tables.proofs.asking.PlantSide.numbers.Given as goal

-- the lanes at the positions so far are there
abbrev pub invariant-loop-position : goal.invariant-loop-position
invariant-loop-position g l =
    (length l.numbers ≡ most_on_side)
    × (take l.position l.numbers ≡ map (lane_at (g.P.Plant.meaning l.self.plant.now).floor (end_of l.self.side) (station_of l.self.side)) (range_with_len 0 l.position))
