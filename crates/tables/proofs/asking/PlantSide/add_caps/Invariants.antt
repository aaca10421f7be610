use Rattle.std.proofs.Common.{◌≡◌, ◌++◌, map, vec_items}
use Rattle.std.specs.List.{range_with_len}
use Rattle.floor.specs.Floor.{end_of, station_of}
use Rattle.tables.proofs.asking.PlantSide.add_caps.Given as goal

-- the caps of the sets so far stand after what was there
abbrev pub invariant-loop-set : goal.invariant-loop-set
invariant-loop-set g l =
    vec_items l.caps
    ≡ vec_items l.initial.caps ++ map ((g.P.Plant.meaning l.self.plant.now).cap (end_of l.self.side) (station_of l.self.side)) (range_with_len 0 l.set)
