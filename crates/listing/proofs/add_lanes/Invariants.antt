use Rattle.std.proofs.Common.{◌≡◌, ◌++◌, string_bytes}
use Rattle.listing.specs.Lines.{each, lane_line}
use Rattle.listing.proofs.add_lanes.Given as goal

-- the lines of the lanes so far stand after what was there
abbrev pub invariant-loop-lane : goal.invariant-loop-lane
invariant-loop-lane g l = string_bytes l.text ≡ string_bytes l.initial.text ++ each l.lane-counter (lane_line (g.P.Plant.meaning l.plant).floor)
