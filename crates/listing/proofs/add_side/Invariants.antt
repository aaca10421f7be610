use Rattle.std.proofs.Common.{◌≡◌, ◌++◌, codes, string_bytes}
use Rattle.std.specs.Prelude.{decimal}
use Rattle.floor.specs.Floor.{lane_at, end_of, station_of}
use Rattle.listing.specs.Lines.{each, spaced, lanes_on}
use Rattle.listing.proofs.add_side.Given as goal

-- the line up to the lanes at the positions so far stands after what was there
abbrev pub invariant-loop-position : goal.invariant-loop-position
invariant-loop-position g l =
    let M = g.P.Plant.meaning l.plant in
    string_bytes l.text
    ≡ string_bytes l.fn.text
    ++ (codes "side " ++ decimal l.side ++ codes " lanes" ++ each l.position (λ p. spaced (lane_at M.floor (end_of l.side) (station_of l.side) p)))

-- the line up to the caps of the sets so far stands after what was there
abbrev pub invariant-loop-set : goal.invariant-loop-set
invariant-loop-set g l =
    let M = g.P.Plant.meaning l.plant in
    string_bytes l.text
    ≡ string_bytes l.fn.text
    ++ (codes "side " ++ decimal l.side ++ codes " lanes" ++ lanes_on M.floor l.side ++ codes " caps" ++ each l.set (λ X. spaced (M.cap (end_of l.side) (station_of l.side) X)))
