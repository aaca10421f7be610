use Rattle.std.proofs.Common.{◌≡◌, ◌++◌, get_or, vec_items}
use Rattle.listing.specs.Lines.{each}
use Rattle.planlines.specs.PlanLines.{total_line, lane_line, lane_lines, no_mark, station_line}
use Rattle.planlines.proofs.Told.write_to.Given as goal

-- the totals and the lines of the lanes so far stand after what was there
abbrev pub invariant-loop-lane : goal.invariant-loop-lane
invariant-loop-lane l =
    vec_items l.out
    ≡ vec_items l.fn.out
    ++ (total_line l.self.total l.self.moves ++ each l.lane-counter (λ e. lane_line e (get_or l.self.trays.now e 0) (get_or l.self.lanes.now e no_mark)))

-- the totals, the lines of all lanes and those of the stations so far stand after what was there
abbrev pub invariant-loop-station : goal.invariant-loop-station
invariant-loop-station l =
    vec_items l.out
    ≡ vec_items l.fn.out
    ++ (total_line l.self.total l.self.moves ++ lane_lines l.self.trays.now l.self.lanes.now ++ each l.station-counter (λ v. station_line v (get_or l.self.stations.now v 0)))
