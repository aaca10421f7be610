use Rattle.rooms.specs.Rooms.{at}
use Rattle.tables.specs.Tables.{meaning_in}
use Rattle.measures.proofs.Measured.{lanes_apart, measured_more}
use Rattle.measures.proofs.lanes.measure_side.Goals as goal

pub put_by_lane-requires-clause-apart : goal.put_by_lane-requires-clause-apart
put_by_lane-requires-clause-apart c =
    lanes_apart (meaning_in c.args.floor.now.tables.now) c.args.side c.lanes_of.result.now c.lanes_of.ensures.all c.lanes_of.ensures.each

pub returns-clause-more : goal.returns-clause-more
returns-clause-more c =
    measured_more (meaning_in c.args.floor.now.tables.now) c.args.side c.lanes_of.result.now c.lanes_of.ensures.all c.lanes_of.ensures.each
    (at c.args.floor.now.trays.now) c.lanes_enter.result c.rooms_on_side-on.result c.args.rooms.now c.put_by_lane.new.rooms
    c.lanes_enter.ensures c.rooms_on_side-on.ensures
    c.put_by_lane.ensures c.requires.below
