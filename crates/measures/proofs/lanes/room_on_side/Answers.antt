use Rattle.std.proofs.Common.{◌∙◌}
use Rattle.rooms.specs.Rooms.{at}
use Rattle.tables.specs.Tables.{meaning_in}
use Rattle.measures.proofs.SideRooms.{side_zeroing}
use Rattle.measures.proofs.lanes.room_on_side.Goals as goal

pub returns : goal.returns
returns c =
    let side = c.load_side.result in
    c.room_without.ensures
    ∙ side_zeroing (meaning_in c.args.floor.now.tables.now) (at c.args.floor.now.trays.now) c.args.side c.args.position c.args.other
    side.caps.now side.trays.items c.load_side.ensures c.requires.on
