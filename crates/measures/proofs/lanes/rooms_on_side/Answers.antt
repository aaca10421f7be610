use Rattle.std.proofs.Common.{◌∙◌, arith}
use Rattle.rooms.specs.Rooms.{at}
use Rattle.tables.specs.Tables.{meaning_in}
use Rattle.measures.proofs.SideRooms.{side_room}
use Rattle.measures.proofs.lanes.rooms_on_side.Goals as goal

pub returns : goal.returns
returns c p l =
    let side = c.load_side.result in
    c.rooms.ensures.each p (omega (arith, c.load_side.ensures.wide))
    ∙ side_room (meaning_in c.args.floor.now.tables.now) (at c.args.floor.now.trays.now) c.args.side side.caps.now side.trays.items
    c.load_side.ensures p l
