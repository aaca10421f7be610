use Rattle.std.proofs.Common.{◌∙◌}
use Rattle.rooms.specs.Rooms.{at}
use Rattle.tables.specs.Tables.{meaning_in}
use Rattle.loads.proofs.Sides.{within_is}
use Rattle.loads.proofs.side_within.Goals as goal

pub returns : goal.returns
returns c =
    let side = c.load_side.result in
    c.sums_within.ensures
    ∙ within_is (meaning_in c.args.floor.now.tables.now) (at c.args.floor.now.trays.now) c.args.side side.caps.now side.trays.items
    side.sums.now c.load_side.ensures side.capped side.summed
