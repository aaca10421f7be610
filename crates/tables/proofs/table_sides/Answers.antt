-- A turn adds the row of one side more, and its caps.
use Rattle.std.proofs.Common.{vec_items, rules}
use Rattle.tables.proofs.Telling.{sides_more, capped_more}
use Rattle.tables.proofs.table_sides.Goals as goal

pub loop-side-preserved : goal.loop-side-preserved
loop-side-preserved g c =
    let M = g.P.Plant.meaning c.args.plant.now in
    let n = c.loop-side.side in
    let rows = vec_items c.loop-side.sides in
    let after = vec_items c.push.new.self in
    let row = c.in_ok-row.row in
    let told = c.loop-side.invariant.0 in
    let made = c.in_ok-row.ensures in
    let pushed = c.in_ok-push.ensures.items in (
      sides_more M.floor n rows after row pushed told (search rules),
      capped_more M n rows after row (vec_items c.loop-side.caps) (vec_items c.table.new.caps) pushed (search rules) told.all made.start
          c.loop-side.invariant.1,
    )
