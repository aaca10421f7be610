use Rattle.std.proofs.Common.{vec_items}
use Rattle.tables.specs.Told.{SidesTold, SidesCapped}
use Rattle.tables.proofs.table_sides.Given as goal

-- the rows so far, and their caps
abbrev pub invariant-loop-side : goal.invariant-loop-side
invariant-loop-side g l =
    SidesTold (g.P.Plant.meaning l.plant).floor l.side (vec_items l.sides)
    × SidesCapped (g.P.Plant.meaning l.plant) l.side (vec_items l.sides) (vec_items l.caps)
