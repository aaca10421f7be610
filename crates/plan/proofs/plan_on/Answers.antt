-- The tables mean what the plant means, which is lawful.
use Rattle.tables.specs.Tables.{meaning_in}
use Rattle.tables.proofs.Agreeing.{agrees_lawful}
use Rattle.plan.proofs.plan_on.Goals as goal

pub open-requires : goal.open-requires
open-requires g c =
    let plant = c.args.plant.now in
    agrees_lawful (g.P.Plant.meaning plant) (meaning_in c.in_ok-tables.tables) c.in_ok-tables.ensures (g.P.Plant.lawful plant)
