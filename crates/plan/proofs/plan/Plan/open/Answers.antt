use Rattle.std.proofs.Common.{refl}
use Rattle.plan.proofs.Meeting.{opens}
use Rattle.plan.proofs.plan.Plan.open.Goals as goal

pub returns-in-Ok : goal.returns-in-Ok
returns-in-Ok g c =
    record { opens = opens g.P.Plant.meaning g.P.Plant.lawful c.args.plant _ refl c.in-Ok.ensures; refused = tt }
