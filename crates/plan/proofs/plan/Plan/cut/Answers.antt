use Rattle.std.proofs.Common.{refl}
use Rattle.plan.proofs.Meeting.{meets}
use Rattle.plan.proofs.plan.Plan.cut.Goals as goal

pub returns : goal.returns
returns g c = meets g.P.Plant.meaning g.P.Plant.lawful _ _ _ refl c.cut.ensures
