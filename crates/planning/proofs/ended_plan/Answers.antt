use Rattle.std.proofs.Common.{arith}
use Rattle.planning.proofs.Ending.{ended}
use Rattle.planning.proofs.ended_plan.Goals as goal

pub returns : goal.returns
returns g c =
    ended g.P.Plant.meaning g.P.Plant.lawful c.args.plant c.in_ok-plan.plan _ 18446744073709551615 c.run.result.moves
    c.run.result.finished (omega arith) c.in_ok-plan.ensures.opens c.run.ensures
