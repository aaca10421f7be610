use Rattle.std.proofs.Common.{vec_items}
use Rattle.std.proofs.lemmas.Result.{IfOk-weaker}
use Rattle.plan.proofs.Replaying.{answered}
use Rattle.plan.proofs.journal.answers.Goals as goal

pub returns : goal.returns
returns g c =
    IfOk-weaker _ _ _
    (λ told r. answered g.P.Plant.meaning c.args.plant _ _ (vec_items c.args.calls) (vec_items told) c.in_ok-plan.ensures.opens r)
    c.replay.ensures.told
