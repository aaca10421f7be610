use Rattle.std.proofs.Common.{length, arith}
use Rattle.answers.proofs.Positions.{number_below, own_low, owned_push}
use Rattle.answers.proofs.side_lanes.SideLanes.own_caps.Goals as goal

pub index-requires : goal.index-requires
index-requires c =
    let on = c.args.self.now in
    omega (arith, number_below on.plant.now on.side c.lanes-lane-items.result.now (length c.lanes-lane-items.result.now) c.lanes-lane-items.ensures c.loop-lane.lane-index (omega arith))

pub loop-lane-preserved : goal.loop-lane-preserved
loop-lane-preserved c =
    let on = c.args.self.now in
    let xs = c.lanes-lane-items.result.now in
    owned_push on.plant.now on.side xs (length xs) c.lanes-lane-items.ensures c.loop-lane.own.items c.push.new.self.items c.loop-lane.lane-index
    c.index.result.now (omega arith) c.loop-lane.invariant c.index.ensures c.push.ensures.items

pub returns-clause-low : goal.returns-clause-low
returns-clause-low c = λ p l.
    let on = c.args.self.now in
    let xs = c.lanes-lane-items.result.now in
    omega (arith, c.loop-lane.invariant.1 p (omega arith), own_low on.plant.now on.side xs (length xs) c.lanes-lane-items.ensures p (omega arith))
