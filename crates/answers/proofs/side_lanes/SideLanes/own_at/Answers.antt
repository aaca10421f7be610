use Rattle.std.proofs.Common.{arith}
use Rattle.answers.proofs.Positions.{number_below, own_is, own_low}
use Rattle.answers.proofs.side_lanes.SideLanes.own_at.Goals as goal

pub index-requires : goal.index-requires
index-requires c =
    let on = c.args.self.now in
    number_below on.plant.now on.side on.numbers on.count on.lists c.args.position c.requires

pub returns : goal.returns
returns c =
    let on = c.args.self.now in
    let is = own_is on.plant.now on.side on.numbers on.count on.lists c.args.position c.requires c.index.result.now c.index.ensures in
    record {
      value = is;
      low = omega (arith, own_low on.plant.now on.side on.numbers on.count on.lists c.args.position c.requires);
    }
