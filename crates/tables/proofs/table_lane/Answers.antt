-- The lane is found among the lanes of the sides where it ends.
use Rattle.std.proofs.Common.{arith}
use Rattle.floor.specs.Floor.{leaving, entering, side}
use Rattle.tables.specs.Parts.{lanes_in}
use Rattle.tables.proofs.Telling.{side_told, lane_there, end_is}
use Rattle.tables.proofs.table_lane.Goals as goal

pub lane_end-requires-clause-on : goal.lane_end-requires-clause-on
lane_end-requires-clause-on g c = omega (arith, c.requires.told.all)

pub lane_end-requires-clause-narrow : goal.lane_end-requires-clause-narrow
lane_end-requires-clause-narrow g c =
    let F = (g.P.Plant.meaning c.args.plant.now).floor in
    (side_told F c.args.sides.now c.requires.told leaving c.lane_ends-from.result.0 c.lane_ends-from.ensures.on_floor.0).few

pub lane_end-requires-clause-there : goal.lane_end-requires-clause-there
lane_end-requires-clause-there g c =
    let F = (g.P.Plant.meaning c.args.plant.now).floor in
    let rows = c.args.sides.now in
    let ends = c.lane_ends-from.ensures in
    let i = c.lane_ends-from.result.0 in
    lane_there F leaving c.args.lane i (lanes_in rows (side leaving i)) c.requires.on_floor ends.from
    (side_told F rows c.requires.told leaving i ends.on_floor.0).lanes

pub lane_end-requires-2-clause-on : goal.lane_end-requires-2-clause-on
lane_end-requires-2-clause-on g c = omega (arith, c.requires.told.all)

pub lane_end-requires-2-clause-narrow : goal.lane_end-requires-2-clause-narrow
lane_end-requires-2-clause-narrow g c =
    let F = (g.P.Plant.meaning c.args.plant.now).floor in
    (side_told F c.args.sides.now c.requires.told entering c.lane_ends-from.result.1 c.lane_ends-from.ensures.on_floor.1).few

pub lane_end-requires-2-clause-there : goal.lane_end-requires-2-clause-there
lane_end-requires-2-clause-there g c =
    let F = (g.P.Plant.meaning c.args.plant.now).floor in
    let rows = c.args.sides.now in
    let ends = c.lane_ends-from.ensures in
    let i = c.lane_ends-from.result.1 in
    lane_there F entering c.args.lane i (lanes_in rows (side entering i)) c.requires.on_floor ends.to
    (side_told F rows c.requires.told entering i ends.on_floor.1).lanes

pub returns : goal.returns
returns g c =
    let F = (g.P.Plant.meaning c.args.plant.now).floor in
    let rows = c.args.sides.now in
    let ends = c.lane_ends-from.ensures in
    let i = c.lane_ends-from.result.0 in
    let j = c.lane_ends-from.result.1 in
    let out = c.lane_end.ensures in
    let into = c.lane_end-2.ensures in
    let at_i =
    end_is F leaving c.args.lane i (lanes_in rows (side leaving i)) c.lane_end.result ends.from
    (side_told F rows c.requires.told leaving i ends.on_floor.0).lanes out.station out.within out.found in
    let at_j =
    end_is F entering c.args.lane j (lanes_in rows (side entering j)) c.lane_end-2.result ends.to
    (side_told F rows c.requires.told entering j ends.on_floor.1).lanes into.station into.within into.found in
    λ k. record { leaving = at_i k; entering = at_j k }
