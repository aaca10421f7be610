-- Every row tells of the plant, which is lawful, so the tables hold what they say.
use Rattle.std.proofs.Common.{vec_items, arith}
use Rattle.floor.specs.Floor.{leaving, entering}
use Rattle.tables.proofs.Telling.{told_agrees}
use Rattle.tables.proofs.Holding.{all_held}
use Rattle.tables.proofs.tabulate.Goals as goal

pub invariant_of-result : goal.invariant_of-result
invariant_of-result g c =
    let plant = c.args.plant.now in
    let lanes = c.in_ok-lanes.lanes in
    let sides = c.in_ok-sides.sides in
    let caps = c.table_sides.new.caps in
    let made = c.in_ok-sides.ensures in
    let held =
    all_held (g.P.Plant.meaning plant) (g.P.Plant.lawful plant) c.stations-stations.result c.stock.result c.despatch.result (vec_items lanes)
    (vec_items sides) (vec_items caps) c.stations-stations.ensures c.stock.ensures c.despatch.ensures c.in_ok-lanes.ensures made.told
    made.capped in
    let rules = held.rules in
    record {
      two_stations = rules.two_stations;
      few_stations = rules.few_stations;
      few_lanes = omega (arith, rules.few_lanes, lanes.ok.0);
      stock_on = rules.pole_on leaving;
      despatch_on = rules.pole_on entering;
      ends_on = λ d e h. rules.end_on d e (omega (arith, lanes.ok.0));
      all_sides = omega (arith, sides.ok.0, held.all);
      widths = held.widths;
      narrow = held.narrow;
      placed = held.placed;
      ends_placed = λ d e h. held.ends d e (omega (arith, lanes.ok.0));
      held = λ s h. omega (arith, caps.ok.0, held.bounds s h);
    }

pub returns : goal.returns
returns g c =
    told_agrees (g.P.Plant.meaning c.args.plant.now) c.stations-stations.result c.stock.result c.despatch.result
    (vec_items c.in_ok-lanes.lanes) (vec_items c.in_ok-sides.sides) (vec_items c.table_sides.new.caps) c.stations-stations.ensures
    c.stock.ensures c.despatch.ensures c.in_ok-lanes.ensures c.in_ok-sides.ensures.capped
