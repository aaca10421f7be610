-- The buffers are of the right lengths, and what is shown is what they then hold.
use Rattle.std.proofs.Common.{◌≡◌, length, drop, vec_items, vec_len, ◌∙◌, arith, rules}
use mathlib.Core.Path.{subst⁻¹}
use Rattle.std.proofs.lemmas.Result.{IfOk-weaker}
use Rattle.searches.proofs.Refills.{refilled_is}
use Rattle.planning.specs.Best.{BestTold}
use Rattle.planning.proofs.Ending.{best_told, best_lines}
use Rattle.planning.proofs.plan_lines.Goals as goal

pub returns : goal.returns
returns g c =
    let plant = c.args.plant in
    let M = g.P.Plant.meaning in
    let p = c.in_ok-plan.plan in
    let trays = c.in_ok-trays.trays in
    let lanes = c.in_ok-lanes.lanes in
    let stations = c.in_ok-stations.stations in
    let trays_len : vec_len trays ≡ (M plant).floor.lanes = search rules in
    let lanes_len : vec_len lanes ≡ (M plant).floor.lanes = search rules in
    let stations_len : vec_len stations ≡ (M plant).floor.stations = search rules in
    let ys = c.trays.new.out in
    let ls = c.cut.new.lanes in
    let ss = c.cut.new.stations in
    let total = c.total.result in
    let moves = c.moves.result in
    let trays_shown = c.as_slice.result.now in
    let lanes_shown = c.as_slice-2.result.now in
    let stations_shown = c.as_slice-3.result.now in
    let trays_are : trays_shown ≡ ys =
    c.as_slice.ensures.value
    ∙ refilled_is trays.len ys (drop (length ys) trays.items) (omega (arith, c.trays.auto, c.as_mut_slice.ensures.len)) in
    let lanes_are : lanes_shown ≡ ls =
    c.as_slice-2.ensures.value
    ∙ refilled_is lanes.len ls (drop (length ls) lanes.items) (omega (arith, c.cut.auto, c.as_mut_slice-2.ensures.len)) in
    let stations_are : stations_shown ≡ ss =
    c.as_slice-3.ensures.value
    ∙ refilled_is stations.len ss (drop (length ss) stations.items) (omega (arith, c.cut.auto, c.as_mut_slice-3.ensures.len)) in
    let read =
    best_told M g.P.Plant.lawful plant p c.in_ok-plan.ensures total moves c.as_mut_slice.result.now ys c.as_mut_slice-2.result.now
    c.as_mut_slice-3.result.now ls ss c.trays.result c.cut.result c.total.ensures c.moves.ensures c.trays.ensures c.cut.ensures
    (omega (arith, trays_len, c.as_mut_slice.ensures.len)) (omega (arith, lanes_len, c.as_mut_slice-2.ensures.len))
    (omega (arith, stations_len, c.as_mut_slice-3.ensures.len)) in
    let told =
    subst⁻¹ (λ zs. BestTold (M plant) total moves zs lanes_shown stations_shown) trays_are
    (subst⁻¹ (λ zs. BestTold (M plant) total moves ys zs stations_shown) lanes_are (subst⁻¹ (λ zs. BestTold (M plant) total moves ys ls zs) stations_are read)) in
    IfOk-weaker _ _ _ (λ lines shown. best_lines (M plant) (vec_items lines) total moves trays_shown lanes_shown stations_shown shown told) c.show_plan.ensures
