-- The buffers then hold what was written into them.
use Rattle.std.proofs.Common.{◌≡◌, length, drop, vec_items, refl, subst, arith}
use mathlib.Core.Path.{subst⁻¹}
use Rattle.std.specs.Vec.{with_items}
use Rattle.calls.specs.Events.{told_cut}
use Rattle.searches.proofs.Refills.{refilled_is}
use Rattle.plan.specs.Plans.{Meets}
use Rattle.plan.proofs.plan.Plan.read_cut.Goals as goal

pub returns : goal.returns
returns g c =
    let M = g.P.Plant.meaning in
    let p = c.args.self.now in
    let lanes = c.args.lanes in
    let stations = c.args.stations in
    let r = c.cut-read.result in
    let ls = c.cut-read.new.lanes in
    let ss = c.cut-read.new.stations in
    let lanes_len : length ls ≡ lanes.len = omega (arith, c.cut-read.auto, c.as_mut_slice.ensures.len) in
    let stations_len : length ss ≡ stations.len = omega (arith, c.cut-read.auto, c.as_mut_slice-2.ensures.len) in
    let ls' = vec_items (with_items lanes ls) in
    let ss' = vec_items (with_items stations ss) in
    let lanes_held : ls' ≡ ls = refilled_is lanes.len ls (drop (length ls) lanes.items) lanes_len in
    let stations_held : ss' ≡ ss = refilled_is stations.len ss (drop (length ss) stations.items) stations_len in
    let given_lanes = c.as_mut_slice.result.now in
    let given_stations = c.as_mut_slice-2.result.now in
    let met =
    subst (λ xs. Meets M p (told_cut xs (vec_items stations) r ls' ss') p) c.as_mut_slice.ensures.value
    (subst (λ xs. Meets M p (told_cut given_lanes xs r ls' ss') p) c.as_mut_slice-2.ensures.value
    (subst⁻¹ (λ xs. Meets M p (told_cut given_lanes given_stations r xs ss') p) lanes_held
    (subst⁻¹ (λ xs. Meets M p (told_cut given_lanes given_stations r ls xs) p) stations_held c.cut-read.ensures))) in
    (told_cut (vec_items lanes) (vec_items stations) r ls' ss', (r, with_items lanes ls, with_items stations ss, refl, refl), met)
