-- No trays are a plan.
use Rattle.std.proofs.Common.{◌≡◌, ℕ, true, false, length, replicate, vec_items, arith, rules}
use mathlib.Core.Path.{subst⁻¹}
use Rattle.calls.specs.Events.{at}
use Rattle.calls.specs.Does.{is_plan}
use Rattle.calls.proofs.Loads.{no_trays_are_plan, plan_passes}
use Rattle.tables.specs.Tables.{meaning_in}
use Rattle.planner.proofs.planner.Planner.open.Goals as goal

pub invariant_of-result : goal.invariant_of-result
invariant_of-result c =
    let t = c.args.tables in
    let M = meaning_in t in
    let none : vec_items c.in_ok-trays.trays ≡ replicate (length (vec_items t.lanes)) 0 = search rules in
    let plan = subst⁻¹ (λ xs. is_plan M (at xs) ≡ true) none (plan_passes M (at (replicate (length (vec_items t.lanes)) 0)) (no_trays_are_plan M)) in
    record { lawful = c.requires; all_trays = search rules; all_searched = search rules; all_lanes = search rules; all_stations = search rules; plan = plan; lanes_shown = (λ h. absurd (false_is_not_true h)); stations_shown = (λ h. absurd (false_is_not_true h)) }
  where
    false_is_not_true : false ≡ true → ⊥
    false_is_not_true h = let z : ◌≡◌ {A = ℕ} 0 1 = cc in omega arith
