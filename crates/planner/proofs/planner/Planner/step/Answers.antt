-- A move that is found can be made, and what it leaves is a plan.
use Rattle.std.proofs.Common.{◌≡◌, ℕ, Bool, true, false, map, length, get_or, Some, vec_items, refl, ap, ◌∙◌, subst, arith, rules}
use mathlib.Core.Path.{subst⁻¹}
use Rattle.labelling.specs.Steps.{shifted}
use Rattle.labels.specs.Labels.{signed_state}
use Rattle.calls.specs.Events.{at}
use Rattle.searches.specs.Found.{Found, kept_move}
use Rattle.tables.specs.Tables.{meaning_in}
use Rattle.planner.specs.Planning.{Movable}
use Rattle.planner.proofs.Stepping.{movable, moved_plan, moved_does}
use Rattle.planner.proofs.planner.Planner.step.Goals as goal

pub move_trays-requires : goal.move_trays-requires
move_trays-requires c =
    let p = c.args.self.now in
    let M = meaning_in p.tables in
    let xs = vec_items p.trays in
    let n = c.in-Some.amount in
    let s = c.find.new.self in
    let all : length xs ≡ length (vec_items p.tables.lanes) = omega (arith, p.trays.ok.0, p.tables.lanes.ok.0, p.all_trays) in
    let found = subst (λ zs. Found M (at zs) (Some n) s) c.as_slice.ensures.value c.in-Some.ensures.found in
    subst⁻¹ (λ path. Movable path n xs) c.as_slice-2.ensures.value (movable M p.lawful xs all p.plan s n found)

pub invariant_of-self-3 : goal.invariant_of-self-3
invariant_of-self-3 c =
    let p = c.args.self.now in
    let M = meaning_in p.tables in
    let xs = vec_items p.trays in
    let ys = vec_items c.move_trays.new.trays in
    let n = c.in-Some.amount in
    let s = c.find.new.self in
    let all : length xs ≡ length (vec_items p.tables.lanes) = omega (arith, p.trays.ok.0, p.tables.lanes.ok.0, p.all_trays) in
    let found = subst (λ zs. Found M (at zs) (Some n) s) c.as_slice.ensures.value c.in-Some.ensures.found in
    let same : length ys ≡ length xs = omega (arith, c.move_trays.ensures.len, p.trays.ok.0, c.move_trays.new.trays.ok.0) in
    let each : (e : ℕ) → get_or ys e 0 ≡ shifted n (kept_move s n).lanes (at xs) e =
    λ e. c.move_trays.ensures.each e ∙ ap (λ path. shifted n (map signed_state path) (at xs) e) c.as_slice-2.ensures.value in
    let plan = moved_plan M p.lawful xs all p.plan s n found ys same each in
    record { lawful = p.lawful; all_trays = search rules; all_searched = search rules; all_lanes = search rules; all_stations = search rules; plan = plan; lanes_shown = (λ h. absurd (mixed _ c.if-self.false h)); stations_shown = (λ h. absurd (mixed _ c.if-self.false h)) }
  where
    mixed : (b : Bool) → b ≡ false → b ≡ true → ⊥
    mixed b h g = let z : ◌≡◌ {A = ℕ} 0 1 = cc in omega arith

pub returns : goal.returns
returns c =
    let p = c.args.self.now in
    let M = meaning_in p.tables in
    let xs = vec_items p.trays in
    let ys = vec_items c.move_trays.new.trays in
    let n = c.in-Some.amount in
    let s = c.find.new.self in
    let all : length xs ≡ length (vec_items p.tables.lanes) = omega (arith, p.trays.ok.0, p.tables.lanes.ok.0, p.all_trays) in
    let found = subst (λ zs. Found M (at zs) (Some n) s) c.as_slice.ensures.value c.in-Some.ensures.found in
    let same : length ys ≡ length xs = omega (arith, c.move_trays.ensures.len, p.trays.ok.0, c.move_trays.new.trays.ok.0) in
    let each : (e : ℕ) → get_or ys e 0 ≡ shifted n (kept_move s n).lanes (at xs) e =
    λ e. c.move_trays.ensures.each e ∙ ap (λ path. shifted n (map signed_state path) (at xs) e) c.as_slice-2.ensures.value in
    let long : c.len.result ≡ length (vec_items s.path) = omega (arith, c.len.ensures, s.path.ok.0) in
    record {
      same = refl;
      does =
          moved_does M p.lawful xs all p.plan s n found ys same each p.moves c.one_more-self.result c.len.result
          p.finished c.if-self.false long c.one_more-self.ensures;
    }
