-- A plan that was run long enough is finished, and what is read of it is told of a plan that carries the most.
use Rattle.std.proofs.Common.{◌≡◌, ℕ, ◌<◌, ◌≤◌, Bool, true, false, List, [], ◌∷◌, length, Ok, sym, refl, ap, ◌∙◌, subst, mul-le-mul, arith}
use mathlib.Core.Path.{subst⁻¹}
use mathlib.Core.Option.{none}
use Rattle.std.proofs.lemmas.Bool.{eq-eqb, cond-true, and_from}
use Rattle.floor.specs.Meaning.{Meaning, Lawful}
use Rattle.calls.specs.Events.{History, at, ran, told_total, told_moves, told_trays, told_cut}
use Rattle.calls.specs.Events as event
use Rattle.labelling.specs.Steps.{step}
use Rattle.calls.specs.Does.{Held, Does, read_into, tray_list, lane_byte, station_byte}
use Rattle.calls.specs.Kept.{Kept}
use Rattle.calls.specs.Law.{Says, most_moves}
use Rattle.calls.proofs.CutsRead.{cut_shown}
use Rattle.calls.proofs.Moves.{finished_most}
use Rattle.plan.specs.Plans.{state, Opens, Meets}
use Rattle.plan.specs.declared.plan.Plan.{Plan}
use Rattle.planlines.specs.PlanLines.{plan_lines}
use Rattle.planning.specs.Best.{BestTold, BestLines, EndedPlan}

-- a run with a budget above the bound ends finished
run_ends : (M : Meaning) (h : History) (xs : List ℕ) (b n : ℕ) (f : Bool) → most_moves M < b → Says M h xs (ran b n f) → f ≡ true
run_ends M h xs b n true long s = refl
run_ends M h xs b n false long s = absurd (omega (arith, s.2))

module _ {P : Type 0} (M : P → Meaning) (lawful : (x : P) → Lawful (M x)) where
  -- few moves are made: a floor has few lanes
  bounded : (x : P) → most_moves (M x) ≤ 524288
  bounded x =
      let few = (lawful x).rules.few_lanes in
      let m = (M x).floor.lanes in
      let square = mul-le-mul few few in
      let cube = mul-le-mul few square in
      omega arith

  pub ended : (plant : P) (p q : Plan P) (b n : ℕ) (f : Bool) → 524288 < b → Opens M plant p → Meets M p (ran b n f) q → EndedPlan M plant q
  ended plant p q b n f long o m =
      let start = subst⁻¹ (λ x. Kept (M x) [] (state p)) o.same o.law in
      let right = m.right o.knows in
      let kept = subst (λ x. Kept (M x) (ran b n f ∷ []) (state q)) o.same (right.law [] start) in
      let said = kept.calls.0 in
      let done = run_ends (M plant) [] said.0 b n f (omega (arith, bounded plant)) said.2 in
      record {
        same = m.same ∙ o.same;
        knows = right.knows;
        budget = b;
        moves = n;
        kept = subst (λ f. Kept (M plant) (ran b n f ∷ []) (state q)) done kept;
      }

  module _ (plant : P) (p : Plan P) (e : EndedPlan M plant p) (total moves : ℕ) (xs ys ls ss ls' ss' : List ℕ) (r s : event.Answer)
      (told_of : Meets M p (told_total total) p) (counted : Meets M p (told_moves moves) p) (trays_read : Meets M p (told_trays xs r ys) p)
      (cut_read : Meets M p (told_cut ls ss s ls' ss') p) (xs_all : length xs ≡ (M plant).floor.lanes) (ls_all : length ls ≡ (M plant).floor.lanes)
      (ss_all : length ss ≡ (M plant).floor.stations) where
    abbrev held : Held
    held = state p

    -- the run ended with no path left
    no_path : step (M plant) (at held.trays) ≡ none
    no_path = e.kept.no_path refl

    finished : held.finished ≡ true
    finished = e.kept.finished

    -- the buffers were of the right lengths, so that the readings were taken
    trays_are : ys ≡ held.trays
    trays_are =
        let does = subst (λ x. Does (M x) held (told_trays xs r ys) held) e.same (trays_read.right e.knows).does in
        does.1 ∙ ap (λ a. read_into a held.trays xs) (does.0 ∙ cond-true _ _ _ (eq-eqb (length xs) (M plant).floor.lanes xs_all))

    cut_does : Does (M plant) held (told_cut ls ss s ls' ss') held
    cut_does = subst (λ x. Does (M x) held (told_cut ls ss s ls' ss') held) e.same (cut_read.right e.knows).does

    taken : s ≡ Ok tt
    taken =
        cut_does.0 ∙ cond-true _ _ _ finished
        ∙ cond-true _ _ _ (and_from _ _ (eq-eqb (length ls) (M plant).floor.lanes ls_all) (eq-eqb (length ss) (M plant).floor.stations ss_all))

    lanes_are : ls' ≡ tray_list (M plant).floor.lanes (lane_byte (M plant) (at held.trays))
    lanes_are = cut_does.1 ∙ ap (λ a. read_into a (tray_list (M plant).floor.lanes (lane_byte (M plant) (at held.trays))) ls) taken

    stations_are : ss' ≡ tray_list (M plant).floor.stations (station_byte (M plant) (at held.trays))
    stations_are = cut_does.2 ∙ ap (λ a. read_into a (tray_list (M plant).floor.stations (station_byte (M plant) (at held.trays))) ss) taken

    -- what is told of the trays that the plan holds
    told_of_held : BestTold (M plant) total moves held.trays (tray_list (M plant).floor.lanes (lane_byte (M plant) (at held.trays)))
        (tray_list (M plant).floor.stations (station_byte (M plant) (at held.trays)))
    told_of_held =
        let c = e.kept.carried in
        let count = subst (λ x. Does (M x) held (told_moves moves) held) e.same (counted.right e.knows).does in
        let sum = subst (λ x. Does (M x) held (told_total total) held) e.same (told_of.right e.knows).does in
        record {
          made_by = c.moves;
          right = c.right;
          counted = count.0 ∙ e.kept.counted ∙ sym c.counted;
          one_each = c.one_each;
          changed = c.changed;
          feasible = c.feasible;
          carried = sum.0;
          best = finished_most (M plant) (lawful plant) (at held.trays) c.feasible no_path;
          lanes_told = refl;
          stations_told = refl;
          cut = cut_shown (M plant) (lawful plant) (at held.trays) c.feasible no_path;
        }

    pub best_told : BestTold (M plant) total moves ys ls' ss'
    best_told =
        subst⁻¹ (λ zs. BestTold (M plant) total moves zs ls' ss') trays_are
        (subst⁻¹ (λ zs. BestTold (M plant) total moves held.trays zs ss') lanes_are
        (subst⁻¹ (λ zs. BestTold (M plant) total moves held.trays (tray_list (M plant).floor.lanes (lane_byte (M plant) (at held.trays))) zs) stations_are told_of_held))

-- so its listing is that of a plan that carries the most
pub best_lines : (M : Meaning) (lines : List ℕ) (total moves : ℕ) (trays lanes stations : List ℕ) → lines ≡ plan_lines total moves trays lanes stations
    → BestTold M total moves trays lanes stations → BestLines M lines
best_lines M lines total moves trays lanes stations shown told = record {
  total = total;
  moves = moves;
  trays = trays;
  lanes = lanes;
  stations = stations;
  shown = shown;
  told = told;
}
