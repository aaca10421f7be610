-- A call that does what the rules say over the tables does so over the plant, and keeps the promise.
use Rattle.std.proofs.Common.{◌≡◌, [], vec_items}
use mathlib.Core.Path.{subst⁻¹}
use Rattle.floor.specs.Meaning.{Meaning, Lawful}
use Rattle.network.specs.Plans.{Feasible}
use Rattle.tables.specs.Agreement.{Agrees}
use Rattle.tables.specs.Tables.{meaning_in}
use Rattle.calls.specs.Events.{Event, at}
use Rattle.calls.specs.Kept.{Kept}
use Rattle.calls.proofs.Loads.{passed_is_plan}
use Rattle.calls.proofs.Keeps.{calls_keep_the_promise, openings_keep_the_promise}
use Rattle.agreement.proofs.Calls.{agreeing_plans_do_the_same}
use Rattle.agreement.proofs.Plans.{feasible_back}
use Rattle.planner.specs.Planning.{Did}
use Rattle.plan.specs.declared.plan.Plan.{Plan}
use Rattle.plan.specs.Plans.{state, Knows, Opens, Meets, Planned}

module _ {P : Type 0} (M : P → Meaning) (lawful : (x : P) → Lawful (M x)) where
  -- the trays of a plan are a plan of its plant
  pub plan_feasible : (p : Plan P) → Knows M p → Feasible (M p.plant) (at (vec_items p.planner.trays))
  plan_feasible p knows =
      feasible_back (M p.plant) (meaning_in p.planner.tables) knows (at (vec_items p.planner.trays))
      (passed_is_plan (meaning_in p.planner.tables) (at (vec_items p.planner.trays)) p.planner.plan)

  pub meets : (p : Plan P) (e : Event) (q : Plan P) → q.plant ≡ p.plant → Did p.planner e q.planner → Meets M p e q
  meets p e q same did = record {
    same = same;
    did = did;
    right = λ knows.
        let does =
        agreeing_plans_do_the_same (M p.plant) (meaning_in p.planner.tables) (state p) (state q) e knows (lawful p.plant) (plan_feasible p knows) did.does in
        record {
          knows = subst⁻¹ (λ x. Agrees (M x) (meaning_in q.planner.tables)) same (subst⁻¹ (λ t. Agrees (M p.plant) (meaning_in t)) did.same knows);
          does = does;
          law = λ h kept. calls_keep_the_promise (M p.plant) h (state p) (state q) e (lawful p.plant) kept does;
        };
  }

  pub opens : (plant : P) (p : Plan P) → p.plant ≡ plant → Planned (M plant) p.planner → Opens M plant p
  opens plant p same planned = record {
    same = same;
    knows = subst⁻¹ (λ x. Agrees (M x) (meaning_in p.planner.tables)) same planned.told;
    empty = planned.empty;
    law = subst⁻¹ (Kept (M plant) []) planned.empty (openings_keep_the_promise (M plant) (lawful plant));
  }
