-- What a step does that finds a move: the trays can be moved along its path, and are a plan afterwards.
use Rattle.std.proofs.Common.{◌≡◌, ℕ, Bool, true, false, List, map, length, get_or, Some, vec_items, Option, sym, ap, ◌∙◌, ap₂, arith}
use mathlib.Core.Path.{subst⁻¹, fun_ext}
use Rattle.std.proofs.lemmas.List.{length-map}
use Rattle.floor.specs.Meaning.{Meaning, Lawful}
use Rattle.network.specs.Plans.{Feasible}
use Rattle.labelling.specs.Steps.{shifted, made}
use Rattle.labelling.proofs.FirstPath.{first_shortest_path}
use Rattle.labelling.proofs.Moving.{moves_keep_plans_feasible}
use Rattle.labels.specs.Labels.{signed_state}
use Rattle.calls.specs.Events.{at}
use Rattle.calls.specs.Does.{Held, held, is_plan, tray_list, counted, step_by, step_does}
use Rattle.calls.proofs.Loads.{passed_is_plan, plan_passes}
use Rattle.searches.specs.Found.{Found, kept_move}
use Rattle.searches.specs.declared.search.Search.{Search}
use Rattle.searches.proofs.Finding.{path_among}
use Rattle.searches.proofs.Shown.{list_is}
use Rattle.planner.specs.Planning.{Movable}
use Rattle.planner.proofs.Bounds.{lane_bounded, move_bounded}

module _ (M : Meaning) (laws : Lawful M) (xs : List ℕ) (all : length xs ≡ M.floor.lanes) (plan : is_plan M (at xs) ≡ true) (s : Search) (n : ℕ)
    (found : Found M (at xs) (Some n) s) where
  ok : Feasible M (at xs)
  ok = passed_is_plan M (at xs) plan

  -- the trays can be moved
  pub movable : Movable (vec_items s.path) n xs
  movable = record {
    among = λ i l.
        omega (arith, path_among M laws (at xs) ok (kept_move s n).lanes ((first_shortest_path M (at xs) laws ok).0 (kept_move s n) found.0).augments i l);
    short = omega (arith, found.1, laws.rules.few_lanes);
    little = move_bounded M laws (at xs) ok (kept_move s n) found.0;
    capped = λ e l. lane_bounded M laws (at xs) ok e (omega arith);
  }

  module _ (ys : List ℕ) (same : length ys ≡ length xs) (each : (e : ℕ) → get_or ys e 0 ≡ shifted n (kept_move s n).lanes (at xs) e) where
    -- the trays afterwards are a plan
    pub moved_plan : is_plan M (at ys) ≡ true
    moved_plan =
        let after : at ys ≡ made (kept_move s n) (at xs) = fun_ext each in
        plan_passes M (at ys) (subst⁻¹ (Feasible M) after (moves_keep_plans_feasible M (at xs) (kept_move s n) laws ok found.0).feasible)

    -- and those that the move makes
    pub moved_trays : ys ≡ tray_list M.floor.lanes (made (kept_move s n) (at xs))
    moved_trays = list_is M.floor.lanes (made (kept_move s n) (at xs)) ys (omega arith) (λ e l. each e)

    -- as a step that makes a move does
    pub moved_does : (k after m : ℕ) (f : Bool) → f ≡ false → m ≡ length (vec_items s.path) → after ≡ counted k
        → ◌≡◌ {A = Option (ℕ × ℕ) × Held} (Some (n, m), held ys after f) (step_does M (held xs k f))
    moved_does k after m f unfinished lanes counts =
        let long = lanes ∙ sym (length-map (vec_items s.path) signed_state) in
        let does : ◌≡◌ {A = Option (ℕ × ℕ) × Held} (Some (n, m), held ys after false) (step_does M (held xs k false)) =
        ap₂ (λ m zs. (Some (n, m), held zs after false)) long moved_trays
        ∙ ap (λ j. (Some (n, length (map signed_state (vec_items s.path))), held (tray_list M.floor.lanes (made (kept_move s n) (at xs))) j false)) counts
        ∙ sym (ap (step_by M (held xs k false)) found.0) in
        subst⁻¹ (λ f. ◌≡◌ {A = Option (ℕ × ℕ) × Held} (Some (n, m), held ys after f) (step_does M (held xs k f))) unfinished does
