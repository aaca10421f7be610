-- Plans above meanings that agree do the same at every call.
use Rattle.std.proofs.Common.{◌≡◌, ℕ, zero, suc, Bool, true, false, cond, length, Some, None, Option, refl, ap, ◌∙◌}
use mathlib.Core.Option as option
use Rattle.floor.specs.Meaning.{Meaning, Lawful}
use Rattle.tables.specs.Agreement.{Agrees}
use Rattle.network.specs.Plans.{Feasible}
use Rattle.labelling.specs.Steps.{Move, step, made}
use Rattle.labelling.proofs.Moving.{moves_keep_plans_feasible}
use Rattle.calls.specs.Events.{loaded, stepped, ran, told_total, told_moves, told_trays, told_cut, at}
use Rattle.calls.specs.Does.{Held, held, counted, tray_list, step_by, step_does, run_after, run_does, read_into}
use Rattle.calls.proofs.SameTrays.{listed_at}
use Rattle.agreement.specs.Agreeing.{AgreeingPlansDoTheSame}
use Rattle.agreement.proofs.Plans.{feasible_on_floor, total_same}
use Rattle.agreement.proofs.Steps.{step_same}
use Rattle.agreement.proofs.Readings.{load_answer_same, trays_answer_same, cut_answer_same, lane_bytes_same, station_bytes_same}

-- ---- a step leaves a plan

module _ (M : Meaning) (laws : Lawful M) (s : Held) (ok : Feasible M (at s.trays)) where
  by_feasible : (o : option.Option Move) → step M (at s.trays) ≡ o → Feasible M (at (step_by M s o).1.trays)
  by_feasible option.none q = ok
  by_feasible (option.some v) q =
      let g = made v (at s.trays) in
      feasible_on_floor M g (at (tray_list M.floor.lanes g)) (listed_at M.floor.lanes g)
      (moves_keep_plans_feasible M (at s.trays) v laws ok q).feasible

  step_feasible : Feasible M (at (step_does M s).1.trays)
  step_feasible = by s.finished
    where
      by : (b : Bool) → Feasible M (at (cond {A = Option (ℕ × ℕ) × Held} b (None, s) (step_by M s (step M (at s.trays)))).1.trays)
      by true = ok
      by false = by_feasible (step M (at s.trays)) refl

-- ---- steps and runs

module _ (M N : Meaning) (a : Agrees M N) (laws : Lawful M) where
  step_by_same : (s : Held) (o : option.Option Move) → step_by N s o ≡ step_by M s o
  step_by_same s option.none = refl
  step_by_same s (option.some v) =
      ap (λ m. (Some (v.amount, length v.lanes), held (tray_list m (made v (at s.trays))) (counted s.moves) false)) a.lanes

  step_does_same : (s : Held) → Feasible M (at s.trays) → step_does N s ≡ step_does M s
  step_does_same s ok =
      ap (λ r. cond {A = Option (ℕ × ℕ) × Held} s.finished (None, s) r)
      (ap (step_by N s) (step_same M N a laws (at s.trays) ok) ∙ step_by_same s (step M (at s.trays)))

  -- what follows a step is the same, where it is the same from what the step leaves
  after_same : (more other : Held → ℕ × Held) (r : Option (ℕ × ℕ) × Held) → other r.1 ≡ more r.1 → run_after other r ≡ run_after more r
  after_same more other (None, s) h = refl
  after_same more other (Some p, s) h = ap (λ x. (suc x.0, x.1)) h

  run_does_same : (b : ℕ) (s : Held) → Feasible M (at s.trays) → run_does N b s ≡ run_does M b s
  unfolding run_does
  run_does_same zero s ok = refl
  run_does_same (suc b) s ok =
      ap (run_after (run_does N b)) (step_does_same s ok)
      ∙ after_same (run_does M b) (run_does N b) (step_does M s) (run_does_same b (step_does M s).1 (step_feasible M laws s ok))

-- ---- every call

pub agreeing_plans_do_the_same : AgreeingPlansDoTheSame
agreeing_plans_do_the_same M N s t (loaded ys r) a laws ok h = (h.0 ∙ load_answer_same M N a ys, h.1)
agreeing_plans_do_the_same M N s t (stepped r) a laws ok h = h ∙ step_does_same M N a laws s ok
agreeing_plans_do_the_same M N s t (ran b n f) a laws ok h = (h.0 ∙ run_does_same M N a laws b s ok, h.1)
agreeing_plans_do_the_same M N s t (told_total n) a laws ok h = (h.0 ∙ total_same M N a (at s.trays), h.1)
agreeing_plans_do_the_same M N s t (told_moves n) a laws ok h = h
agreeing_plans_do_the_same M N s t (told_trays xs r ys) a laws ok h = (h.0 ∙ trays_answer_same M N a xs, h.1, h.2)
agreeing_plans_do_the_same M N s t (told_cut ls ss r ls' ss') a laws ok h = (
  h.0 ∙ cut_answer_same M N a s ls ss,
  h.1 ∙ ap (λ xs. read_into r xs ls) (lane_bytes_same M N a laws (at s.trays)),
  h.2 ∙ ap (λ xs. read_into r xs ss) (station_bytes_same M N a laws (at s.trays)),
  h.3,
)
