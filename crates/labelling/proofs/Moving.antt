-- A move keeps the plan feasible and adds its amount to the total.
use Rattle.std.proofs.Common.{◌≡◌, ℕ, suc, ◌+◌, ◌<◌, ◌≤◌, true, List, length, get_or, sym, ap, ◌∙◌, arith}
use mathlib.Core.Path.{subst⁻¹}
use mathlib.Core.Option.{some}
use Rattle.floor.specs.Meaning.{Meaning, Lawful}
use Rattle.network.specs.States.{Pole, Minus, amount}
use Rattle.network.specs.Plans.{Fits, Balanced, total}
use Rattle.network.proofs.Loads.{minus_carries}
use Rattle.network.proofs.Moves.{move_fits}
use Rattle.network.proofs.Balance.{move_balances}
use Rattle.labelling.specs.Rules.{ruled}
use Rattle.labelling.specs.Table.{Mark, Ended, label, path}
use Rattle.labelling.specs.Amount.{amount_of}
use Rattle.labelling.specs.Steps.{row, Move, step, made}
use Rattle.labelling.specs.Theorems.{MoveMade, MovesKeepPlansFeasible}
use Rattle.labelling.proofs.Pairs.{lets, lets_le, lets_some}
use Rattle.labelling.proofs.Rows.{row_length, row_at}
use Rattle.labelling.proofs.Made.{move_along, step_ended, found_path, amount_is, made_is, stage_is}

module _ (M : Meaning) (laws : Lawful M) (f : ℕ → ℕ) (fits : Fits M f) (l e : ℕ) (t : List Mark)
    (q : label (ruled M f) M.floor.lanes ≡ Ended l e t) where
  pub made_fits : Fits M (made (move_along M f l e t) f)
  made_fits =
      subst⁻¹ (Fits M) (made_is M laws f fits l e t q)
      (move_fits M f (path l e t) (suc l) (lets M f (path l e t) (suc l)) (stage_is M laws f fits l e t q).moving)

  carried : (i c : ℕ) → i < length (row (path l e t) l) → get_or (row (path l e t) l) i (Pole true) ≡ Minus c → amount_of M f (row (path l e t) l) ≤ f c
  carried i c h o =
      let k : i < l = omega (arith, row_length (path l e t) l) in
      let is : path l e t (suc i) ≡ Minus c = sym (row_at (path l e t) l i (Pole true) k) ∙ o in
      omega (
        arith,
        amount_is M laws f fits l e t q,
        lets_le M f (path l e t) (suc l) i (omega arith),
        ap (amount M f (path l e t i)) is,
        minus_carries M f (path l e t i) c,
      )

  move_made : Balanced M f → MoveMade M f (move_along M f l e t)
  move_made bal =
      let b = move_balances M f (path l e t) (suc l) (lets M f (path l e t) (suc l)) (stage_is M laws f fits l e t q).moving bal in
      record {
        some = omega (arith, amount_is M laws f fits l e t q, lets_some M f (path l e t) (suc l) (omega arith) (found_path M laws f fits l e t q));
        carried = carried;
        feasible = record { within = made_fits; balanced = subst⁻¹ (Balanced M) (made_is M laws f fits l e t q) b.0 };
        grows = ap (total M) (made_is M laws f fits l e t q) ∙ b.1 ∙ ap (λ n. total M f + n) (sym (amount_is M laws f fits l e t q));
      }

pub moves_keep_plans_feasible : MovesKeepPlansFeasible
moves_keep_plans_feasible M f v laws ok h =
    let r = step_ended M f v h in
    subst⁻¹ (MoveMade M f) r.4 (move_made M laws f ok.within r.0 r.1 r.2 r.3 ok.balanced)

-- the same of the caps alone
pub step_fits : (M : Meaning) (f : ℕ → ℕ) (v : Move) → Lawful M → Fits M f → step M f ≡ some v → Fits M (made v f)
step_fits M f v laws fits h =
    let r = step_ended M f v h in
    subst⁻¹ (λ v. Fits M (made v f)) r.4 (made_fits M laws f fits r.0 r.1 r.2 r.3)
