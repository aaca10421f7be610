-- Without a path the plan carries the most; with one, some plan carries more.
use Rattle.std.proofs.Common.{◌≡◌, ℕ, true, false, List, sym, refl, ap, arith}
use mathlib.Core.Path.{subst⁻¹}
use mathlib.Core.Option.{Option, none, some}
use Rattle.floor.specs.Meaning.{Meaning}
use Rattle.network.specs.States.{State}
use Rattle.network.specs.Plans.{Fits, FitsBy, total}
use Rattle.network.specs.Cuts.{capacity}
use Rattle.network.proofs.Cuts.{cut_bounds}
use Rattle.network.proofs.Closed.{stock_near, despatch_far}
use Rattle.labelling.specs.Rules.{ruled}
use Rattle.labelling.specs.Table.{Mark, Finished, label}
use Rattle.labelling.specs.Augmenting.{Augments}
use Rattle.labelling.specs.Steps.{Move, step, made, outcome, table_of, labels}
use Rattle.labelling.specs.Near.{near, plus_labelled, minus_labelled, unlabelled}
use Rattle.labelling.specs.Theorems.{Best, NoPath, MoreCarried, FinishedIsBest, PathMissingWhenBest}
use Rattle.labelling.proofs.Closes.{rules_close, rules_best}
use Rattle.labelling.proofs.Made.{step_finished}
use Rattle.labelling.proofs.FirstPath.{first_shortest_path}
use Rattle.labelling.proofs.Moving.{moves_keep_plans_feasible}

-- a plan keeps within once its caps
once : (M : Meaning) (f : ℕ → ℕ) → Fits M f → FitsBy M 1 f
once M f fits d i X h l = omega (arith, fits d i h X l)

pub finished_is_best : FinishedIsBest
unfolding outcome
finished_is_best M f laws ok h = by (step_finished M f h).0 (step_finished M f h).1
  where
    by : (t : List Mark) → label (ruled M f) M.floor.lanes ≡ Finished t → Best M f
    by t q =
        let is : labels M f ≡ t = ap table_of q in
        let c = rules_close M f t laws ok.within q in
        let b = rules_best M f t laws ok.within ok.balanced q in
        record {
          stock_near = subst⁻¹ (λ t. near M f t (M.floor.pole false) ≡ true) is (stock_near M laws f ok.within (plus_labelled t) (minus_labelled t) (near M f t) c);
          despatch_far = subst⁻¹ (λ t. near M f t (M.floor.pole true) ≡ false) is (despatch_far M laws f ok.within (plus_labelled t) (minus_labelled t) (near M f t) c);
          cut = subst⁻¹ (λ t. capacity M (near M f t) (unlabelled t) ≡ total M f) is (sym b.0);
          no_cut_less = λ n u sn df. omega (arith, cut_bounds M n u laws sn df 1 f ok.balanced (once M f ok.within));
          none_carries_more = b.1;
        }

pub path_missing_when_best : PathMissingWhenBest
path_missing_when_best M f laws ok = (λ c aug. more (step M f) refl c aug, λ none_there g. no_more (step M f) refl none_there g)
  where
    more : (o : Option Move) → step M f ≡ o → (c : List State) → Augments M f c → MoreCarried M f
    more none q c aug = absurd ((first_shortest_path M f laws ok).1 q c aug)
    more (some v) q c aug =
        let m = moves_keep_plans_feasible M f v laws ok q in
        (made v f, m.feasible, omega (arith, m.grows, m.some))

    no_more : (o : Option Move) → step M f ≡ o → NoPath M f → MoreCarried M f → ⊥
    no_more none q p g = omega (arith, g.2, (finished_is_best M f laws ok q).none_carries_more 1 g.0 g.1.balanced (once M g.0 g.1.within))
    no_more (some v) q p g = p v.lanes ((first_shortest_path M f laws ok).0 v q).augments
