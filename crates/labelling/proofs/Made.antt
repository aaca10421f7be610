-- A step by cases: the path that the labelling found, its amount and the trays after the move; or the finished labelling.
use Rattle.std.proofs.Common.{◌≡◌, ℕ, suc, ◌≤◌, List, sym, refl, ap, ◌∙◌, arith}
use mathlib.Core.Option.{none, some}
use Rattle.floor.specs.Meaning.{Meaning, Lawful}
use Rattle.network.specs.States.{augmented}
use Rattle.network.specs.Plans.{Fits}
use Rattle.network.specs.Stages.{Stage}
use Rattle.network.specs.Found.{Found}
use Rattle.labelling.specs.Rules.{ruled}
use Rattle.labelling.specs.Table.{Mark, Outcome, Ended, Finished, label, path}
use Rattle.labelling.specs.Augmenting.{along}
use Rattle.labelling.specs.Amount.{least_term, amount_of}
use Rattle.labelling.specs.Steps.{outcome, row, Move, move_of, step, made}
use Rattle.labelling.proofs.Finds.{rules_find}
use Rattle.labelling.proofs.Pairs.{lets, tightest, stage}
use Rattle.labelling.proofs.Amounts.{rules_amount, one_lane}
use Rattle.labelling.proofs.Rows.{row_length, along_row, least_term_same, walked_same, shifted_walked}

-- the move along the path that ends in lane e after l lanes
abbrev pub move_along : Meaning → (ℕ → ℕ) → ℕ → ℕ → List Mark → Move
move_along M f l e t = record { lanes = row (path l e t) l; amount = amount_of M f (row (path l e t) l) }

no_move : (v : Move) → none ≡ some v → ⊥
no_move v h = let z : ◌≡◌ {A = ℕ} 0 1 = cc in omega arith

one_move : (u v : Move) → some u ≡ some v → v ≡ u
one_move u v h = cc

module _ (M : Meaning) (f : ℕ → ℕ) where
  pub step_ended : (v : Move) → step M f ≡ some v
      → (l e : ℕ) × (t : List Mark) × (label (ruled M f) M.floor.lanes ≡ Ended l e t) × (v ≡ move_along M f l e t)
  unfolding step outcome
  step_ended v h = by (label (ruled M f) M.floor.lanes) refl h
    where
      by : (o : Outcome) → label (ruled M f) M.floor.lanes ≡ o → move_of M f o ≡ some v
          → (l e : ℕ) × (t : List Mark) × (label (ruled M f) M.floor.lanes ≡ Ended l e t) × (v ≡ move_along M f l e t)
      by (Ended l e t) q h = (l, e, t, q, one_move (move_along M f l e t) v h)
      by (Finished t) q h = absurd (no_move v h)

  pub step_finished : step M f ≡ none → (t : List Mark) × (label (ruled M f) M.floor.lanes ≡ Finished t)
  unfolding step outcome
  step_finished h = by (label (ruled M f) M.floor.lanes) refl h
    where
      by : (o : Outcome) → label (ruled M f) M.floor.lanes ≡ o → move_of M f o ≡ none
          → (t : List Mark) × (label (ruled M f) M.floor.lanes ≡ Finished t)
      by (Ended l e t) q h = absurd (no_move (move_along M f l e t) (sym h))
      by (Finished t) q h = (t, q)

-- the path that was found
module _ (M : Meaning) (laws : Lawful M) (f : ℕ → ℕ) (fits : Fits M f) (l e : ℕ) (t : List Mark)
    (q : label (ruled M f) M.floor.lanes ≡ Ended l e t) where
  pub found_path : Found M f (path l e t) (suc l)
  found_path = rules_find M f l e t laws fits q

  -- as a list it is the same
  pub same_path : (i : ℕ) → i ≤ suc l → along (row (path l e t) l) i ≡ path l e t i
  same_path = along_row (path l e t) l found_path.path.begin found_path.path.finish

  -- the amount of the rules is the least amount of a pair
  pub amount_is : amount_of M f (row (path l e t) l) ≡ lets M f (path l e t) (suc l)
  unfolding amount_of
  amount_is =
      ap (least_term M f (along (row (path l e t) l))) (row_length (path l e t) l)
      ∙ least_term_same (path l e t) (along (row (path l e t) l)) l same_path M f (one_lane M laws f (path l e t) l found_path.path)
      ∙ rules_amount M f l e t laws fits q

  pub made_is : made (move_along M f l e t) f ≡ augmented (lets M f (path l e t) (suc l)) (path l e t) (suc l) f
  made_is =
      shifted_walked (amount_of M f (row (path l e t) l)) (row (path l e t) l) f
      ∙ ap (λ k. augmented (amount_of M f (row (path l e t) l)) (along (row (path l e t) l)) (suc k) f) (row_length (path l e t) l)
      ∙ walked_same (path l e t) (along (row (path l e t) l)) l same_path (amount_of M f (row (path l e t) l)) f (suc l) (omega arith)
      ∙ ap (λ n. augmented n (path l e t) (suc l) f) amount_is

  -- the move is a stage, limited by the first pair of least amount
  pub stage_is : Stage M f (path l e t) (suc l) (lets M f (path l e t) (suc l)) (tightest M f (path l e t) (suc l))
  stage_is = stage M f (path l e t) (suc l) laws fits (omega arith) found_path
