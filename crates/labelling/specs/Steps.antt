-- A step: the labelling, the move along the path that it finds, and moves one after another.
use Rattle.std.specs.Prelude.{◌≡◌, ℕ, zero, suc, List, [], ◌∷◌}
use Rattle.std.proofs.Math.Option.{Option, none, some}
use Rattle.floor.specs.Meaning.{Meaning}
use Rattle.network.specs.States.{State, applied}
use Rattle.labelling.specs.Rules.{ruled}
use Rattle.labelling.specs.Table.{Mark, Outcome, Ended, Finished, label, path}
use Rattle.labelling.specs.Amount.{amount_of}

-- how the labelling at the trays f comes out
unfoldable pub outcome : Meaning → (ℕ → ℕ) → Outcome
outcome M f = label (ruled M f) M.floor.lanes

-- its labels
abbrev pub table_of : Outcome → List Mark
table_of (Ended l e t) = t
table_of (Finished t) = t

abbrev pub labels : Meaning → (ℕ → ℕ) → List Mark
labels M f = table_of (outcome M f)

-- the lanes P 1, .., P l
unfoldable pub row : (ℕ → State) → ℕ → List State
row P zero = []
row P (suc l) = P 1 ∷ row (λ i. P (suc i)) l

-- signed lanes, and an amount
pub record Move : Type 0 where
  pub lanes : List State
  pub amount : ℕ

-- the move that a labelling leads to, if it found a path
abbrev pub move_of : Meaning → (ℕ → ℕ) → Outcome → Option Move
move_of M f (Ended l e t) = some (record { lanes = row (path l e t) l; amount = amount_of M f (row (path l e t) l) })
move_of M f (Finished t) = none

-- the move that a step makes at the trays f, or none: the plan is finished
unfoldable pub step : Meaning → (ℕ → ℕ) → Option Move
step M f = move_of M f (outcome M f)

-- n trays more on each + lane of the list, n fewer on each - lane
unfoldable pub shifted : ℕ → List State → (ℕ → ℕ) → ℕ → ℕ
shifted n [] f = f
shifted n (x ∷ p) f = shifted n p (applied n x f)

-- the trays after a move
abbrev pub made : Move → (ℕ → ℕ) → ℕ → ℕ
made v f = shifted v.amount v.lanes f

-- each move of the list is the one that a step makes at the trays that those before it leave
abbrev pub Follow : Meaning → (ℕ → ℕ) → List Move → Type 0
Follow M f [] = Unit {0}
Follow M f (v ∷ vs) = (step M f ≡ some v) × Follow M (made v f) vs

-- the trays after them
unfoldable pub made_all : List Move → (ℕ → ℕ) → ℕ → ℕ
made_all [] f = f
made_all (v ∷ vs) f = made_all vs (made v f)
