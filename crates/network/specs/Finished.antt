-- A labelling that can label no more, and the cut that it makes.
use Rattle.std.specs.Prelude.{◌≡◌, ℕ, ◌*◌, ◌≤◌, Bool, true, false, not, ◌||◌, ◌⊎◌}
use Rattle.floor.specs.Meaning.{Meaning, Lawful}
use Rattle.network.specs.States.{Residual, Open, State, Pole, Plus, Minus, at, OnFloor}
use Rattle.network.specs.Plans.{Fits, Balanced, FitsBy, total}
use Rattle.network.specs.Cuts.{capacity}

-- pl are the lanes labelled +, mi those labelled -: the state has its label
abbrev pub LabelledState : (ℕ → Bool) → (ℕ → Bool) → State → Type 0
LabelledState pl mi (Pole false) = Unit {0}
LabelledState pl mi (Pole true) = ⊥
LabelledState pl mi (Plus e) = pl e ≡ true
LabelledState pl mi (Minus e) = mi e ≡ true

-- the lane of the state has a label
abbrev pub LabelledLane : (ℕ → Bool) → (ℕ → Bool) → State → Type 0
LabelledLane pl mi (Pole false) = Unit {0}
LabelledLane pl mi (Pole true) = ⊥
LabelledLane pl mi (Plus e) = (pl e || mi e) ≡ true
LabelledLane pl mi (Minus e) = (pl e || mi e) ≡ true

-- the labels are closed
pub record Closed (M : Meaning) (f : ℕ → ℕ) (pl mi near : ℕ → Bool) : Type 0 where
  -- each label has its giver, and what a labelled state gives is labelled
  pub given : (y : State) → OnFloor M y → LabelledState pl mi y → (y ≡ Pole false) ⊎ ((x : State) × LabelledState pl mi x × Residual M f x y)
  pub closed : (x y : State) → LabelledState pl mi x → Residual M f x y → LabelledLane pl mi y
  -- the stations that a labelled state opens
  pub near_if : (x : State) → OnFloor M x → LabelledState pl mi x → Open M f x → near (at M true x) ≡ true
  pub near_only : (i : ℕ) → near i ≡ true → (x : State) × OnFloor M x × LabelledState pl mi x × Open M f x × (at M true x ≡ i)

-- the lanes without a label
abbrev pub without_label : (ℕ → Bool) → (ℕ → Bool) → ℕ → Bool
without_label pl mi e = not (pl e || mi e)

-- then the plan carries what the cut lets through, and no plan carries more
abbrev pub FinishedBest : Type 0
FinishedBest =
    (M : Meaning) (f : ℕ → ℕ) (pl mi near : ℕ → Bool) → Lawful M → Fits M f → Balanced M f → Closed M f pl mi near
    → (total M f ≡ capacity M near (without_label pl mi))
    × ((q : ℕ) (g : ℕ → ℕ) → Balanced M g → FitsBy M q g → total M g ≤ q * total M f)
