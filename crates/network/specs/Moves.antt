-- What a move along a path without detour does to a floor: it breaks no cap, its critical pair lets nothing through
-- afterwards, and a step that it brings about comes from two steps into and out of the path.
use Rattle.std.specs.Prelude.{◌≡◌, ℕ, suc, ◌+◌, ◌<◌, ◌≤◌, ◌⊎◌}
use Rattle.floor.specs.Meaning.{Meaning, Lawful}
use Rattle.network.specs.States.{State, amount, Step, Path, augmented}
use Rattle.network.specs.Plans.{Fits, Balanced, total}

-- a move of n along P
pub record Moving (M : Meaning) (f : ℕ → ℕ) (P : ℕ → State) (N n : ℕ) : Type 0 where
  pub laws : Lawful M
  pub fits : Fits M f
  pub path : Path M f P N
  pub least : (q : ℕ) → q < N → n ≤ amount M f (P q) (P (suc q))

abbrev pub MoveFits : Type 0
MoveFits = (M : Meaning) (f : ℕ → ℕ) (P : ℕ → State) (N n : ℕ) → Moving M f P N n → Fits M (augmented n P N f)

abbrev pub PairDies : Type 0
PairDies =
    (M : Meaning) (f : ℕ → ℕ) (P : ℕ → State) (N n : ℕ) → Moving M f P N n
    → (q : ℕ) → q < N → amount M f (P q) (P (suc q)) ≡ n → amount M (augmented n P N f) (P q) (P (suc q)) ≡ 0

-- a step into the path, and a step out of it from an earlier state
abbrev pub Spliced : Meaning → (ℕ → ℕ) → (ℕ → State) → ℕ → State → State → Type 0
Spliced M f P N x y = (i j : ℕ) × (i < j) × (j ≤ N) × Step M f x (P j) × Step M f (P i) y

abbrev pub StepsSplice : Type 0
StepsSplice =
    (M : Meaning) (f : ℕ → ℕ) (P : ℕ → State) (N n : ℕ) → Moving M f P N n
    → (x y : State) → Step M (augmented n P N f) x y → Step M f x y ⊎ Spliced M f P N x y

-- a move keeps the balance, and adds its amount to the total
abbrev pub MoveBalances : Type 0
MoveBalances =
    (M : Meaning) (f : ℕ → ℕ) (P : ℕ → State) (N n : ℕ) → Moving M f P N n → Balanced M f
    → Balanced M (augmented n P N f) × (total M (augmented n P N f) ≡ total M f + n)
