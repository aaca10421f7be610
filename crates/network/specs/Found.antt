-- Labels by levels, one for each lane, and the path read back along their names.
use Rattle.std.specs.Prelude.{◌≡◌, ℕ, suc, ◌<◌, Bool, true, false}
use Rattle.levels.specs.Levels.{Straight, Lowest}
use Rattle.levels.specs.Search.{Labels}
use Rattle.floor.specs.Meaning.{Meaning, Lawful}
use Rattle.network.specs.States.{Residual, Turns, holder, lane_number, State, Pole, Step, Path}
use Rattle.network.specs.Plans.{Fits}

-- In i x: the state x has a label of level i, given by the state name x; the levels below N - 1 have been scanned
abbrev pub LevelLabels : Meaning → (ℕ → ℕ) → ℕ → (ℕ → State → Type 0) → (State → State) → Type 0
LevelLabels M f N In name = Labels holder lane_number (Residual M f) (Turns M) (Pole false) N In name

-- the path read back has no detour, each state is at its level, and each has the lowest lane number that can stand there
pub record Found (M : Meaning) (f : ℕ → ℕ) (P : ℕ → State) (N : ℕ) : Type 0 where
  pub path : Path M f P N
  pub straight : Straight (Step M f) P N
  pub lowest : Lowest lane_number (Step M f) P N

-- labels that are a test: a contract takes no statement over all relations
abbrev pub SearchFinds : Type 0
SearchFinds =
    (M : Meaning) (f : ℕ → ℕ) (N : ℕ) (lab : ℕ → State → Bool) (name : State → State) (P : ℕ → State)
    → Lawful M → Fits M f → LevelLabels M f N (λ i x. lab i x ≡ true) name
    → 0 < N → P N ≡ Pole true → lab N (P N) ≡ true → ((i : ℕ) → i < N → P i ≡ name (P (suc i))) → Found M f P N
