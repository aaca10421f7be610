-- Moves one after the other, each along a shortest path of lowest lane numbers.
use Rattle.std.specs.Prelude.{◌≡◌, ℕ, suc, ◌-◌, ◌*◌, ◌<◌, ◌≤◌, ◌≢◌, nat_eq}
use Rattle.levels.specs.Counting.{tally}
use Rattle.levels.specs.Levels.{Straight, Lowest}
use Rattle.floor.specs.Meaning.{Meaning}
use Rattle.network.specs.States.{lane_number, State, amount, Step, augmented}
use Rattle.network.specs.Moves.{Moving}

-- a move of n along P, which the pair at q limits
pub record Stage (M : Meaning) (f : ℕ → ℕ) (P : ℕ → State) (N n q : ℕ) : Type 0 where
  pub moving : Moving M f P N n
  pub straight : Straight (Step M f) P N
  pub lowest : Lowest lane_number (Step M f) P N
  pub index : q < N
  pub critical : amount M f (P q) (P (suc q)) ≡ n

-- T moves one after the other
pub record Run (M : Meaning) (T : ℕ) : Type 0 where
  pub trays : ℕ → ℕ → ℕ
  pub path : ℕ → ℕ → State
  pub length : ℕ → ℕ
  pub amt : ℕ → ℕ
  pub pair : ℕ → ℕ
  pub stage : (s : ℕ) → s < T → Stage M (trays s) (path s) (length s) (amt s) (pair s)
  pub next : (s : ℕ) → suc s < T → trays (suc s) ≡ augmented (amt s) (path s) (length s) (trays s)

-- from move to move the paths grow no shorter
abbrev pub LengthsRise : Type 0
LengthsRise = (M : Meaning) (T : ℕ) (r : Run M T) (s t : ℕ) → s ≤ t → t < T → r.length s ≤ r.length t

-- among moves of one length no critical pair comes again
abbrev pub PairsDiffer : Type 0
PairsDiffer =
    (M : Meaning) (T : ℕ) (r : Run M T) (s t : ℕ) → s < t → t < T → r.length s ≡ r.length t
    → r.path s (r.pair s) ≡ r.path t (r.pair t) → r.path s (suc (r.pair s)) ≢ r.path t (suc (r.pair t))

-- at most 2 * m * m moves share one length, m the number of lanes (a path of l lanes has l + 1 steps)
abbrev pub FewShareALength : Type 0
FewShareALength =
    (M : Meaning) (T : ℕ) (r : Run M T) (l : ℕ) → tally (λ s. nat_eq (r.length s - 1) l) T ≤ 2 * (M.floor.lanes * M.floor.lanes)

-- at most 2 * m * m * m follow one another
abbrev pub FewStages : Type 0
FewStages = (M : Meaning) (T : ℕ) → Run M T → T ≤ M.floor.lanes * (2 * (M.floor.lanes * M.floor.lanes))
