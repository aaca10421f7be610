-- The trays of a side as a list, and the sums of its sets as a table.
use Rattle.std.specs.Prelude.{◌≡◌, ℕ, ◌^◌, ◌<◌, ◌≤◌, min, cond, ◌&&◌, List, length, nat_lt, slice_index}
use Rattle.polymatroid.specs.Sets.{has}
use Rattle.polymatroid.specs.Side.{load, left}
use Rattle.floor.specs.Numbers.{most_on_side}

-- what a list has for position p, and 0 past its end
abbrev pub at : List ℕ → ℕ → ℕ
at xs p = slice_index xs p

-- the sums are the trays of every set of the side
pub record Sums (trays sums : List ℕ) : Type 0 where
  pub narrow : length trays ≤ most_on_side
  pub whole : length sums ≡ 2 ^ length trays
  pub each : (X : ℕ) → X < 2 ^ length trays → slice_index sums X ≡ load (at trays) (length trays) X

-- what position p of a side with k positions alone leaves of its cap, and 0 past them
abbrev pub alone : ℕ → (ℕ → ℕ) → (ℕ → ℕ) → ℕ → ℕ
alone k cap w p = cond (nat_lt p k) (left k cap w (2 ^ p)) 0

-- the room of p once a set has been looked at that leaves n
abbrev pub lowered : ℕ → ℕ → List ℕ → ℕ → ℕ
lowered X n rooms p = cond (has X p) (min n (at rooms p)) (at rooms p)

-- the trays that position g brings to the set X, none if it is not on the side
abbrev pub share : ℕ → List ℕ → ℕ → ℕ
share X trays g = cond (nat_lt g (length trays) && has X g) (at trays g) 0
