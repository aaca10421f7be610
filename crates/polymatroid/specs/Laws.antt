-- The laws of the caps of a side of k lanes, one by one.
use Rattle.std.specs.Prelude.{◌≡◌, ℕ, ◌+◌, ◌^◌, ◌<◌, ◌≤◌, bit_and, bit_or}
use Rattle.polymatroid.specs.Side.{Caps}

-- law 1: the empty set has cap 0
abbrev pub Empty : (ℕ → ℕ) → Type 0
Empty cap = cap 0 ≡ 0

-- law 2: adding a lane never lowers the cap
abbrev pub Grows : ℕ → (ℕ → ℕ) → Type 0
Grows k cap = (X p : ℕ) → X < 2 ^ k → p < k → cap X ≤ cap (bit_or X (2 ^ p))

-- law 3: two sets have together no less than what they make and what they share
abbrev pub Bends : ℕ → (ℕ → ℕ) → Type 0
Bends k cap = (X Y : ℕ) → X < 2 ^ k → Y < 2 ^ k → cap (bit_or X Y) + cap (bit_and X Y) ≤ cap X + cap Y

-- law 4: no cap is above the top
abbrev pub Below : ℕ → ℕ → (ℕ → ℕ) → Type 0
Below top k cap = (X : ℕ) → X < 2 ^ k → cap X ≤ top

-- all four
abbrev pub FourLaws : ℕ → ℕ → (ℕ → ℕ) → Type 0
FourLaws top k cap = Caps k cap × Below top k cap
