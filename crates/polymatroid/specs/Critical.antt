-- What a move changes at one side: a critical pair is no pair afterwards, and a new pair splices.
use Rattle.std.specs.Prelude.{◌≡◌, ℕ, ◌<◌, ◌≤◌, ◌⊎◌, List, length, slice_index_or}
use Rattle.polymatroid.specs.Side.{room_but}
use Rattle.polymatroid.specs.Exchange.{Exchange, SideMove, after}

-- position i of the list; past its end, an exchange of nothing
abbrev pub nth : ℕ → List Exchange → ℕ → Exchange
nth k ss i = slice_index_or ss i (record { up = k; down = k })

-- where the amount is the room of a pair, that pair has no room afterwards
abbrev pub CriticalPairDies : Type 0
CriticalPairDies =
    (k : ℕ) (cap w : ℕ → ℕ) (n u v : ℕ) (ss : List Exchange) → SideMove k cap w n u v ss
    → (u < k → room_but k cap w u v ≡ n → room_but k cap (after n u v ss w) u v ≡ 0)
    × ((i : ℕ) → i < length ss → room_but k cap w (nth k ss i).up (nth k ss i).down ≡ n
    → room_but k cap (after n u v ss w) (nth k ss i).up (nth k ss i).down ≡ 0)

-- e and g are one position, or e has room without g
abbrev pub Pairs : ℕ → (ℕ → ℕ) → (ℕ → ℕ) → ℕ → ℕ → Type 0
Pairs k cap w e g = (e ≡ g) ⊎ (0 < room_but k cap w e g)

-- where e and g become a pair, e was a pair with a position b from which the move took trays,
-- and a position a, to which the move gave trays with b or before b, was a pair with g
abbrev pub NewPairSplices : Type 0
NewPairSplices =
    (k : ℕ) (cap w : ℕ → ℕ) (n u v : ℕ) (ss : List Exchange) → SideMove k cap w n u v ss
    → (e g : ℕ) → e < k → (Pairs k cap w e g → ⊥) → Pairs k cap (after n u v ss w) e g
    → ((v < k) × Pairs k cap w e v)
    ⊎ ((i j : ℕ) × (i ≤ j) × (j < length ss) × Pairs k cap w e (nth k ss j).down × Pairs k cap w (nth k ss i).up g)
