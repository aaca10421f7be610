-- The amount of a path, worked out from rooms alone.
use Rattle.std.specs.Prelude.{◌≡◌, ℕ, suc, ◌<◌, ◌≤◌, min, true, List, length, ◌≢◌}
use Rattle.polymatroid.specs.Finite.{least}
use Rattle.floor.specs.Floor.{leaving, entering}
use Rattle.floor.specs.Meaning.{Meaning, Lawful}
use Rattle.network.specs.Plans.{Fits}
use Rattle.network.specs.States.{State, Pole, Plus, Minus, OnFloor, holder}
use Rattle.labelling.specs.Amount.{amount_of}
use Rattle.labelling.specs.Augmenting.{along}
use Rattle.measures.specs.ByRooms.{beside}

-- what the lane y lets through between x before it and z after it: a - lane its trays, a + lane its room at either end
abbrev pub term_by_rooms : Meaning → (ℕ → ℕ) → State → State → State → ℕ
term_by_rooms M f x (Pole b) z = 0
term_by_rooms M f x (Plus e) z = min (beside M f leaving e x) (beside M f entering e z)
term_by_rooms M f x (Minus e) z = f e

-- what the lane with number q on the path p lets through
abbrev pub through : Meaning → (ℕ → ℕ) → List State → ℕ → ℕ
through M f p q = term_by_rooms M f (along p q) (along p (suc q)) (along p (suc (suc q)))

-- the least of these over the first l lanes
unfoldable pub least_through : Meaning → (ℕ → ℕ) → List State → ℕ → ℕ
least_through M f p l = least (λ q. true) (λ q. through M f p q) (through M f p 0) l

-- the amount of a path
unfoldable pub amount_by_rooms : Meaning → (ℕ → ℕ) → List State → ℕ
amount_by_rooms M f p = least_through M f p (length p)

-- on a path of the floor whose neighbours are different lanes, this is the amount of the rules
abbrev pub AmountsByRooms : Type 0
AmountsByRooms =
    (M : Meaning) (f : ℕ → ℕ) → Lawful M → Fits M f → (p : List State) → 0 < length p
    → ((i : ℕ) → i ≤ suc (length p) → OnFloor M (along p i))
    → ((i : ℕ) → i ≤ length p → holder (along p i) ≢ holder (along p (suc i)))
    → amount_by_rooms M f p ≡ amount_of M f p
