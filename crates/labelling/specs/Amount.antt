-- The amount of a path, as the rules word it.
use Rattle.std.specs.Prelude.{ℕ, suc, min, Bool, true, cond, List, length, ◌==◌}
use Rattle.polymatroid.specs.Finite.{least}
use Rattle.floor.specs.Floor.{leaving, entering}
use Rattle.floor.specs.Meaning.{Meaning}
use Rattle.network.specs.States.{State, Pole, Plus, Minus, lane_room, lane_room_but}
use Rattle.labelling.specs.Augmenting.{along}

-- the room of lane e at its end d over the sets without a neighbour in the path; one that is missing, or does not lie on
-- that side, rules out no set
abbrev pub room_beside : Meaning → (ℕ → ℕ) → Bool → ℕ → State → ℕ
room_beside M f d e (Pole b) = lane_room M f d e
room_beside M f d e (Plus g) = cond (M.floor.end d g == M.floor.end d e) (lane_room_but M f d e g) (lane_room M f d e)
room_beside M f d e (Minus g) = cond (M.floor.end d g == M.floor.end d e) (lane_room_but M f d e g) (lane_room M f d e)

-- what the lane y lets through between x before it and z after it: a - lane its trays, a + lane its room at either end
abbrev pub term : Meaning → (ℕ → ℕ) → State → State → State → ℕ
term M f x (Pole b) z = 0
term M f x (Plus e) z = min (room_beside M f leaving e x) (room_beside M f entering e z)
term M f x (Minus e) z = f e

-- the least of these over the lanes P 1, .., P l
unfoldable pub least_term : Meaning → (ℕ → ℕ) → (ℕ → State) → ℕ → ℕ
least_term M f P l = least (λ q. true) (λ q. term M f (P q) (P (suc q)) (P (suc (suc q)))) (term M f (P 0) (P 1) (P 2)) l

-- the amount of a path
unfoldable pub amount_of : Meaning → (ℕ → ℕ) → List State → ℕ
amount_of M f p = least_term M f (along p) (length p)
