-- What a state of a path gives to a set of lanes, and what it takes from it.
use Rattle.std.proofs.Common.{ℕ, Bool, cond, ◌&&◌}
use Rattle.polymatroid.specs.Sets.{has}
use Rattle.floor.specs.Floor.{on, place}
use Rattle.floor.specs.Meaning.{Meaning}
use Rattle.network.specs.States.{State, Pole, Plus, Minus}

-- n trays, where the lane has its end d at station i at a position in X
abbrev pub part_at : Meaning → ℕ → Bool → ℕ → ℕ → ℕ → ℕ
part_at M n d i X e = cond (on M.floor d i e && has X (place M.floor d i e)) n 0

unfoldable pub given : Meaning → ℕ → Bool → ℕ → ℕ → State → ℕ
given M n d i X (Pole b) = 0
given M n d i X (Plus e) = part_at M n d i X e
given M n d i X (Minus e) = 0

unfoldable pub taken : Meaning → ℕ → Bool → ℕ → ℕ → State → ℕ
taken M n d i X (Pole b) = 0
taken M n d i X (Plus e) = 0
taken M n d i X (Minus e) = part_at M n d i X e
