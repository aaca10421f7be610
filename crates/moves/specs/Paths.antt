-- The signed lanes of a path.
use Rattle.std.specs.Prelude.{ℕ, ◌<◌, true, List, length, Some, None, Option, slice_index_or}
use Rattle.network.specs.States.{State, Pole, lane_number}
use Rattle.labels.specs.declared.Sign.TheVariants as sign
use Rattle.labels.specs.declared.SignedLane.{SignedLane}
use Rattle.labels.specs.Labels.{signed_state}

-- each lane of the path is one of the first m
abbrev pub Among : ℕ → List State → Type 0
Among m p = (i : ℕ) → i < length p → lane_number (slice_index_or p i (Pole true)) < m

-- the signed lane with a number on a path
abbrev pub signed_at : List SignedLane → ℕ → SignedLane
signed_at path k = slice_index_or path k (record { lane = 0; sign = sign.Plus })

-- what comes after a lane of a path: a signed lane, or the end
abbrev pub to_state : Option SignedLane → State
to_state None = Pole true
to_state (Some s) = signed_state s
