use Rattle.std.proofs.Common.{◌≡◌, ℕ, ◌+◌, ◌<◌, ◌≤◌, get_or}
use Rattle.rooms.proofs.add_position.Given as goal

-- the sums that the loop has come to have the new trays, the others are as they were copied
abbrev pub invariant-loop-sum : goal.invariant-loop-sum
invariant-loop-sum l =
    ((X : ℕ) → X < l.sum-index → get_or l.sum-items X 0 ≡ get_or l.initial.sum-items X 0 + l.count)
    × ((X : ℕ) → l.sum-index ≤ X → get_or l.sum-items X 0 ≡ get_or l.initial.sum-items X 0)
