use Rattle.std.proofs.Common.{◌≡◌, ℕ, ◌<◌, length, get_or}
use Rattle.answers.specs.Answers.{owns}
use Rattle.answers.proofs.side_lanes.SideLanes.own_caps.Given as goal

abbrev pub invariant-loop-lane : goal.invariant-loop-lane
invariant-loop-lane l =
    (length l.own.items ≡ l.lane-index) × ((p : ℕ) → p < l.lane-index → get_or l.own.items p 0 ≡ owns l.self.plant.now l.self.side p)
