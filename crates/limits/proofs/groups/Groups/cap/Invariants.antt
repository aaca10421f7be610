use Rattle.std.proofs.Common.{◌≡◌, ℕ, ◌-◌, ◌<◌, ◌≤◌, length, get_or}
use Rattle.polymatroid.specs.More.{reached}
use Rattle.limits.specs.Checks.{groups_in}
use Rattle.limits.proofs.groups.Groups.cap.Given as goal

abbrev pub invariant-loop-group : goal.invariant-loop-group
invariant-loop-group l =
    (length l.sums ≡ 16) × (1 ≤ l.group)
    × ((i : ℕ) → i < 16 → get_or l.sums i 0 ≡ reached (groups_in l.self.count l.self.numbers.now l.own) (length l.own) l.set (l.self.count - l.group) i)
