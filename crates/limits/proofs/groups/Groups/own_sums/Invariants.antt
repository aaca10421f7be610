use Rattle.std.proofs.Common.{◌≡◌, ℕ, ◌<◌, length, get_or}
use Rattle.limits.specs.Checks.{groups_in, own_share}
use Rattle.limits.proofs.groups.Groups.own_sums.Given as goal

abbrev pub invariant-loop-position : goal.invariant-loop-position
invariant-loop-position l =
    (length l.sums ≡ 16)
    × ((i : ℕ) → i < 16 → get_or l.sums i 0 ≡ own_share (groups_in l.self.count l.self.numbers.now l.own) l.position i l.set)
