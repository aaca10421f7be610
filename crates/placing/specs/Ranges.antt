-- The ranges that the record layer has looked at before a record is placed.
use Rattle.std.specs.Prelude.{◌≡◌, ℕ, ◌*◌, ◌<◌, true}
use Rattle.plantformat.specs.Rules.{lane_ranged}
use Rattle.plantformat.specs.Judge.{Part, a_lane, a_table, a_groups, a_grades}

-- the numbers of a record that the record layer has looked at are in their ranges, on a floor of n stations
abbrev pub Ranged : ℕ → Part → Type 0
Ranged n (a_lane l) = lane_ranged n l ≡ true
Ranged n (a_table s b) = s < 2 * n
Ranged n (a_groups s g b) = s < 2 * n
Ranged n (a_grades s b) = s < 2 * n
