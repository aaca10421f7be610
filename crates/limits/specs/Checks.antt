-- What is asked of the numbers of a limit, part by part, as they lie in its bytes.
use Rattle.std.specs.Prelude.{◌≡◌, ℕ, ◌+◌, ◌*◌, ◌^◌, ◌≤◌, true, not, ◌&&◌, ◌||◌, List, length, Ok, Result, ◌==◌, nat_lt, slice_index}
use Rattle.polymatroid.specs.Tables.{rises, bows}
use Rattle.polymatroid.specs.Kinds.{Groups, own}
use Rattle.floor.specs.Numbers.{most_on_side, top_cap}
use Rattle.plantformat.specs.Numbers.{most_groups}
use Rattle.plant.specs.declared.refusals.Law.TheVariants.{Empty, Grows, Bends}
use Rattle.plantformat.specs.declared.RecordFault.{RecordFault}
use Rattle.plantformat.specs.declared.RecordFault.TheVariants as rec
use Rattle.plantformat.specs.declared.LimitFault.{LimitFault}
use Rattle.plantformat.specs.declared.LimitFault.TheVariants as lim
use Rattle.plantformat.specs.Records.{grouping}
use Rattle.plantformat.specs.Rules.{all_at_most, all_below, parents_keep}
use Rattle.plantformat.specs.Judge.{unless, longs, parents_at, bounds_at, members_at}

-- the bytes have a cap for each set of k positions, and none is too high
pub record TableOf (k : ℕ) (b : List ℕ) : Type 0 where
  pub narrow : k ≤ most_on_side
  pub whole : length b ≡ 4 * 2 ^ k
  pub low : all_at_most top_cap (longs b) ≡ true

-- the bytes have the parents and bounds of g groups and the groups of k positions, and all are in range
pub record GroupsOf (g k : ℕ) (b : List ℕ) : Type 0 where
  pub narrow : k ≤ most_on_side
  pub some : 1 ≤ g
  pub few : g ≤ most_groups
  pub whole : 6 * g + 2 * k ≤ length b
  pub parents : parents_keep (parents_at g b) ≡ true
  pub bounds : all_at_most top_cap (bounds_at g b) ≡ true
  pub members : all_below g (members_at k g b) ≡ true

-- the groups in the bytes, over lanes with own caps ws
abbrev pub groups_in : ℕ → List ℕ → List ℕ → Groups
groups_in g b ws = grouping (parents_at g b) (bounds_at g b) (members_at (length ws) g b) (λ p. slice_index ws p)

-- what the members of a set among the first n positions bring to a group
abbrev pub own_share : Groups → ℕ → ℕ → ℕ → ℕ
own_share G n i X = own G n i X

-- the cap of a set in a table
abbrev pub table_cap : List ℕ → ℕ → ℕ
table_cap b X = slice_index (longs b) X

-- the size and the range of n four-byte numbers
abbrev pub longs_checked : ℕ → ℕ → ℕ → List ℕ → Result (Unit {0}) RecordFault
longs_checked n top at b = unless (not (length b == 4 * n)) (rec.Size at) (unless (not (all_at_most top (longs b))) (rec.Range at) (Ok tt))

-- the laws of a table, the lowest first
abbrev pub laws_checked : ℕ → ℕ → List ℕ → Result (Unit {0}) LimitFault
laws_checked k at b =
    unless (not (table_cap b 0 == 0)) (lim.Breaks at Empty)
    (unless (not (rises k (table_cap b))) (lim.Breaks at Grows) (unless (not (bows k (table_cap b))) (lim.Breaks at Bends) (Ok tt)))

-- the number, the size and the ranges of g groups and of the groups of k positions
abbrev pub groups_checked : ℕ → ℕ → ℕ → List ℕ → Result (Unit {0}) RecordFault
groups_checked g k at b =
    unless (nat_lt g 1 || nat_lt most_groups g) (rec.Range at)
    (unless (not (length b == 6 * g + 2 * k)) (rec.Size at)
    (unless (not (parents_keep (parents_at g b) && (all_at_most top_cap (bounds_at g b) && all_below g (members_at k g b)))) (rec.Range at) (Ok tt)))
