-- A limit that is read is the one that its bytes tell.
use Rattle.std.proofs.Common.{◌≡◌, ℕ, ◌+◌, ◌*◌, List, length, Ok, arith}
use Rattle.std.proofs.lemmas.Bool.{eqb-true}
use Rattle.plantformat.specs.Records as format
use Rattle.plantformat.specs.Records.{table, groups, grades, side_of}
use Rattle.plantformat.specs.Judge.{longs, parents_at, bounds_at, members_at, table_read, groups_read, grades_read}
use Rattle.limits.specs.declared.Limit.{Limit}
use Rattle.limits.specs.declared.Limit.TheVariants.{Table, Groups, Grades}
use Rattle.limits.specs.Told.{told, limit_read, positions}

-- ---- tables

module _ (k at s : ℕ) (b : List ℕ) (x : format.Limit) (read : table_read k at s b ≡ Ok x) where
  table_is : x ≡ table s (longs b)
  table_is = grind arith

-- ---- groups

module _ (k at s g : ℕ) (b : List ℕ) (x : format.Limit) (read : groups_read k at s g b ≡ Ok x) where
  groups_size : length b ≡ 6 * g + 2 * k
  groups_size = eqb-true (length b) (6 * g + 2 * k) (grind arith)

  groups_is : x ≡ groups s (parents_at g b) (bounds_at g b) (members_at k g b)
  groups_is = grind arith

  groups_told : x ≡ groups s (parents_at g b) (bounds_at g b) (members_at (positions g b) g b)
  groups_told =
      let n = groups_size in
      let all : positions g b ≡ k = omega arith in
      rw all groups_is

-- ---- grades

module _ (k at s : ℕ) (b : List ℕ) (x : format.Limit) (read : grades_read k at s b ≡ Ok x) where
  grades_is : x ≡ grades s (longs b)
  grades_is = grind arith

-- ---- any limit

pub read_is_told : (k at : ℕ) (l : Limit) (x : format.Limit) → limit_read k at l ≡ Ok x → x ≡ told l
read_is_told k at (Table side caps) x e = table_is k at side caps.now x e
read_is_told k at (Groups side count numbers) x e = groups_told k at side count numbers.now x e
read_is_told k at (Grades side steps) x e = grades_is k at side steps.now x e
