-- A limit that borrows its numbers from the file, as the records of the format know it.
use Rattle.std.specs.Prelude.{ℕ, ◌-◌, ◌*◌, ◌/◌, List, length, Ok, Err, Result}
use Rattle.plantformat.specs.declared.FloorFault.{FloorFault}
use Rattle.plantformat.specs.Records as format
use Rattle.plantformat.specs.Records.{table, groups, grades}
use Rattle.plantformat.specs.Judge.{longs, parents_at, bounds_at, members_at, table_read, groups_read, grades_read}
use Rattle.limits.specs.declared.Limit.{Limit}
use Rattle.limits.specs.declared.Limit.TheVariants.{Table, Groups, Grades}

-- how many positions have a group, in the bytes after the fixed part of g groups
abbrev pub positions : ℕ → List ℕ → ℕ
positions g b = (length b - 6 * g) / 2

-- the numbers that a limit holds
abbrev pub told : Limit → format.Limit
told (Table side caps) = table side (longs caps.now)
told (Groups side count numbers) =
    groups side (parents_at count numbers.now) (bounds_at count numbers.now) (members_at (positions count numbers.now) count numbers.now)
told (Grades side steps) = grades side (longs steps.now)

-- the side of a limit
abbrev pub told_side : Limit → ℕ
told_side (Table side caps) = side
told_side (Groups side count numbers) = side
told_side (Grades side steps) = side

-- a limit judged on a side of k lanes, at a place of the file
abbrev pub limit_read : ℕ → ℕ → Limit → Result format.Limit FloorFault
limit_read k at (Table side caps) = table_read k at side caps.now
limit_read k at (Groups side count numbers) = groups_read k at side count numbers.now
limit_read k at (Grades side steps) = grades_read k at side steps.now

-- whether something is allowed, without what it makes
abbrev pub allowed : {X : Type 0} → Result X FloorFault → Result (Unit {0}) FloorFault
allowed (Ok x) = Ok tt
allowed (Err e) = Err e
