-- Whether a limit may be added, by the limits that are there and by its own numbers.
use Rattle.std.proofs.Common.{◌≡◌, ℕ, Bool, true, false, cond, is_some, Ok, Err, Result, refl}
use Rattle.plantformat.specs.declared.FloorFault.{FloorFault}
use Rattle.plantformat.specs.declared.FloorFault.TheVariants as flo
use Rattle.plantformat.specs.Records as format
use Rattle.plantformat.specs.Records.{side_of, limit_of}
use Rattle.plantformat.specs.Judge.{unless, Draft, placed, limit_added, limit_placed, width_of}
use Rattle.records.specs.Parts.{limit_part}
use Rattle.limits.specs.declared.Limit.{Limit}
use Rattle.limits.specs.declared.Limit.TheVariants.{Table, Groups, Grades}
use Rattle.limits.specs.Told.{told, limit_read, allowed}

-- a limit for a side that has none is allowed by its numbers
allowed_alone : (d : Draft) (at s : ℕ) (r : Result format.Limit FloorFault)
    → allowed (limit_placed d at s r) ≡ cond (is_some (limit_of s d.limits)) (Err (flo.SecondLimit at)) (allowed r)
allowed_alone d at s r = by (is_some (limit_of s d.limits)) r
  where
    by : (b : Bool) (r : Result format.Limit FloorFault) → allowed (unless b (flo.SecondLimit at) (limit_added d r)) ≡ cond b (Err (flo.SecondLimit at)) (allowed r)
    by true r = refl
    by false (Ok x) = refl
    by false (Err e) = refl

pub limit_placed_is : (d : Draft) (at : ℕ) (l : Limit)
    → allowed (placed d at (limit_part l))
    ≡ cond (is_some (limit_of (side_of (told l)) d.limits)) (Err (flo.SecondLimit at)) (allowed (limit_read (width_of d (side_of (told l))) at l))
limit_placed_is d at (Table side caps) = allowed_alone d at side _
limit_placed_is d at (Groups side count numbers) = allowed_alone d at side _
limit_placed_is d at (Grades side steps) = allowed_alone d at side _
