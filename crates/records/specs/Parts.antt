-- What the record layer hands on, as the definitions of the format see it.
use Rattle.std.specs.Prelude.{ℕ, ◌*◌, not, List, length, Ok, Err, Result, nat_lt}
use Rattle.plantformat.specs.declared.RecordFault.{RecordFault}
use Rattle.plantformat.specs.declared.RecordFault.TheVariants as rec
use Rattle.plantformat.specs.Bytes.{word}
use Rattle.plantformat.specs.Judge.{unless, Part, a_lane, a_table, a_groups, a_grades}
use Rattle.limits.specs.declared.Limit.{Limit}
use Rattle.limits.specs.declared.Limit.TheVariants.{Table, Groups, Grades}
use Rattle.records.specs.declared.bodies.Record as code
use Rattle.records.specs.declared.bodies.Record.TheVariants as record_of

-- a limit of which the fixed part is read
abbrev pub limit_part : Limit → Part
limit_part (Table side caps) = a_table side caps.now
limit_part (Groups side count numbers) = a_groups side count numbers.now
limit_part (Grades side steps) = a_grades side steps.now

-- the side of a limit whose fixed part is f bytes, on a floor of n stations
abbrev pub side_read : ℕ → ℕ → ℕ → List ℕ → Result ℕ RecordFault
side_read f n at b = unless (nat_lt (length b) f) (rec.Size at) (unless (not (nat_lt (word b 0) (2 * n))) (rec.Range at) (Ok (word b 0)))

-- a record as the definitions of the format see it
abbrev pub record_part : code.Record → Part
record_part (record_of.Lane l) = a_lane l
record_part (record_of.Limit l) = limit_part l

-- what is answered of a body, with its bytes as lists
abbrev pub record_shown : Result code.Record RecordFault → Result Part RecordFault
record_shown (Ok r) = Ok (record_part r)
record_shown (Err e) = Err e
