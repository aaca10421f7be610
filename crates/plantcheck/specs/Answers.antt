-- What is printed of a file, by the verdict on it.
use Rattle.std.specs.Prelude.{◌≡◌, ℕ, List, Ok, Err, string_bytes, vec_items, codes, Result, String}
use Rattle.std.specs.declared.alloc.Global.{Global}
use Rattle.plantformat.specs.declared.FloorFault.{FloorFault}
use Rattle.plantformat.specs.Faults.{told}
use Rattle.plantformat.specs.Records.{meaning_of}
use Rattle.plantformat.specs.Judge.{Draft}
use Rattle.listing.specs.Lines.{plant_lines, refusal_line}
use Rattle.console.specs.declared.Failure.{Failure}
use Rattle.console.specs.declared.Failure.TheVariants.{Refused, NoMemory, Io, Sheet}

-- these are the lines of the plant that an accepted file means
abbrev pub Listed : Result Draft FloorFault → List ℕ → Type 0
Listed (Ok d) lines = lines ≡ plant_lines (meaning_of d.head d.lanes d.limits)
Listed (Err f) lines = ⊥

-- this is the line that tells the first fault of a refused file
abbrev pub Told : Result Draft FloorFault → List ℕ → Type 0
Told (Ok d) line = ⊥
Told (Err f) line = line ≡ refusal_line (codes "file") (told f)

-- the lines of an accepted file, or the line of a refused one, or neither, and that for want of memory alone
abbrev pub Answers : Result Draft FloorFault → Result (String Global) Failure → Type 0
Answers j (Ok lines) = Listed j (string_bytes lines)
Answers j (Err (Refused line)) = Told j (vec_items line)
Answers j (Err NoMemory) = Unit {0}
Answers j (Err (Io e)) = ⊥
Answers j (Err (Sheet e)) = ⊥
