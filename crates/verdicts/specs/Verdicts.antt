-- The line that tells the verdict on a file.
use Rattle.std.specs.Prelude.{ℕ, List, Ok, Err, codes, Result}
use Rattle.plantformat.specs.declared.FloorFault.{FloorFault}
use Rattle.plantformat.specs.Faults.{told}
use Rattle.plantformat.specs.Judge.{Draft}
use Rattle.listing.specs.Lines.{refusal_line}

abbrev pub verdict_line : Result Draft FloorFault → List ℕ
verdict_line (Ok d) = codes "accepted\n"
verdict_line (Err f) = refusal_line (codes "file") (told f)
