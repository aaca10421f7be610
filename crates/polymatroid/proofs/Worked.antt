-- The worked tables and grades, by evaluation.
use Rattle.std.proofs.Common.{refl}
use Rattle.polymatroid.specs.Sets.{has}
use Rattle.polymatroid.specs.Side.{load}
use Rattle.polymatroid.specs.Tables.{every, rises_at, bends_at, rises, bows, broken}
use Rattle.polymatroid.specs.Kinds.{firsts, size, graded}
use Rattle.polymatroid.specs.Worked.{WorkedTables}

pub worked_tables : WorkedTables
unfolding has load every rises_at bends_at rises bows broken firsts size graded
worked_tables = (refl, refl, refl, refl, refl, refl, refl, refl)
