-- What tables mean.
use Rattle.std.specs.Prelude.{vec_items}
use Rattle.floor.specs.Meaning.{Meaning}
use Rattle.tables.specs.Parts.{table_meaning}
use Rattle.tables.specs.declared.tables.Tables.{Tables}

-- the floor and the caps of the tables
abbrev pub meaning_in : Tables → Meaning
meaning_in t = table_meaning t.stations t.stock t.despatch (vec_items t.lanes) (vec_items t.sides) (vec_items t.caps)
