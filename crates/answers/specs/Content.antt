-- What a file plant holds, as the definitions of the format see it.
use Rattle.std.specs.Prelude.{map, vec_items}
use Rattle.floor.specs.Meaning.{Meaning}
use Rattle.plantformat.specs.Records.{meaning_of}
use Rattle.plantformat.specs.Judge.{Draft, draft}
use Rattle.limits.specs.Told.{told}
use Rattle.answers.specs.declared.file_plant.FilePlant.{FilePlant}

-- the head, the lanes and the limits that were read
abbrev pub content : FilePlant → Draft
content p = draft p.head (vec_items p.lanes) (map told (vec_items p.limits))

-- the floor and the caps that these define
abbrev pub file_meaning : FilePlant → Meaning
file_meaning p = meaning_of p.head (vec_items p.lanes) (map told (vec_items p.limits))
