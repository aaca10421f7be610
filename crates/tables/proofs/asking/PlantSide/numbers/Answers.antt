-- A turn writes the lane at one position more.
use Rattle.std.proofs.Common.{length-set, rules}
use Rattle.std.proofs.lemmas.List.{take_more_set}
use Rattle.std.proofs.lemmas.List.FromFn.{map-range_with_len_more}
use Rattle.tables.proofs.asking.PlantSide.numbers.Goals as goal

pub loop-position-preserved : goal.loop-position-preserved
loop-position-preserved g c = search (rules, length-set, take_more_set, map-range_with_len_more)
