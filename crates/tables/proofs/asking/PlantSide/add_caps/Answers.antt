-- A turn adds the cap of one set more.
use Rattle.std.proofs.Common.{append_assoc, rules}
use Rattle.std.proofs.lemmas.List.FromFn.{map-range_with_len_more}
use Rattle.tables.proofs.asking.PlantSide.add_caps.Goals as goal

pub loop-set-preserved : goal.loop-set-preserved
loop-set-preserved g c = search (rules, append_assoc, map-range_with_len_more)
