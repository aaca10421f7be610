-- What is added part by part is the whole.
use Rattle.std.proofs.Common.{append_assoc}
use Rattle.listing.specs.Lines.{floor_line}
use Rattle.listing.proofs.add_floor.Goals as goal

pub returns : goal.returns
unfolding floor_line
returns g c = simp append_assoc (rw (← c.stations.ensures, ← c.lanes.ensures, ← c.stock.ensures, ← c.despatch.ensures) c.writeln.ensures.bytes)
