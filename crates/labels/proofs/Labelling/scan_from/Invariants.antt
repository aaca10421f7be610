use Rattle.std.proofs.Common.{vec_items}
use Rattle.labelling.specs.Table.{give}
use Rattle.labels.specs.Labels.{from_state}
use Rattle.labels.proofs.Parts.{Part}
use Rattle.labels.proofs.Labelling.scan_from.Given as goal

-- the lanes so far have been offered a label
abbrev pub invariant-loop-lane : goal.invariant-loop-lane
invariant-loop-lane g l =
    Part (give (g.S.Scan.rule l.scan) (from_state l.from) l.level) (vec_items l.fn.self.table.now.labels) l.label-items l.lane
