use Rattle.std.proofs.Common.{◌≡◌}
use Rattle.labelling.specs.Sweep.{swept}
use Rattle.labels.specs.Labels.{marks_in}
use Rattle.labels.proofs.Labelling.scan_level.Given as goal

-- the lanes so far have been scanned
abbrev pub invariant-loop-lane : goal.invariant-loop-lane
invariant-loop-lane g l = record {
  swept : marks_in l.self.table.now ≡ swept (g.S.Scan.rule l.initial.self.scan.now) (g.S.Scan.size l.initial.self.scan.now) l.level l.lane (marks_in l.initial.self.table.now);
  scan : l.self.scan.now ≡ l.initial.self.scan.now;
  table : l.self.table.ghost_name ≡ l.initial.self.table.ghost_name;
}
