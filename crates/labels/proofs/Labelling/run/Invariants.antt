use Rattle.std.proofs.Common.{◌≡◌, ◌+◌, ◌-◌}
use Rattle.labelling.specs.Table.{label_from, label}
use Rattle.labels.specs.Labels.{marks_in}
use Rattle.labels.proofs.Labelling.run.Given as goal

-- the labelling goes on from here
abbrev pub invariant-loop-level : goal.invariant-loop-level
invariant-loop-level g l = record {
  goes_on : label (g.S.Scan.rule l.fn.self.scan.now) (g.S.Scan.size l.fn.self.scan.now) ≡ label_from (g.S.Scan.rule l.fn.self.scan.now) (g.S.Scan.size l.fn.self.scan.now) (g.S.Scan.size l.fn.self.scan.now + 2 - l.level) l.level (marks_in l.self.table.now);
  scan : l.self.scan.now ≡ l.fn.self.scan.now;
  table : l.self.table.ghost_name ≡ l.fn.self.table.ghost_name;
}
