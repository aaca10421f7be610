-- What the labelling leaves follows from how it came out.
use Rattle.std.proofs.Common.{rules}
use Rattle.labels.proofs.Depths.{label_falls, label_ended_at}
use Rattle.labels.proofs.LabelTable.label.Goals as goal

pub returns-clause-falls : goal.returns-clause-falls
returns-clause-falls g c = label_falls (g.S.Scan.rule c.args.scan.now) (g.S.Scan.size c.args.scan.now) c.run.result _ (search rules)

pub returns-clause-last : goal.returns-clause-last
returns-clause-last g c = label_ended_at (g.S.Scan.rule c.args.scan.now) (g.S.Scan.size c.args.scan.now) c.run.result _ (search rules)
