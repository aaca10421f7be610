-- The first level is that of the labelling.
use Rattle.std.proofs.Common.{◌+◌, ◌-◌, false, List, None, Option, replicate, ap, ◌∙◌, arith}
use Rattle.network.specs.States.{Pole}
use Rattle.labelling.specs.Table.{mark, give, listed}
use Rattle.labels.specs.declared.Label.{Label}
use Rattle.labels.specs.Labels.{marks}
use Rattle.labels.proofs.Levels.{label_start}
use Rattle.labels.proofs.Labelling.run.Goals as goal

pub loop-level-init : goal.loop-level-init
loop-level-init g c =
    let r = g.S.Scan.rule c.args.self.now.scan.now in
    let m = g.S.Scan.size c.args.self.now.scan.now in
    record {
      goes_on = label_start r m (m + 2 - 1) _ (omega arith)
          (c.scan_from.ensures.marks ∙ ap (λ (t : List (Option Label)). listed (λ y. give r (Pole false) 1 y (mark (marks t) y)) m 0) (c.clear.ensures.items ∙ ap (λ n. replicate n None) c.args.self.now.all));
      scan = c.scan_from.ensures.scan;
      table = c.scan_from.ensures.table;
    }
