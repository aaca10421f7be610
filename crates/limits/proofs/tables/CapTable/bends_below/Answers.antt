use Rattle.std.proofs.Common.{refl, rules, tests}
use Rattle.polymatroid.specs.Tables.{bends_at}
use Rattle.limits.specs.Checks.{table_cap}
use Rattle.limits.proofs.Ranges.{every_by}
use Rattle.limits.proofs.tables.CapTable.bends_below.Goals as goal

pub returns : goal.returns
returns c =
    every_by c.args.q (λ p. bends_at (table_cap c.args.self.caps.now) c.args.set p c.args.q) _ _ _ _ c.all.ensures.ran refl refl
    (λ x b q k. search (rules, tests))
