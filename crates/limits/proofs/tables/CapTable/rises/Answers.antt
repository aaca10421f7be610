use Rattle.std.proofs.Common.{refl, rules, tests}
use Rattle.polymatroid.specs.Tables.{every, rises_at, rises}
use Rattle.limits.specs.Checks.{table_cap}
use Rattle.limits.proofs.Ranges.{every_by}
use Rattle.limits.proofs.tables.CapTable.rises.Goals as goal

pub returns : goal.returns
unfolding rises
returns c = every_by _ (λ X. every c.args.self.width (rises_at (table_cap c.args.self.caps.now) X)) _ _ _ _ c.all.ensures.ran refl c.sets.ensures (λ x b q k. search (rules, tests))
