use Rattle.std.proofs.Common.{refl, rules, tests}
use Rattle.polymatroid.specs.Tables.{every, bends_at}
use Rattle.limits.specs.Checks.{table_cap}
use Rattle.limits.proofs.Ranges.{every_by}
use Rattle.limits.proofs.tables.CapTable.set_bends.Goals as goal

pub returns : goal.returns
returns c =
    let bends = bends_at (table_cap c.args.self.caps.now) c.args.set in
    every_by c.args.self.width (λ q. every q (λ p. bends p q)) _ _ _ _ c.all.ensures.ran refl refl (λ x b q k. search (rules, tests))
