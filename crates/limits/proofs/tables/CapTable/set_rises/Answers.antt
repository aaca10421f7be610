use Rattle.std.proofs.Common.{refl, rules, tests}
use Rattle.std.proofs.lemmas.Iterator.{serves_from_Range}
use Rattle.polymatroid.specs.Tables.{rises_at}
use Rattle.polymatroid.proofs.Build.{plus_below}
use Rattle.limits.specs.Checks.{table_cap}
use Rattle.limits.proofs.Ranges.{every_by}
use Rattle.limits.proofs.tables.CapTable.set_rises.Goals as goal

pub all-requires-clause-callable : goal.all-requires-clause-callable
all-requires-clause-callable c =
    serves_from_Range (λ x q k. search rules) (λ x l h. let on = plus_below c.args.self.width c.args.set x c.requires h in search rules)

pub returns : goal.returns
unfolding rises_at
returns c = every_by c.args.self.width (rises_at (table_cap c.args.self.caps.now) c.args.set) _ _ _ _ c.all.ensures.ran refl refl (λ x b q k. search (rules, tests))
