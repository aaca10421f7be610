use Rattle.std.proofs.Common.{refl, ◌∙◌, rules, tests}
use Rattle.polymatroid.specs.Tables.{every, bends_at}
use Rattle.polymatroid.specs.More.{pairs}
use Rattle.polymatroid.proofs.More.{pairs_suffice}
use Rattle.limits.specs.Checks.{table_cap}
use Rattle.limits.proofs.Ranges.{every_by}
use Rattle.limits.proofs.tables.CapTable.bends.Goals as goal

pub returns : goal.returns
unfolding pairs
returns c =
    let cap = table_cap c.args.self.caps.now in
    every_by _ (λ X. every c.args.self.width (λ q. every q (λ p. bends_at cap X p q))) _ _ _ _ c.all.ensures.ran refl c.sets.ensures
    (λ x b q k. search (rules, tests))
    ∙ pairs_suffice c.args.self.width cap
