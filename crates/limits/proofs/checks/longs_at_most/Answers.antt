use Rattle.std.proofs.Common.{leb, refl, sym, ◌∙◌, rules, tests}
use Rattle.std.proofs.lemmas.Iterator.Consumers.{YieldsList-from_first}
use Rattle.std.proofs.lemmas.Iterator.Search.{all_from_yields_List}
use Rattle.plantformat.specs.Rules.{all_at_most}
use Rattle.plantformat.specs.Judge.{longs}
use Rattle.limits.proofs.Ranges.{all_of_all}
use Rattle.limits.proofs.checks.longs_at_most.Goals as goal

pub returns : goal.returns
unfolding all_at_most
returns c =
    all_from_yields_List (λ x. leb x c.args.top) c.all.new.self _ _ c.all.ensures.ran (YieldsList-from_first (λ x. x) (λ s. longs s.0.now) _ refl)
    (λ x b q k. search (rules, tests))
    ∙ sym (all_of_all (λ x. leb x c.args.top) (longs c.args.bytes.now))
