use Rattle.std.proofs.Common.{leb, ◌+◌, ◌*◌, refl, rules, tests}
use Rattle.floor.specs.Numbers.{top_cap}
use Rattle.plantformat.specs.Bytes.{long}
use Rattle.plantformat.specs.Rules.{all_at_most}
use Rattle.limits.proofs.Ranges.{listed_by}
use Rattle.limits.proofs.groups.Groups.bounds_low.Goals as goal

pub returns : goal.returns
unfolding all_at_most
returns c =
    listed_by c.args.self.count (λ x. leb x top_cap) (λ j. long c.args.self.numbers.now (6 * j + 2)) _ _ _ _ c.all.ensures.ran refl refl
    (λ x b q k. search (rules, tests))
