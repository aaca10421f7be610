use Rattle.std.proofs.Common.{ltb, ◌+◌, ◌*◌, refl, rules, tests}
use Rattle.plantformat.specs.Bytes.{word}
use Rattle.plantformat.specs.Rules.{all_below}
use Rattle.limits.proofs.Ranges.{listed_by}
use Rattle.limits.proofs.groups.Groups.members_grouped.Goals as goal

pub returns : goal.returns
unfolding all_below
returns c =
    let count = c.args.self.count in
    listed_by c.args.self.width (λ x. ltb x count) (λ p. word c.args.self.numbers.now (6 * count + 2 * p)) _ _ _ _ c.all.ensures.ran refl refl
    (λ x b q k. search (rules, tests))
