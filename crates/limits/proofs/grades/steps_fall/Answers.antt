use Rattle.std.proofs.Common.{leb, refl, rules, tests}
use Rattle.std.proofs.lemmas.Iterator.Consumers.{YieldsList-from_first}
use Rattle.plantformat.specs.Judge.{longs}
use Rattle.limits.proofs.FirstGrades.{sorted_is, falls_is}
use Rattle.limits.proofs.grades.steps_fall.Goals as goal

pub returns : goal.returns
returns c =
    falls_is (longs c.args.steps.now) _
    (sorted_is (λ before after. leb after before) _ c.is_sorted_by.ensures.runs (YieldsList-from_first (λ x. x) (λ s. longs s.0.now) _ refl)
    (λ x y r q k. search (rules, tests)))
