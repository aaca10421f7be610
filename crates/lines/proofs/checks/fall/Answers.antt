use Rattle.std.proofs.Common.{rules, leb}
use Rattle.std.proofs.lemmas.Fn.{always_returns_same}
use Rattle.lines.proofs.Grades.{falls_by}
use Rattle.lines.proofs.checks.fall.Goals as goal

pub returns : goal.returns
returns c =
    falls_by c.args.grades.now c.is_sorted_by.result
    (c.is_sorted_by.ensures.cases (λ x y. leb y x) (always_returns_same _ _ _ (λ a r f k. search rules)))
