use Rattle.std.proofs.Common.{ap, ◌∙◌, take, sum, arith}
use Rattle.std.proofs.lemmas.Iterator.{YieldsList-from_take}
use Rattle.std.proofs.lemmas.Iterator.Consumers.{YieldsList-from_first, sum_from_yields_List, fits_from_yields_list}
use Rattle.plantformat.specs.Judge.{longs}
use Rattle.plantformat.specs.Numbers.{top_lane}
use Rattle.polymatroid.proofs.Grades.{size_top}
use Rattle.limits.proofs.Checked.{at_most_at}
use Rattle.limits.proofs.FirstGrades.{graded_is, graded_low}
use Rattle.limits.proofs.grades.grades_cap.Goals as goal

pub sum-requires-clause-fits : goal.sum-requires-clause-fits
sum-requires-clause-fits c =
    let gs = longs c.args.steps.now in
    let first = YieldsList-from_first (λ x. x) (λ s. longs s.0.now) gs (ap (λ s. longs s.0.now) c.take.ensures.source) in
    let members = c.size.ensures c.args.width c.requires.on in
    let sum_is = ap (λ n. sum (take n gs)) members in
    fits_from_yields_list c.take.result _ (YieldsList-from_take c.size.result first c.take.ensures.count)
    (omega (arith, sum_is, graded_low gs c.args.width c.args.set (omega arith) top_lane (λ j l. at_most_at top_lane gs c.requires.low j (omega arith)), size_top c.args.width c.args.set))

pub returns : goal.returns
returns c =
    let gs = longs c.args.steps.now in
    let first = YieldsList-from_first (λ x. x) (λ s. longs s.0.now) gs (ap (λ s. longs s.0.now) c.take.ensures.source) in
    sum_from_yields_List c.take.result _ c.sum.ensures.ran (YieldsList-from_take c.size.result first c.take.ensures.count)
    ∙ ap (λ n. sum (take n gs)) (c.size.ensures c.args.width c.requires.on)
    ∙ graded_is gs c.args.width c.args.set (omega arith)
