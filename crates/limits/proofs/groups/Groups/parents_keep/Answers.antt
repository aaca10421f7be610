use Rattle.std.proofs.Common.{◌*◌, ◌-◌, eqb, ltb, refl, ap, ◌∙◌, arith, rules, tests}
use Rattle.plantformat.specs.Bytes.{word}
use Rattle.limits.proofs.Checked.{root_keeps, root_fails}
use Rattle.limits.proofs.Ranges.{range_by}
use Rattle.limits.proofs.groups.Groups.parents_keep.Goals as goal

pub returns-then-parent-eq0 : goal.returns-then-parent-eq0
returns-then-parent-eq0 c =
    let count = c.args.self.count in
    let b = c.args.self.numbers.now in
    range_by 1 count (count - 1) (λ j. ltb (word b (6 * j)) j) _ _ _ _ c.all.ensures.ran refl refl refl (λ x y q k. search (rules, tests))
    ∙ root_keeps b count (count - 1) (omega arith) (omega arith)

pub returns-else-parent-eq0 : goal.returns-else-parent-eq0
returns-else-parent-eq0 c =
    let count = c.args.self.count in
    ap (λ n. eqb n 0) c.parent.ensures
    ∙ root_fails c.args.self.numbers.now count (count - 1) (omega arith) (λ e. c.if-parent-eq0.false (c.parent.ensures ∙ e))
