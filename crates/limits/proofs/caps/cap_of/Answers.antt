use Rattle.std.proofs.Common.{ℕ, length, get_or, Some, sym, ap, ◌∙◌, arith}
use Rattle.polymatroid.specs.Kinds.{grouped}
use Rattle.plantformat.specs.Records.{grouping, cap_by}
use Rattle.plantformat.specs.Rules.{limit_keeps}
use Rattle.plantformat.specs.Judge.{parents_at, bounds_at, members_at}
use Rattle.limits.specs.Told.{told}
use Rattle.limits.proofs.Checked.{length_longs}
use Rattle.limits.proofs.KeptLimits.{table_kept, groups_held, all_grouped, grades_kept, none_is_0}
use Rattle.limits.proofs.caps.cap_of.Goals as goal

pub returns-then-set-eq0 : goal.returns-then-set-eq0
returns-then-set-eq0 c =
    let k = length c.args.own.now in
    let own : ℕ → ℕ = λ p. get_or c.args.own.now p 0 in
    sym (ap (cap_by k own (Some (told c.args.limit))) c.if-set-eq0.true ∙ none_is_0 k own c.args.limit c.requires.keeps)

pub nth_long-requires : goal.nth_long-requires
nth_long-requires c =
    let k = length c.args.own.now in
    let b = c.in-Table.caps.now in
    let keeps = ap (λ l. limit_keeps k (told l)) (sym c.in-Table.is) ∙ c.requires.keeps in
    omega (arith, (table_kept k c.in-Table.side b keeps).0, length_longs b)

pub invariant_of-cap : goal.invariant_of-cap
invariant_of-cap c = record {
  whole = (groups_held _ c.args.set c.args.limit c.in-Groups.is c.requires.keeps c.requires.on c.if-set-eq0.false c.requires.narrow).whole;
}

pub cap-requires-clause-groups : goal.cap-requires-clause-groups
cap-requires-clause-groups c = groups_held _ c.args.set c.args.limit c.in-Groups.is c.requires.keeps c.requires.on c.if-set-eq0.false c.requires.narrow

pub grades_cap-requires-clause-whole : goal.grades_cap-requires-clause-whole
grades_cap-requires-clause-whole c =
    let k = length c.args.own.now in
    let keeps = ap (λ l. limit_keeps k (told l)) (sym c.in-Grades.is) ∙ c.requires.keeps in
    (grades_kept k c.in-Grades.side c.in-Grades.steps.now keeps).0

pub grades_cap-requires-clause-low : goal.grades_cap-requires-clause-low
grades_cap-requires-clause-low c =
    let k = length c.args.own.now in
    let keeps = ap (λ l. limit_keeps k (told l)) (sym c.in-Grades.is) ∙ c.requires.keeps in
    (grades_kept k c.in-Grades.side c.in-Grades.steps.now keeps).1

pub returns-in-Groups : goal.returns-in-Groups
returns-in-Groups c =
    let k = length c.args.own.now in
    let own : ℕ → ℕ = λ p. get_or c.args.own.now p 0 in
    let g = c.in-Groups.count in
    let b = c.in-Groups.numbers.now in
    let keeps = ap (λ l. limit_keeps k (told l)) (sym c.in-Groups.is) ∙ c.requires.keeps in
    let all = all_grouped k c.in-Groups.side g b keeps in
    let whole = ap (λ n. grouped (grouping (parents_at g b) (bounds_at g b) (members_at n g b) own) k c.args.set) all in
    let cap = ap (λ l. cap_by k own (Some (told l)) c.args.set) c.in-Groups.is in
    cc
