-- A lane of the level is found among the labels.
use Rattle.std.proofs.Common.{◌≡◌, true, false, vec_items, vec_len, rules, tests, arith}
use Rattle.std.proofs.lemmas.Iterator.{cases_from_any, YieldsList-from_slice}
use Rattle.labelling.specs.Table.{is_at}
use Rattle.labels.specs.Labels.{mark_of}
use Rattle.labels.proofs.Searches.{any_of_level}
use Rattle.labels.proofs.LabelTable.has_level.Goals as goal

pub returns : goal.returns
returns c =
    let l = c.args.level in
    let t = c.args.self.now.labels in
    any_of_level l (vec_len t) (vec_items t) c.any.result (omega arith)
    (cases_from_any _ _ _ (λ o. is_at l (mark_of o) ≡ true) (λ o. is_at l (mark_of o) ≡ false) c.any.ensures.ran (YieldsList-from_slice (vec_items t) cc) (λ x q k. search (rules, tests)) (λ x q k. search (rules, tests)))
