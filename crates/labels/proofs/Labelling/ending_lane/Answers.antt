-- The search stops at the first lane that ends a path.
use Rattle.std.proofs.Common.{◌≡◌, ℕ, true, false, ◌&&◌, ap, ◌∙◌, rules, tests}
use Rattle.std.proofs.lemmas.Iterator.{first_from_Range}
use Rattle.polymatroid.specs.Finite.{first}
use Rattle.network.specs.States.{Pole}
use Rattle.labelling.specs.Table.{mark, is_at, state_of, ending_lane}
use Rattle.labels.specs.Labels.{marks_in, found}
use Rattle.labels.proofs.Searches.{found_first}
use Rattle.labels.proofs.Labelling.ending_lane.Goals as goal

pub returns : goal.returns
unfolding ending_lane
returns g c =
    let s = c.args.self.now in
    let ends = λ (e : ℕ). is_at c.args.level (mark (marks_in s.table.now) e) && g.S.Scan.rule s.scan.now (state_of e (mark (marks_in s.table.now) e)) (Pole true) in
    found_first ends c.lanes.result c.find.result
    (first_from_Range _ _ _ _ (λ e. ends e ≡ true) (λ e. ends e ≡ false) c.find.ensures.ran (λ x q k. search (rules, tests)) (λ x q k. search (rules, tests)))
    ∙ ap (λ n. found n (first ends n)) c.lanes.ensures
