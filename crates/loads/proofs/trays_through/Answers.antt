use Rattle.std.proofs.Common.{ℕ, ◌==◌, zip, filter, sum_by, ap, ◌∙◌}
use Rattle.tables.specs.Parts.{end_in}
use Rattle.tables.specs.declared.tables.TableLane.{TableLane}
use Rattle.loads.proofs.Through.{through_round}
use Rattle.loads.proofs.trays_through.Goals as goal

pub returns : goal.returns
returns c =
    let floor = c.args.floor.now in
    let d = c.args.entering in
    let i = c.args.station in
    c.trays_of_lanes.ensures
    ∙ ap (λ xs. sum_by (λ q. q.1) (filter (λ (q : TableLane × ℕ). (end_in d q.0).station == i) (zip xs floor.trays.now))) c.as_slice.ensures.value
    ∙ through_round floor.tables.now floor.trays.now d i floor.all_trays
