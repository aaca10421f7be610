-- The labelling by rooms is the labelling of a step.
use Rattle.std.proofs.Common.{sym, ap, ◌∙◌}
use Rattle.labelling.specs.Table.{label}
use Rattle.calls.proofs.Loads.{passed_is_plan}
use Rattle.measures.specs.ByRooms.{ruled_by_rooms}
use Rattle.measures.proofs.ByRooms.{rooms_label}
use Rattle.scans.specs.Standing.{meaning_of, trays_of}
use Rattle.searches.proofs.label_lanes.Goals as goal

pub returns-clause-outcome : goal.returns-clause-outcome
returns-clause-outcome c =
    let s = c.args.standing.now in
    let M = meaning_of s in
    let f = trays_of s in
    sym (rooms_label M f c.requires.lawful (passed_is_plan M f c.requires.plan).within)
    ∙ ap (label (ruled_by_rooms M f)) (sym s.floor.tables.now.lanes.ok.0) ∙ c.label.ensures.outcome
