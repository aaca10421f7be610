-- The bytes of the stations come first, and those of the lanes follow from them.
use Rattle.std.proofs.Common.{arith}
use mathlib.Core.Path.{subst⁻¹}
use Rattle.tables.specs.Tables.{meaning_in}
use Rattle.labels.specs.Labels.{marks_in}
use Rattle.cuts.specs.Cut.{EnteringRooms}
use Rattle.searches.proofs.Shown.{cut_shown}
use Rattle.searches.proofs.search.Search.show_cut.Goals as goal

pub returns-clause-shown : goal.returns-clause-shown
returns-clause-shown c f ready =
    let t = c.args.tables.now in
    let M = meaning_in t in
    cut_shown M c.requires.lawful f (marks_in c.args.self.now.labels) c.fill_sides.new.lanes c.fill_near.new.stations ready.labelled
    (omega (arith, c.fill_sides.ensures.all, c.requires.lanes, t.lanes.ok.0)) (omega (arith, c.fill_near.ensures.all, c.requires.stations))
    (c.fill_near.ensures.each f (subst⁻¹ (EnteringRooms M f) c.as_slice.ensures.value ready.measured))
    (λ e l. c.fill_sides.ensures.each e (omega (arith, l, t.lanes.ok.0)))
