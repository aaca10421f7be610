-- A station other than the stock is near where a lane makes it near.
use Rattle.std.proofs.Common.{◌≡◌, true, false, ◌||◌, ltb, refl, sym, ap, ◌∙◌, rules, tests, arith}
use Rattle.std.proofs.lemmas.Bool.{ne_eqb}
use Rattle.std.proofs.lemmas.Iterator.{cases_from_any, YieldsList-from_range}
use Rattle.polymatroid.specs.Finite.{first}
use Rattle.tables.specs.Tables.{meaning_in}
use Rattle.labels.specs.Labels.{marks_in}
use Rattle.cuts.specs.Cut.{nears_by_rooms, near_by_rooms}
use Rattle.cuts.proofs.Nearing.{any_below}
use Rattle.cuts.proofs.measured.MeasuredFloor.is_near.Goals as goal

pub returns-else-tables-station : goal.returns-else-tables-station
unfolding near_by_rooms
returns-else-tables-station c =
    let s = c.args.self.now in
    let M = meaning_in s.floor.tables.now in
    let nears = nears_by_rooms M s.rooms.now (marks_in s.floor.labels.now) c.args.station in
    any_below nears M.floor.lanes c.any.result
    (cases_from_any _ _ _ (λ e. nears e ≡ true) (λ e. nears e ≡ false) c.any.ensures.ran
    (YieldsList-from_range 0 c.len.result M.floor.lanes refl (omega (arith, c.len.ensures, s.floor.tables.now.lanes.ok.0)))
    (λ x q k. search (rules, tests)) (λ x q k. search (rules, tests)))
    ∙ sym (ap (λ b. b || ltb (first nears M.floor.lanes) M.floor.lanes) (ne_eqb _ _ c.if-tables-station.false))
