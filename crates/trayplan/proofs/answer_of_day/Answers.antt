-- The pile that is planned on is the plant as the sheet leaves it.
use Rattle.std.proofs.Common.{ap, vec_items, ◌∙◌, ap₂}
use Rattle.piles.specs.declared.cover.Covered.{Covered}
use Rattle.piles.specs.declared.closing.Closings.{Closings}
use Rattle.sheets.specs.Sheet.{settings}
use Rattle.trayplan.proofs.Days.{day_planned}
use Rattle.trayplan.proofs.answer_of_day.Goals as goal

pub returns-in_ok-plan_lines-in-Ok : goal.returns-in_ok-plan_lines-in-Ok
returns-in_ok-plan_lines-in-Ok g c =
    let M = g.P.Plant.meaning in
    let new = c.new-pile.result in
    let pile = c.apply_sheet.new.pile in
    let below = c.new-pile.ensures.below in
    let here = ap (λ (b : Covered g.row.P.Denot Closings). b.below) below ∙ c.new.ensures.below in
    let none =
    ap₂ settings (ap (λ (b : Covered g.row.P.Denot Closings). b.cover.closed) below ∙ c.new.ensures.closed) c.new-pile.ensures.ceilings in
    day_planned M c.args.plant new.below.below pile.below.below c.args.sheet.now (settings new.below.cover.closed new.cover.ceilings)
    (settings pile.below.cover.closed pile.cover.ceilings) (vec_items c.in_ok-plan_lines-in-Ok.field-0) here c.in-Ok.ensures.plant none
    c.in-Ok.ensures.applied c.in_ok-plan_lines-in-Ok.ensures
