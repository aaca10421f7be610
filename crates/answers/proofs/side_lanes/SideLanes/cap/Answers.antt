use Rattle.std.proofs.Common.{length, get_or, Some, sym, ap, ◌∙◌}
use Rattle.plantformat.specs.Records.{cap_by}
use Rattle.plantformat.specs.Rules.{limit_keeps}
use Rattle.limits.specs.Told.{told}
use Rattle.answers.specs.Answers.{limit_cap}
use Rattle.answers.proofs.SameCaps.{found_keeps, owned_cap}
use Rattle.answers.proofs.side_lanes.SideLanes.cap.Goals as goal

pub cap_of-requires-clause-keeps : goal.cap_of-requires-clause-keeps
cap_of-requires-clause-keeps c =
    let on = c.args.self.now in
    let long = ap length c.deref.ensures.0 ∙ c.own_caps.ensures.owns.long in
    ap (λ k. limit_keeps k (told c.in-Some.limit)) long ∙ found_keeps on.plant.now on.side (told c.in-Some.limit) (sym c.in-Some.ensures)

pub returns-in-Some : goal.returns-in-Some
returns-in-Some c =
    let on = c.args.self.now in
    let limit = Some (told c.in-Some.limit) in
    c.cap_of.ensures
    ∙ ap (λ xs. cap_by (length xs) (λ p. get_or xs p 0) limit c.args.set) c.deref.ensures.0
    ∙ owned_cap on.plant.now on.side c.own_caps.result.items c.own_caps.ensures.owns limit c.args.set
    ∙ ap (λ l. limit_cap on.plant.now on.side l c.args.set) c.in-Some.ensures

pub returns-in-None : goal.returns-in-None
returns-in-None c =
    let on = c.args.self.now in
    c.plain_cap.ensures ∙ ap (λ l. limit_cap on.plant.now on.side l c.args.set) c.in-None.ensures
