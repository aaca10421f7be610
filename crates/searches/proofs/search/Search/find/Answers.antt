-- The parts of a search find the move of a step, or that there is none.
use Rattle.std.proofs.Common.{◌<◌, map, length, vec_items, vec_len, sym, ap, ◌∙◌, arith}
use mathlib.Core.Path.{subst⁻¹}
use mathlib.Core.Option.{some}
use Rattle.std.proofs.lemmas.List.{length-map, with_items_is}
use Rattle.floor.specs.Floor.{entering}
use Rattle.rooms.specs.Rooms.{at}
use Rattle.calls.proofs.Loads.{passed_is_plan}
use Rattle.tables.specs.Tables.{meaning_in}
use Rattle.labels.specs.Labels.{marks_in, signed_state, came_out}
use Rattle.moves.specs.Amount.{amount_by_rooms}
use Rattle.moves.specs.Paths.{Among}
use Rattle.cuts.specs.Cut.{EnteringRooms}
use Rattle.searches.proofs.Finding.{none_found, path_read}
use Rattle.searches.proofs.search.Search.find.Goals as goal

pub returns-in_err-last-clause-found : goal.returns-in_err-last-clause-found
returns-in_err-last-clause-found c =
    let t = c.args.floor.now.tables.now in
    let M = meaning_in t in
    let f = at c.args.floor.now.trays.now in
    let marks = marks_in c.label_lanes.new.labels in
    let found =
    none_found M c.requires.lawful f (passed_is_plan M f c.requires.plan) marks
    (c.label_lanes.ensures.outcome ∙ ap (λ r. came_out r marks) c.in_err-last.was) in
    let rooms = with_items_is c.args.self.now.rooms c.measure.new.rooms (omega (arith, c.measure.ensures.all, c.requires.lanes, c.args.self.now.rooms.ok.0)) in
    rw c.from_residual.ensures (
      found.0,
      record {
        labelled = found.1;
        measured = subst⁻¹ (EnteringRooms M f) rooms (λ e l. c.measure.ensures.each entering e (omega (arith, l, t.lanes.ok.0)));
      },
    )

pub amount_of-requires : goal.amount_of-requires
amount_of-requires c =
    let t = c.args.floor.now.tables.now in
    let M = meaning_in t in
    let f = at c.args.floor.now.trays.now in
    let lanes = vec_items c.read_back.new.path in
    let read =
    path_read M c.requires.lawful f (passed_is_plan M f c.requires.plan) (vec_len t.lanes) t.lanes.ok.0 c.label_lanes.result c.in_ok-last.field-0-0
    c.in_ok-last.last (marks_in c.label_lanes.new.labels) (map signed_state lanes) c.label_lanes.ensures.outcome c.in_ok-last.was c.in_ok-last.ensures.last
    c.read_back.ensures.states in
    record {
      among = subst⁻¹ (λ p. Among (vec_len t.lanes) (map signed_state p)) c.as_slice-2.ensures.value (λ i l. omega (arith, read.among i l, t.lanes.ok.0));
      some = subst⁻¹ (λ p. 0 < length p) c.as_slice-2.ensures.value (omega (arith, read.some_lane, length-map lanes signed_state));
    }

pub returns-clause-found : goal.returns-clause-found
returns-clause-found c =
    let t = c.args.floor.now.tables.now in
    let M = meaning_in t in
    let f = at c.args.floor.now.trays.now in
    let lanes = vec_items c.read_back.new.path in
    let read =
    path_read M c.requires.lawful f (passed_is_plan M f c.requires.plan) (vec_len t.lanes) t.lanes.ok.0 c.label_lanes.result c.in_ok-last.field-0-0
    c.in_ok-last.last (marks_in c.label_lanes.new.labels) (map signed_state lanes) c.label_lanes.ensures.outcome c.in_ok-last.was c.in_ok-last.ensures.last
    c.read_back.ensures.states in
    let amount = c.amount_of.ensures ∙ ap (λ p. amount_by_rooms M f (map signed_state p)) c.as_slice-2.ensures.value in (
      read.moves ∙ ap (λ n. some (record { lanes = map signed_state lanes; amount = n })) (sym amount),
      omega (arith, read.short, length-map lanes signed_state),
    )
