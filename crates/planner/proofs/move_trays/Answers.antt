-- The trays that are moved are those that the vector then holds.
use Rattle.std.proofs.Common.{◌≡◌, map, length, get_or, drop, refl, ap, ◌∙◌, arith}
use Rattle.labelling.specs.Steps.{shifted}
use Rattle.labels.specs.Labels.{signed_state}
use Rattle.calls.specs.Events.{at}
use Rattle.searches.proofs.Refills.{refilled_is}
use Rattle.planner.proofs.move_trays.Goals as goal

pub returns : goal.returns
returns c =
    let ys = c.make_move.new.trays in
    let trays = c.args.trays.now in
    let len : length ys ≡ trays.len = omega (arith, c.make_move.ensures.all, c.as_mut_slice.ensures.len) in
    record {
      len = refl;
      each = λ e.
          ap (λ zs. get_or zs e 0) (refilled_is trays.len ys (drop (length ys) trays.items) len) ∙ c.make_move.ensures.each e
          ∙ ap (λ zs. shifted c.args.amount (map signed_state c.args.path.now) (at zs) e) c.as_mut_slice.ensures.value;
    }
