use Rattle.std.proofs.Common.{length, arith}
use Rattle.std.proofs.lemmas.Nat.{pow_pos}
use Rattle.std.proofs.lemmas.List.{get_or-set_same, length-set}
use Rattle.rooms.specs.Rooms.{at}
use Rattle.rooms.proofs.Doubling.{loaded_none, loaded_more, sets_on}
use Rattle.rooms.proofs.fill_sums.Goals as goal

pub loop-position-init : goal.loop-position-init
loop-position-init c =
    loaded_none (at c.args.trays.now) _ (get_or-set_same c.args.sums.now 0 0 0 (omega (arith, pow_pos (length c.args.trays.now))))

pub add_position-requires-clause-whole : goal.add_position-requires-clause-whole
add_position-requires-clause-whole c =
    omega (arith, length-set c.args.sums.now 0 0, sets_on c.loop-position.position (length c.args.trays.now) c.loop-position-test.true)

pub loop-position-preserved : goal.loop-position-preserved
loop-position-preserved c =
    loaded_more (at c.args.trays.now) c.loop-position.sums c.add_position.new.sums c.loop-position.position c.only.result
    c.only.ensures (omega (arith, c.type_inv.trays c.loop-position.position)) c.loop-position.invariant
    (c.add_position.ensures.below, c.add_position.ensures.above)
