use Rattle.std.proofs.Common.{length, min, map, filter, fold, ap, ◌∙◌, arith}
use Rattle.std.proofs.lemmas.Nat.{pow_below}
use Rattle.std.specs.List.{range_with_len}
use Rattle.polymatroid.specs.Sets.{has}
use Rattle.polymatroid.specs.Side.{left}
use Rattle.polymatroid.specs.Room.{zeroed}
use Rattle.rooms.specs.Rooms.{at}
use Rattle.rooms.proofs.Rounds.{room_round}
use Rattle.rooms.proofs.LoadedSide.room_without.Goals as goal

pub left_without-alone-requires : goal.left_without-alone-requires
left_without-alone-requires c = omega (arith, c.only.ensures, pow_below c.args.position (length c.args.self.now.trays.items) c.requires)

pub returns : goal.returns
returns c =
    let side = c.args.self.now in
    let k = length side.trays.items in
    let w = zeroed (at side.trays.items) c.args.other in
    c.least_left.ensures
    ∙ ap (λ d. fold min d (map (left k (at side.caps.now) w) (filter (λ X. has X c.args.position) (range_with_len 0 (length side.caps.now)))))
    (c.left_without-alone.ensures ∙ ap (left k (at side.caps.now) w) c.only.ensures)
    ∙ room_round k (at side.caps.now) w c.args.position (length side.caps.now) side.capped
