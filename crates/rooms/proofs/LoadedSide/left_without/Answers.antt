use Rattle.std.proofs.Common.{length, arith}
use Rattle.rooms.specs.Rooms.{at}
use Rattle.rooms.proofs.Rounds.{load_zeroed}
use Rattle.rooms.proofs.LoadedSide.left_without.Goals as goal

pub returns : goal.returns
returns c =
    let side = c.args.self.now in
    omega (
      arith,
      c.left_of.ensures,
      c.sum_without.ensures,
      side.summed.each c.args.set c.requires,
      load_zeroed (at side.trays.items) c.args.other (length side.trays.items) c.args.set,
    )
