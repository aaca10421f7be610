use Rattle.std.proofs.Common.{length, arith}
use Rattle.std.proofs.lemmas.Nat.{pow_below}
use Rattle.rooms.proofs.LoadedSide.left_alone.Goals as goal

pub left-requires : goal.left-requires
left-requires c = omega (arith, c.only.ensures, pow_below c.args.position (length c.args.self.now.trays.items) (omega arith))
