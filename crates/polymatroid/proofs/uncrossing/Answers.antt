use Rattle.polymatroid.proofs.Side.{uncross_and, uncross_or}
use Rattle.polymatroid.proofs.uncrossing.Goals as goal

pub returns : goal.returns
returns c k cap w caps fits X Y l t = (uncross_and k cap caps w fits X Y l t, uncross_or k cap caps w fits X Y l t)
