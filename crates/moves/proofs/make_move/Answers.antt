use Rattle.moves.proofs.Shifting.{moving_more}
use Rattle.moves.proofs.make_move.Goals as goal

pub loop-step-preserved : goal.loop-step-preserved
loop-step-preserved c = search moving_more
