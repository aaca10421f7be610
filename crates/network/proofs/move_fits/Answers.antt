use Rattle.network.proofs.Moves.{move_fits}
use Rattle.network.proofs.move_fits.Goals as goal

pub returns : goal.returns
returns c = move_fits
