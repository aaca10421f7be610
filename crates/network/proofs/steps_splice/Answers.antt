use Rattle.network.proofs.Splice.{steps_splice}
use Rattle.network.proofs.steps_splice.Goals as goal

pub returns : goal.returns
returns c = steps_splice
