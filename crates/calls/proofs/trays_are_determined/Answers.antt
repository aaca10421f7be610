use Rattle.calls.proofs.Determined.{trays_are_determined}
use Rattle.calls.proofs.trays_are_determined.Goals as goal

pub returns : goal.returns
returns c = trays_are_determined
