use Rattle.labelling.proofs.Residual.{augmenting_is_residual}
use Rattle.labelling.proofs.augmenting_is_residual.Goals as goal

pub returns : goal.returns
returns c = augmenting_is_residual
