use Rattle.labelling.proofs.Rules.{rules_give}
use Rattle.labelling.proofs.rules_give_residual_pairs.Goals as goal

pub returns : goal.returns
returns c = rules_give
