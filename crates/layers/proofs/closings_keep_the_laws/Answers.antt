use Rattle.layers.proofs.Lawful.{closings_lawful}
use Rattle.layers.proofs.closings_keep_the_laws.Goals as goal

pub returns : goal.returns
returns c = closings_lawful
