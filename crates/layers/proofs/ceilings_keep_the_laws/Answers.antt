use Rattle.layers.proofs.Lawful.{ceilings_lawful}
use Rattle.layers.proofs.ceilings_keep_the_laws.Goals as goal

pub returns : goal.returns
returns c = ceilings_lawful
