use Rattle.plantformat.proofs.Lawful.{accepted_plants_are_lawful}
use Rattle.plantformat.proofs.accepted_plants_are_lawful.Goals as goal

pub returns : goal.returns
returns c = accepted_plants_are_lawful
