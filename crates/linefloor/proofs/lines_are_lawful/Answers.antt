use Rattle.linefloor.proofs.Lawful.{lines_are_lawful}
use Rattle.linefloor.proofs.lines_are_lawful.Goals as goal

pub returns : goal.returns
returns c = lines_are_lawful
