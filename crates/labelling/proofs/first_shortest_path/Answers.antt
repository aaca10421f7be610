use Rattle.labelling.proofs.FirstPath.{first_shortest_path}
use Rattle.labelling.proofs.first_shortest_path.Goals as goal

pub returns : goal.returns
returns c = first_shortest_path
