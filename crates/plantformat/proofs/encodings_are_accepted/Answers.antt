use Rattle.plantformat.proofs.Accepted.{encodings_are_accepted}
use Rattle.plantformat.proofs.encodings_are_accepted.Goals as goal

pub returns : goal.returns
returns c = encodings_are_accepted
