use Rattle.plantformat.proofs.Accepted.{accepted_files_encode}
use Rattle.plantformat.proofs.accepted_files_encode.Goals as goal

pub returns : goal.returns
returns c = accepted_files_encode
