use Rattle.polymatroid.proofs.Codes.{has_or, has_and, has_code, same_sets}
use Rattle.polymatroid.proofs.codes_are_sets.Goals as goal

pub returns : goal.returns
returns c = (has_or, has_and, has_code, same_sets)
