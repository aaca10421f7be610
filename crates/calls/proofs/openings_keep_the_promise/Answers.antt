use Rattle.calls.proofs.Keeps.{openings_keep_the_promise}
use Rattle.calls.proofs.openings_keep_the_promise.Goals as goal

pub returns : goal.returns
returns c = openings_keep_the_promise
