use Rattle.calls.proofs.Keeps.{calls_keep_the_promise}
use Rattle.calls.proofs.calls_keep_the_promise.Goals as goal

pub returns : goal.returns
returns c = calls_keep_the_promise
