use Rattle.std.proofs.Common.{rules}
use Rattle.moves.proofs.Reading.{lane_below}
use Rattle.moves.proofs.before.Goals as goal

pub returns-clause-known : goal.returns-clause-known
returns-clause-known c = λ m among. search (rules, lane_below m c.args.path.now)
