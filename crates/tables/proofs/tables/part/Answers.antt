-- What a part of a list holds.
use Rattle.std.proofs.Common.{rules}
use Rattle.std.proofs.lemmas.List.{places}
use Rattle.tables.proofs.tables.part.Goals as goal

pub returns : goal.returns
returns c = search (rules, places)
