use Rattle.std.proofs.Common.{ℕ}
use Rattle.levels.specs.Levels.{Holds}
use Rattle.levels.proofs.Levels.{levels_rise_back}
use Rattle.levels.proofs.levels_rise_back.Goals as goal

pub returns : goal.returns
returns c r q = levels_rise_back ℕ (Holds r) (Holds q)
