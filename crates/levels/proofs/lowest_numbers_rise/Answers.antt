use Rattle.std.proofs.Common.{ℕ}
use Rattle.levels.specs.Levels.{Holds}
use Rattle.levels.proofs.Levels.{numbers_rise}
use Rattle.levels.proofs.lowest_numbers_rise.Goals as goal

pub returns : goal.returns
returns c num r q = numbers_rise ℕ num (Holds r) (Holds q)
