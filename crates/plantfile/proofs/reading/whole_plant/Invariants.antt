use Rattle.std.proofs.Common.{◌≡◌, ◌≤◌, length}
use Rattle.plantformat.specs.Judge.{judge, read_on}
use Rattle.answers.specs.Content.{content}
use Rattle.plantfile.proofs.reading.whole_plant.Given as goal

abbrev pub invariant-loop-rest : goal.invariant-loop-rest
invariant-loop-rest l =
    (judge l.file ≡ read_on (length l.rest) (length l.file) (content l.plant) l.rest) × (length l.rest ≤ length l.file)

abbrev pub decreases-loop-rest : goal.decreases-loop-rest
decreases-loop-rest l = length l.rest
