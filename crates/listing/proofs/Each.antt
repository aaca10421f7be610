-- What is said of each number below n: one number more.
use Rattle.std.proofs.Common.{◌≡◌, ℕ, ◌+◌, List, ◌++◌, add-one, append_assoc}
use Rattle.listing.specs.Lines.{each}

pub each_more : (n : ℕ) (f : ℕ → List ℕ) → each (n + 1) f ≡ each n f ++ f n
each_more n f = rw add-one

-- what is added part by part is the whole
pub ruleset by_parts = (append_assoc, each_more)
