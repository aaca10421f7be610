use Rattle.std.proofs.Common.{◌≡◌, ℕ, ◌+◌, ◌*◌, ◌<◌, get_or, vec_items, vec_len}
use Rattle.hexdigits.specs.Hex.{Pair}
use Rattle.hexdigits.proofs.bytes_of.Given as goal

-- the pairs so far write the bytes so far
abbrev pub invariant-loop-high : goal.invariant-loop-high
invariant-loop-high l = (vec_len l.bytes ≡ l.high-index) × ((j : ℕ) → j < l.high-index → Pair (get_or l.digits (2 * j) 0) (get_or l.digits (2 * j + 1) 0) (get_or (vec_items l.bytes) j 0))
