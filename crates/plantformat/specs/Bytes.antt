-- Numbers in bytes, the lowest byte first.
use Rattle.std.specs.Prelude.{ℕ, ◌+◌, ◌*◌, List, map, slice_index}
use Rattle.std.specs.List.{range_with_len}

-- the two-byte number at place i
abbrev pub word : List ℕ → ℕ → ℕ
word bs i = slice_index bs i + slice_index bs (i + 1) * 256

-- the four-byte number at place i
abbrev pub long : List ℕ → ℕ → ℕ
long bs i = slice_index bs i + slice_index bs (i + 1) * 256 + slice_index bs (i + 2) * 65536 + slice_index bs (i + 3) * 16777216

-- the n numbers f 0, f 1, ..
abbrev pub listed : ℕ → (ℕ → ℕ) → List ℕ
listed n f = map f (range_with_len 0 n)
