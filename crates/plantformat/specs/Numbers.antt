-- The numbers that bound a plant file, beside those of every floor. Each stands here and nowhere else.
use Rattle.std.specs.Prelude.{ℕ}

-- a longer file is refused before anything else
abbrev pub most_bytes : ℕ
most_bytes = 60000

-- no lane's own cap and no grade is above this
abbrev pub top_lane : ℕ
top_lane = 100000

-- a groups record has one group at least, and this many at most
abbrev pub most_groups : ℕ
most_groups = 16
