-- The numbers that bound every floor. Each stands here and nowhere else.
use Rattle.std.specs.Prelude.{ℕ}

-- a floor has two stations at least, and this many at most
abbrev pub most_stations : ℕ
most_stations = 32

-- a floor has at most this many lanes
abbrev pub most_lanes : ℕ
most_lanes = 64

-- a side has at most this many lanes
abbrev pub most_on_side : ℕ
most_on_side = 8

-- no cap of a set of lanes is above this
abbrev pub top_cap : ℕ
top_cap = 1000000
