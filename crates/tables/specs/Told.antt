-- What the rows of the tables tell of a plant, while the tables are made.
use Rattle.std.specs.Prelude.{◌≡◌, ℕ, ◌+◌, ◌^◌, ◌<◌, ◌≤◌, Bool, List, map, take, length, slice_index}
use Rattle.std.specs.List.{range_with_len}
use Rattle.floor.specs.Floor.{Floor, leaving, entering, end_of, station_of, place, lane_at, width}
use Rattle.floor.specs.Meaning.{Meaning}
use Rattle.floor.specs.Numbers.{most_on_side}
use Rattle.tables.specs.Parts.{side_in}
use Rattle.tables.specs.declared.tables.TableLane.{TableLane}
use Rattle.tables.specs.declared.tables.TableSide.{TableSide}
use Rattle.tables.specs.declared.tables.LaneEnd.{LaneEnd}

-- the lanes of a side, by position
abbrev pub lanes_on : Floor → ℕ → List ℕ
lanes_on F s = map (lane_at F (end_of s) (station_of s)) (range_with_len 0 (width F s))

-- the caps of the sets of a side, in the order of their codes
abbrev pub caps_on : Meaning → ℕ → List ℕ
caps_on M s = map (M.cap (end_of s) (station_of s)) (range_with_len 0 (2 ^ width M.floor s))

-- a row has the lanes of the side s
pub record SideTold (F : Floor) (s : ℕ) (row : TableSide) : Type 0 where
  pub all : row.width ≡ width F s
  pub few : row.width ≤ most_on_side
  pub lanes : take row.width row.numbers ≡ lanes_on F s

-- the rows are those of the first n sides
pub record SidesTold (F : Floor) (n : ℕ) (rows : List TableSide) : Type 0 where
  pub all : length rows ≡ n
  pub each : (s : ℕ) → s < n → SideTold F s (side_in rows s)

-- the caps of the side s begin where its row says
pub record SideCapped (M : Meaning) (s : ℕ) (row : TableSide) (caps : List ℕ) : Type 0 where
  pub all : row.start + 2 ^ width M.floor s ≤ length caps
  pub each : (X : ℕ) → X < 2 ^ width M.floor s → slice_index caps (row.start + X) ≡ M.cap (end_of s) (station_of s) X

-- the caps of the first n sides begin where their rows say
abbrev pub SidesCapped : Meaning → ℕ → List TableSide → List ℕ → Type 0
SidesCapped M n rows caps = (s : ℕ) → s < n → SideCapped M s (side_in rows s) caps

-- the end of a lane, with its position there
abbrev pub end_told : Floor → Bool → ℕ → LaneEnd
end_told F d e = record { station = F.end d e; position = place F d (F.end d e) e }

-- the row of the lane e
abbrev pub lane_told : Floor → ℕ → TableLane
lane_told F e = record { leaving = end_told F leaving e; entering = end_told F entering e }

-- the rows of the first n lanes
abbrev pub lanes_told : Floor → ℕ → List TableLane
lanes_told F n = map (lane_told F) (range_with_len 0 n)
