-- The floor and the caps that stand in the parts of tables.
use Rattle.std.specs.Prelude.{ℕ, ◌+◌, Bool, cond, List, [], take, length, slice_index, slice_index_or}
use Rattle.floor.specs.Floor.{Floor, side}
use Rattle.floor.specs.Meaning.{Meaning}
use Rattle.tables.specs.declared.tables.LaneEnd.{LaneEnd}
use Rattle.tables.specs.declared.tables.TableLane.{TableLane}
use Rattle.tables.specs.declared.tables.TableSide.{TableSide}

-- the end of a lane where it enters a station, or the one where it leaves a station
abbrev pub end_in : Bool → TableLane → LaneEnd
end_in d row = cond d row.entering row.leaving

-- the lane with a number
abbrev pub lane_in : List TableLane → ℕ → TableLane
lane_in rows e =
    slice_index_or rows e (record { leaving = record { station = 0; position = 0 }; entering = record { station = 0; position = 0 } })

-- the side with a number
abbrev pub side_in : List TableSide → ℕ → TableSide
side_in rows s = slice_index_or rows s (record { width = 0; numbers = []; start = 0 })

-- the lanes of the side with a number, by position
abbrev pub lanes_in : List TableSide → ℕ → List ℕ
lanes_in rows s = take (side_in rows s).width (side_in rows s).numbers

-- the floor with these stations, this stock, this despatch and these lanes
abbrev pub table_floor : ℕ → ℕ → ℕ → List TableLane → Floor
table_floor stations stock despatch lanes =
    record {
      stations = stations;
      lanes = length lanes;
      pole = λ d. cond d despatch stock;
      end = λ d e. (end_in d (lane_in lanes e)).station;
    }

-- the floor, and the caps of each side from the place where they begin
abbrev pub table_meaning : ℕ → ℕ → ℕ → List TableLane → List TableSide → List ℕ → Meaning
table_meaning stations stock despatch lanes sides caps =
    record {
      floor = table_floor stations stock despatch lanes;
      cap = λ d i X. slice_index caps ((side_in sides (side d i)).start + X);
    }
