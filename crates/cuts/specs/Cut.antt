-- The cut that a program reads from its labels.
use Rattle.std.specs.Prelude.{◌≡◌, ℕ, ◌<◌, Bool, cond, not, ◌&&◌, ◌||◌, List, ◌==◌, nat_lt, slice_index}
use Rattle.polymatroid.specs.Finite.{first}
use Rattle.floor.specs.Floor.{leaving, entering, stock}
use Rattle.floor.specs.Meaning.{Meaning}
use Rattle.network.specs.Cuts.{crosses}
use Rattle.labelling.specs.Table.{Mark}
use Rattle.labelling.specs.Steps.{labels}
use Rattle.labelling.specs.Near.{near, plus_labelled, minus_labelled, unlabelled}
use Rattle.calls.specs.Does.{lane_byte, station_byte}
use Rattle.measures.specs.declared.lane_rooms.LaneRooms.{LaneRooms}
use Rattle.measures.specs.ByRooms.{room_at}
use Rattle.measures.specs.Measures.{room_in}

-- the list has the room of every lane where it enters
abbrev pub EnteringRooms : Meaning → (ℕ → ℕ) → List LaneRooms → Type 0
EnteringRooms M f rooms = (e : ℕ) → e < M.floor.lanes → room_in rooms entering e ≡ room_at M f entering e

-- by these rooms lane e makes station i near: a - lane that leaves it, or a + lane that enters it and has room there
abbrev pub nears_by_rooms : Meaning → List LaneRooms → List Mark → ℕ → ℕ → Bool
nears_by_rooms M rooms t i e =
    (minus_labelled t e && M.floor.end leaving e == i)
    || (plus_labelled t e && (not (room_in rooms entering e == 0) && M.floor.end entering e == i))

-- the near stations by these rooms, whether or not they are those of any trays: the stock, and those that a lane makes near
unfoldable pub near_by_rooms : Meaning → List LaneRooms → List Mark → ℕ → Bool
near_by_rooms M rooms t i = stock M.floor == i || nat_lt (first (nears_by_rooms M rooms t i) M.floor.lanes) M.floor.lanes

-- the byte of a station, 1 near or 0 far
abbrev pub near_byte : Meaning → (ℕ → ℕ) → List Mark → ℕ → ℕ
near_byte M f t i = cond (near M f t i) 1 0

-- the stations that have the byte 1
abbrev pub byte_near : List ℕ → ℕ → Bool
byte_near bytes i = slice_index bytes i == 1

-- the byte of a lane, `U` or `L` if it leads from near to far, without a label or with one, else `-`
abbrev pub cut_byte : Meaning → (ℕ → Bool) → List Mark → ℕ → ℕ
cut_byte M n t e = cond (crosses M n e) (cond (unlabelled t e) 85 76) 45

-- where the labels are those of the trays, the bytes are those that a plan tells of its cut
abbrev pub CutBytes : Type 0
CutBytes =
    (M : Meaning) (f : ℕ → ℕ) (bytes : List ℕ) (t : List Mark) → t ≡ labels M f
    → ((i : ℕ) → i < M.floor.stations → slice_index bytes i ≡ near_byte M f t i)
    → ((i : ℕ) → i < M.floor.stations → slice_index bytes i ≡ station_byte M f i)
    × ((e : ℕ) → ((d : Bool) → M.floor.end d e < M.floor.stations) → cut_byte M (byte_near bytes) t e ≡ lane_byte M f e)
