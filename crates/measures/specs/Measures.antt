-- What is measured of the trays on a floor.
use Rattle.std.specs.Prelude.{◌≡◌, ℕ, ◌^◌, ◌<◌, Bool, cond, List, length, vec_len, ◌≢◌, slice_index, slice_index_or}
use Rattle.polymatroid.specs.Side.{room}
use Rattle.polymatroid.specs.Room.{zeroed}
use Rattle.floor.specs.Floor.{side, width, end_of, station_of, count}
use Rattle.floor.specs.Meaning.{Meaning}
use Rattle.network.specs.Plans.{trays as trays_on}
use Rattle.rooms.specs.Rooms.{at}
use Rattle.tables.specs.Tables.{meaning_in}
use Rattle.tables.specs.declared.tables.Tables.{Tables}
use Rattle.measures.specs.ByRooms.{room_at}
use Rattle.measures.specs.declared.lane_rooms.LaneRooms.{LaneRooms}

-- the room of position p at a station's end d
abbrev pub position_room : Meaning → (ℕ → ℕ) → Bool → ℕ → ℕ → ℕ
position_room M f d i p = room (count M.floor d i) (M.cap d i) (trays_on M f d i) p

-- the same with the trays of position q put to 0
unfoldable pub position_zeroing : Meaning → (ℕ → ℕ) → Bool → ℕ → ℕ → ℕ → ℕ
position_zeroing M f d i p q = room (count M.floor d i) (M.cap d i) (zeroed (trays_on M f d i) q) p

-- these are the caps of the side s by set, and the trays of its lanes by position
pub record OfSide (M : Meaning) (f : ℕ → ℕ) (s : ℕ) (caps on : List ℕ) : Type 0 where
  pub wide : length on ≡ width M.floor s
  pub loaded : (p : ℕ) → p < width M.floor s → slice_index on p ≡ trays_on M f (end_of s) (station_of s) p
  pub capped : (X : ℕ) → X < 2 ^ width M.floor s → slice_index caps X ≡ M.cap (end_of s) (station_of s) X

-- the room at the end d of a lane with these rooms
abbrev pub end_room : Bool → LaneRooms → ℕ
end_room d rooms = cond d rooms.entering rooms.leaving

-- the rooms with n at the end d
abbrev pub with_room : Bool → ℕ → LaneRooms → LaneRooms
with_room d n rooms = record { leaving = cond d rooms.leaving n; entering = cond d n rooms.entering }

-- the room of lane e at its end d
abbrev pub room_in : List LaneRooms → Bool → ℕ → ℕ
room_in rooms d e = end_room d (slice_index_or rooms e (record { leaving = 0; entering = 0 }))

-- the first n of the numbers xs are put, as rooms at the end d, at the places that ps has for them, and all else is as it was before
pub record Put (d : Bool) (ps xs : List ℕ) (before after : List LaneRooms) (n : ℕ) : Type 0 where
  pub all : length after ≡ length before
  pub put : (p : ℕ) → p < n → room_in after d (slice_index ps p) ≡ slice_index xs p
  pub kept : (c : Bool) (e : ℕ) → ((p : ℕ) → p < n → c ≡ d → slice_index ps p ≢ e) → room_in after c e ≡ room_in before c e

-- the rooms at the first n sides are measured
abbrev pub MeasuredBelow : Meaning → (ℕ → ℕ) → List LaneRooms → ℕ → Type 0
MeasuredBelow M f rooms n = (d : Bool) (e : ℕ) → e < M.floor.lanes → side d (M.floor.end d e) < n → room_in rooms d e ≡ room_at M f d e

-- there are rooms for every lane, those at its two ends
pub record Measured (t : Tables) (trays : List ℕ) (rooms : List LaneRooms) : Type 0 where
  pub all : length rooms ≡ vec_len t.lanes
  pub each : (d : Bool) (e : ℕ) → e < vec_len t.lanes → room_in rooms d e ≡ room_at (meaning_in t) (at trays) d e
