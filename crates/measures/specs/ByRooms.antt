-- The rules of a scan and the amount of a path, worked out from rooms alone: a lane's room, and its room with another lane's
-- trays put to 0.
use Rattle.std.specs.Prelude.{◌≡◌, ℕ, Bool, true, false, cond, not, ◌&&◌, ◌==◌, nat_lt}
use Rattle.polymatroid.specs.Room.{zeroed}
use Rattle.polymatroid.specs.Side.{room}
use Rattle.floor.specs.Floor.{leaving, entering, place, count, stock, despatch}
use Rattle.floor.specs.Meaning.{Meaning, Lawful}
use Rattle.network.specs.Plans.{trays, Fits}
use Rattle.network.specs.States.{State, Pole, Plus, Minus, OnFloor}
use Rattle.labelling.specs.Rules.{ruled}
use Rattle.labelling.specs.Table.{label}
use Rattle.labelling.specs.Steps.{outcome}
use Rattle.labelling.specs.Amount.{room_beside}

-- the room of lane e at its end d
unfoldable pub room_at : Meaning → (ℕ → ℕ) → Bool → ℕ → ℕ
room_at M f d e =
    room (count M.floor d (M.floor.end d e)) (M.cap d (M.floor.end d e)) (trays M f d (M.floor.end d e))
    (place M.floor d (M.floor.end d e) e)

-- the same with the trays of lane g, at the same side, put to 0
unfoldable pub room_zeroing : Meaning → (ℕ → ℕ) → Bool → ℕ → ℕ → ℕ
room_zeroing M f d e g =
    room (count M.floor d (M.floor.end d e)) (M.cap d (M.floor.end d e))
    (zeroed (trays M f d (M.floor.end d e)) (place M.floor d (M.floor.end d e) g)) (place M.floor d (M.floor.end d e) e)

-- lane e has no room at its end d
abbrev pub is_full : Meaning → (ℕ → ℕ) → Bool → ℕ → Bool
is_full M f d e = room_at M f d e == 0

-- a full lane e would have room if g, at the same side, carried no trays: g is in its tight set
abbrev pub waits_for : Meaning → (ℕ → ℕ) → Bool → ℕ → ℕ → Bool
waits_for M f d e g = nat_lt 0 (room_zeroing M f d e g)

-- the rules of a scan, one by one: from the stock to a + lane
abbrev pub start_plus : Meaning → (ℕ → ℕ) → ℕ → Bool
start_plus M f g = stock M.floor == M.floor.end leaving g && not (is_full M f leaving g)

-- from a + lane to the despatch
abbrev pub plus_end : Meaning → (ℕ → ℕ) → ℕ → Bool
plus_end M f e = M.floor.end entering e == despatch M.floor && not (is_full M f entering e)

-- from a + lane to a + lane
abbrev pub plus_plus : Meaning → (ℕ → ℕ) → ℕ → ℕ → Bool
plus_plus M f e g = M.floor.end entering e == M.floor.end leaving g && (not (is_full M f entering e) && not (is_full M f leaving g))

-- from a + lane to a - lane
abbrev pub plus_minus : Meaning → (ℕ → ℕ) → ℕ → ℕ → Bool
plus_minus M f e g =
    (M.floor.end entering e == M.floor.end entering g)
    && (not (e == g) && cond (is_full M f entering e) (waits_for M f entering e g) (nat_lt 0 (f g)))

-- from a - lane to a + lane
abbrev pub minus_plus : Meaning → (ℕ → ℕ) → ℕ → ℕ → Bool
minus_plus M f e g =
    (M.floor.end leaving e == M.floor.end leaving g)
    && (not (e == g) && cond (is_full M f leaving g) (is_full M f leaving e && waits_for M f leaving g e) true)

-- from a - lane to a - lane
abbrev pub minus_minus : Meaning → (ℕ → ℕ) → ℕ → ℕ → Bool
minus_minus M f e g = M.floor.end leaving e == M.floor.end entering g && nat_lt 0 (f g)

-- the rules of a scan
unfoldable pub ruled_by_rooms : Meaning → (ℕ → ℕ) → State → State → Bool
ruled_by_rooms M f (Pole false) (Plus g) = start_plus M f g
ruled_by_rooms M f (Pole false) (Pole c) = false
ruled_by_rooms M f (Pole false) (Minus g) = false
ruled_by_rooms M f (Pole true) y = false
ruled_by_rooms M f (Plus e) (Pole true) = plus_end M f e
ruled_by_rooms M f (Plus e) (Pole false) = false
ruled_by_rooms M f (Plus e) (Plus g) = plus_plus M f e g
ruled_by_rooms M f (Plus e) (Minus g) = plus_minus M f e g
ruled_by_rooms M f (Minus e) (Plus g) = minus_plus M f e g
ruled_by_rooms M f (Minus e) (Minus g) = minus_minus M f e g
ruled_by_rooms M f (Minus e) (Pole c) = false

-- rooms alone decide the rules
abbrev pub RoomsRule : Type 0
RoomsRule =
    (M : Meaning) (f : ℕ → ℕ) → Lawful M → Fits M f → (x y : State) → OnFloor M x → OnFloor M y → ruled_by_rooms M f x y ≡ ruled M f x y

-- so they lead to the labelling of a step
abbrev pub RoomsLabel : Type 0
RoomsLabel = (M : Meaning) (f : ℕ → ℕ) → Lawful M → Fits M f → label (ruled_by_rooms M f) M.floor.lanes ≡ outcome M f

-- the room of lane e at its end d beside a neighbour in the path
abbrev pub beside : Meaning → (ℕ → ℕ) → Bool → ℕ → State → ℕ
beside M f d e (Pole b) = room_at M f d e
beside M f d e (Plus g) = cond (M.floor.end d g == M.floor.end d e) (room_zeroing M f d e g) (room_at M f d e)
beside M f d e (Minus g) = cond (M.floor.end d g == M.floor.end d e) (room_zeroing M f d e g) (room_at M f d e)

-- a neighbour on the same side, or elsewhere, is another lane than e
abbrev pub Another : ℕ → State → Type 0
Another e (Pole b) = Unit {0}
Another e (Plus g) = e ≡ g → ⊥
Another e (Minus g) = e ≡ g → ⊥

abbrev pub RoomsBeside : Type 0
RoomsBeside =
    (M : Meaning) (f : ℕ → ℕ) → Lawful M → Fits M f → (d : Bool) (e : ℕ) (x : State) → OnFloor M (Plus e) → OnFloor M x → Another e x
    → beside M f d e x ≡ room_beside M f d e x
