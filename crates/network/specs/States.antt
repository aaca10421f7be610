-- The states of a path, the amount that a pair of them lets through, and the residual relation.
use Rattle.std.specs.Prelude.{◌≡◌, ℕ, zero, suc, ◌<◌, ◌≤◌, min, Bool, true, false, ◌⊎◌}
use Rattle.polymatroid.specs.Side.{room_but, plus, minus}
use Rattle.floor.specs.Floor.{leaving, entering, stock, despatch, place, count}
use Rattle.floor.specs.Meaning.{Meaning}
use Rattle.network.specs.Plans.{trays}

-- a lane with its sign, or the start (Pole leaving) or the end (Pole entering) of a path
pub data State : Type 0 where
  Pole : Bool → State
  Plus : ℕ → State
  Minus : ℕ → State

-- the lane number of a state
abbrev pub lane_number : State → ℕ
lane_number (Pole b) = 0
lane_number (Plus e) = e
lane_number (Minus e) = e

-- what a label is for: a lane, with either sign; the start and the end have numbers of their own
abbrev pub holder : State → ℕ
holder (Pole false) = 0
holder (Pole true) = 1
holder (Plus e) = suc (suc e)
holder (Minus e) = suc (suc e)

-- the station at which a state arrives (entering) or from which it departs (leaving): a + lane runs from the station that it
-- leaves to the one that it enters, a - lane the other way. The start arrives at the stock, the end departs from the despatch;
-- where the start departs and the end arrives is no station
abbrev pub at : Meaning → Bool → State → ℕ
at M true (Pole false) = stock M.floor
at M true (Pole true) = M.floor.stations
at M false (Pole false) = M.floor.stations
at M false (Pole true) = despatch M.floor
at M true (Plus e) = M.floor.end entering e
at M false (Plus e) = M.floor.end leaving e
at M true (Minus e) = M.floor.end leaving e
at M false (Minus e) = M.floor.end entering e

-- a lane of the floor, or the start or the end
abbrev pub OnFloor : Meaning → State → Type 0
OnFloor M (Pole b) = Unit {0}
OnFloor M (Plus e) = e < M.floor.lanes
OnFloor M (Minus e) = e < M.floor.lanes

-- ---- rooms of lanes

-- the room of lane e at its end d, over the sets without position g there
unfoldable pub room_at : Meaning → (ℕ → ℕ) → Bool → ℕ → ℕ → ℕ
room_at M f d e g =
    room_but (count M.floor d (M.floor.end d e)) (M.cap d (M.floor.end d e)) (trays M f d (M.floor.end d e))
    (place M.floor d (M.floor.end d e) e) g

-- over all sets: no set has the position after the last
abbrev pub lane_room : Meaning → (ℕ → ℕ) → Bool → ℕ → ℕ
lane_room M f d e = room_at M f d e (count M.floor d (M.floor.end d e))

-- over the sets without lane g
abbrev pub lane_room_but : Meaning → (ℕ → ℕ) → Bool → ℕ → ℕ → ℕ
lane_room_but M f d e g = room_at M f d e (place M.floor d (M.floor.end d e) g)

-- a state that arrives openly: it asks for no lane of its tight set after it
abbrev pub Open : Meaning → (ℕ → ℕ) → State → Type 0
Open M f (Pole false) = Unit {0}
Open M f (Pole true) = ⊥
Open M f (Plus e) = 0 < lane_room M f entering e
Open M f (Minus e) = 0 < f e

-- a state that departs freely: it asks for no lane of its tight set before it
abbrev pub Free : Meaning → (ℕ → ℕ) → State → Type 0
Free M f (Pole false) = ⊥
Free M f (Pole true) = Unit {0}
Free M f (Plus e) = 0 < lane_room M f leaving e
Free M f (Minus e) = 0 < f e

-- ---- the residual relation

-- the amount that a state and the next one let through: the lesser of what the first lets through where it arrives and what the
-- second lets through where it departs. A - lane lets its trays through; a + lane its room there, over the sets without the
-- other where that is a - lane
abbrev pub amount : Meaning → (ℕ → ℕ) → State → State → ℕ
amount M f (Pole b) (Pole c) = 0
amount M f (Pole false) (Plus g) = lane_room M f leaving g
amount M f (Pole true) (Plus g) = 0
amount M f (Pole b) (Minus g) = 0
amount M f (Plus e) (Pole false) = 0
amount M f (Plus e) (Pole true) = lane_room M f entering e
amount M f (Plus e) (Plus g) = min (lane_room M f entering e) (lane_room M f leaving g)
amount M f (Plus e) (Minus g) = min (lane_room_but M f entering e g) (f g)
amount M f (Minus e) (Pole c) = 0
amount M f (Minus e) (Plus g) = min (f e) (lane_room_but M f leaving g e)
amount M f (Minus e) (Minus g) = min (f e) (f g)

-- the two signs of one lane
abbrev pub Turn : State → State → Type 0
Turn (Pole b) y = ⊥
Turn (Plus e) (Pole b) = ⊥
Turn (Plus e) (Plus g) = ⊥
Turn (Plus e) (Minus g) = e ≡ g
Turn (Minus e) (Pole b) = ⊥
Turn (Minus e) (Plus g) = e ≡ g
Turn (Minus e) (Minus g) = ⊥

-- the residual relation: two states that meet, let trays through and are no turn
pub record Residual (M : Meaning) (f : ℕ → ℕ) (x y : State) : Type 0 where
  pub ok_from : OnFloor M x
  pub ok_to : OnFloor M y
  pub meet : at M entering x ≡ at M leaving y
  pub some : 0 < amount M f x y
  pub straight : Turn x y → ⊥

-- two states that are a turn
pub record Turns (M : Meaning) (x y : State) : Type 0 where
  pub ok_from : OnFloor M x
  pub ok_to : OnFloor M y
  pub meet : at M entering x ≡ at M leaving y
  pub turn : Turn x y

-- the residual relation with the turns, over which levels never fall
pub record Step (M : Meaning) (f : ℕ → ℕ) (x y : State) : Type 0 where
  pub ok_from : OnFloor M x
  pub ok_to : OnFloor M y
  pub meet : at M entering x ≡ at M leaving y
  pub some : (0 < amount M f x y) ⊎ Turn x y

-- ---- paths

-- a path without detour of N pairs: no state steps past the next one
pub record Path (M : Meaning) (f : ℕ → ℕ) (P : ℕ → State) (N : ℕ) : Type 0 where
  pub begin : P 0 ≡ Pole false
  pub finish : P N ≡ Pole true
  pub ok : (i : ℕ) → i ≤ N → OnFloor M (P i)
  pub meet : (i : ℕ) → i < N → at M entering (P i) ≡ at M leaving (P (suc i))
  pub some : (i : ℕ) → i < N → 0 < amount M f (P i) (P (suc i))
  pub straight : (i : ℕ) → i < N → Turn (P i) (P (suc i)) → ⊥
  pub short : (i j : ℕ) → i < j → j ≤ N → Step M f (P i) (P j) → j ≤ suc i

-- n trays more on a + lane, n fewer on a - lane
abbrev pub applied : ℕ → State → (ℕ → ℕ) → ℕ → ℕ
applied n (Pole b) f = f
applied n (Plus e) f = plus f e n
applied n (Minus e) f = minus f e n

-- the trays after that has been done along the first N states
unfoldable pub augmented : ℕ → (ℕ → State) → ℕ → (ℕ → ℕ) → ℕ → ℕ
augmented n P zero f = f
augmented n P (suc N) f = applied n (P N) (augmented n P N f)
