-- Rooms that are worked out from the lists of a side are those of its lanes.
use Rattle.std.proofs.Common.{◌≡◌, ℕ, ◌-◌, ◌^◌, ◌<◌, Bool, List, length, cond, eqb, refl, ap, ◌∙◌, ap₂}
use Rattle.std.proofs.lemmas.Nat.{pow_below}
use Rattle.polymatroid.specs.Sets.{has}
use Rattle.polymatroid.specs.Finite.{least}
use Rattle.polymatroid.specs.Room.{zeroed}
use Rattle.polymatroid.specs.Side.{left, room}
use Rattle.polymatroid.proofs.Finite.{least_same_values}
use Rattle.polymatroid.proofs.Side.{load_same}
use Rattle.floor.specs.Floor.{width, end_of, station_of, place}
use Rattle.floor.specs.Meaning.{Meaning}
use Rattle.network.specs.Plans.{trays}
use Rattle.rooms.specs.Rooms.{at}
use Rattle.measures.specs.ByRooms.{room_zeroing}
use Rattle.measures.specs.Measures.{OfSide, position_room, position_zeroing}

-- a room looks at the caps of the side's sets and at the trays of its positions, and at nothing else
pub room_same : (k : ℕ) (c d v w : ℕ → ℕ) (e : ℕ) → e < k → ((X : ℕ) → X < 2 ^ k → c X ≡ d X) → ((p : ℕ) → p < k → v p ≡ w p)
    → room k c v e ≡ room k d w e
unfolding room
room_same k c d v w e l caps each =
    let lefts : (X : ℕ) → X < 2 ^ k → left k c v X ≡ left k d w X =
    λ X m. ap₂ (λ a b. a - b) (caps X m) (load_same v w k X X (λ p q. ap (λ n. cond (has X p) n 0) (each p q))) in
    least_same_values (λ X. has X e) (left k c v) (left k d w) (left k c v (2 ^ e)) (2 ^ k) lefts
    ∙ ap (λ n. least (λ X. has X e) (left k d w) n (2 ^ k)) (lefts (2 ^ e) (pow_below e k l))

-- the caps and the trays of a side give the rooms there
pub side_room : (M : Meaning) (f : ℕ → ℕ) (s : ℕ) (caps on : List ℕ) → OfSide M f s caps on
    → (p : ℕ) → p < width M.floor s → room (length on) (at caps) (at on) p ≡ position_room M f (end_of s) (station_of s) p
side_room M f s caps on is p l =
    ap (λ k. room k (at caps) (at on) p) is.wide
    ∙ room_same (width M.floor s) (at caps) (M.cap (end_of s) (station_of s)) (at on) (trays M f (end_of s) (station_of s)) p l is.capped is.loaded

-- and the room of a position with the trays of another put to 0
pub side_zeroing : (M : Meaning) (f : ℕ → ℕ) (s p q : ℕ) (caps on : List ℕ) → OfSide M f s caps on → p < width M.floor s
    → room (length on) (at caps) (zeroed (at on) q) p ≡ position_zeroing M f (end_of s) (station_of s) p q
unfolding position_zeroing zeroed
side_zeroing M f s p q caps on is l =
    ap (λ k. room k (at caps) (zeroed (at on) q) p) is.wide
    ∙ room_same (width M.floor s) (at caps) (M.cap (end_of s) (station_of s)) (zeroed (at on) q) (zeroed (trays M f (end_of s) (station_of s)) q) p l
    is.capped (λ r m. ap (λ n. cond (eqb r q) 0 n) (is.loaded r m))

-- a lane's room at one of its ends, with the trays of another lane put to 0, is that of its position
pub zeroing_is : (M : Meaning) (f : ℕ → ℕ) (d : Bool) (e g : ℕ)
    → room_zeroing M f d e g
    ≡ position_zeroing M f d (M.floor.end d e) (place M.floor d (M.floor.end d e) e) (place M.floor d (M.floor.end d e) g)
unfolding room_zeroing position_zeroing
zeroing_is M f d e g = refl
