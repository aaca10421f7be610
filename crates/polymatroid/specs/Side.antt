-- One side of a station: k positions, a cap for each set of them, and the trays at each position.
use Rattle.std.specs.Prelude.{◌≡◌, ℕ, zero, suc, ◌+◌, ◌-◌, ◌^◌, ◌<◌, ◌≤◌, true, false, cond, not, ◌&&◌, ◌==◌, ◌≢◌, bit_and, bit_or}
use Rattle.polymatroid.specs.Sets.{has}
use Rattle.polymatroid.specs.Finite.{first, least}

-- the sum of the trays w over the set X of the positions below k
unfoldable pub load : (ℕ → ℕ) → ℕ → ℕ → ℕ
load w zero X = 0
load w (suc k) X = load w k X + cond (has X k) (w k) 0

-- position p is in X
abbrev pub In : ℕ → ℕ → Type 0
In X p = has X p ≡ true

abbrev pub Out : ℕ → ℕ → Type 0
Out X p = has X p ≡ false

-- the laws of a side's caps
pub record Caps (k : ℕ) (cap : ℕ → ℕ) : Type 0 where
  pub none : cap 0 ≡ 0
  pub grows : (X p : ℕ) → X < 2 ^ k → p < k → cap X ≤ cap (bit_or X (2 ^ p))
  pub bends : (X Y : ℕ) → X < 2 ^ k → Y < 2 ^ k → cap (bit_or X Y) + cap (bit_and X Y) ≤ cap X + cap Y

-- the trays break no cap
abbrev pub Within : ℕ → (ℕ → ℕ) → (ℕ → ℕ) → Type 0
Within k cap w = (X : ℕ) → X < 2 ^ k → load w k X ≤ cap X

-- X is a set of the side whose trays reach its cap
pub record Tight (k : ℕ) (cap w : ℕ → ℕ) (X : ℕ) : Type 0 where
  pub set : X < 2 ^ k
  pub reached : load w k X ≡ cap X

-- what is left below the cap of X
abbrev pub left : ℕ → (ℕ → ℕ) → (ℕ → ℕ) → ℕ → ℕ
left k cap w X = cap X - load w k X

-- the room of position e
unfoldable pub room : ℕ → (ℕ → ℕ) → (ℕ → ℕ) → ℕ → ℕ
room k cap w e = least (λ X. has X e) (left k cap w) (left k cap w (2 ^ e)) (2 ^ k)

-- the room of e over the sets without g
unfoldable pub room_but : ℕ → (ℕ → ℕ) → (ℕ → ℕ) → ℕ → ℕ → ℕ
room_but k cap w e g = least (λ X. has X e && not (has X g)) (left k cap w) (left k cap w (2 ^ e)) (2 ^ k)

-- the smallest tight set of e: the lowest code of a tight set with e in it, or 2 ^ k where there is none
unfoldable pub tight_set : ℕ → (ℕ → ℕ) → (ℕ → ℕ) → ℕ → ℕ
tight_set k cap w e = first (λ X. has X e && load w k X == cap X) (2 ^ k)

abbrev pub Full : ℕ → (ℕ → ℕ) → (ℕ → ℕ) → ℕ → Type 0
Full k cap w e = room k cap w e ≡ 0

-- n trays more, or fewer, at position h
unfoldable pub plus : (ℕ → ℕ) → ℕ → ℕ → ℕ → ℕ
plus w h n p = cond (p == h) (w p + n) (w p)

unfoldable pub minus : (ℕ → ℕ) → ℕ → ℕ → ℕ → ℕ
minus w h n p = cond (p == h) (w p - n) (w p)

-- n trays taken from position g and put at position h
unfoldable pub moved : (ℕ → ℕ) → ℕ → ℕ → ℕ → ℕ → ℕ
moved w h g n = minus (plus w h n) g n

-- what holds of tight sets: joined and met they are tight, and a position with one has a smallest, whose other members carry trays
pub record TightFacts (k : ℕ) (cap w : ℕ → ℕ) : Type 0 where
  pub met : (X Y : ℕ) → Tight k cap w X → Tight k cap w Y → Tight k cap w (bit_and X Y)
  pub joined : (X Y : ℕ) → Tight k cap w X → Tight k cap w Y → Tight k cap w (bit_or X Y)
  pub tight : (e X : ℕ) → Tight k cap w X → In X e → Tight k cap w (tight_set k cap w e) × In (tight_set k cap w e) e
  pub smallest : (e X : ℕ) → Tight k cap w X → In X e → (p : ℕ) → In (tight_set k cap w e) p → In X p
  pub carries : (e g X : ℕ) → e < k → g < k → Tight k cap w X → In X e → In (tight_set k cap w e) g → (g ≢ e) → 0 < w g
  pub nested : (e g X : ℕ) → Tight k cap w X → In X e → In (tight_set k cap w e) g
      → (p : ℕ) → In (tight_set k cap w g) p → In (tight_set k cap w e) p

abbrev pub TightSets : Type 0
TightSets = (k : ℕ) (cap w : ℕ → ℕ) → Caps k cap → Within k cap w → TightFacts k cap w
