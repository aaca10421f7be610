-- Tight sets uncross other sets, and rooms tell which positions lie in a tight set.
use Rattle.std.specs.Prelude.{◌≡◌, ℕ, ◌+◌, ◌^◌, ◌<◌, ◌≤◌, cond, ◌==◌, ◌≢◌, bit_and, bit_or}
use Rattle.polymatroid.specs.Side.{load, Tight, In, Caps, Within, Full, room, room_but, tight_set}

-- a set crossed with a tight set: neither what they share nor what they make has more left below its cap than the set has
abbrev pub Uncrossing : Type 0
Uncrossing =
    (k : ℕ) (cap w : ℕ → ℕ) → Caps k cap → Within k cap w → (X Y : ℕ) → X < 2 ^ k → Tight k cap w Y
    → (cap (bit_and X Y) + load w k X ≤ cap X + load w k (bit_and X Y)) × (cap (bit_or X Y) + load w k X ≤ cap X + load w k (bit_or X Y))

-- the trays w, with those of position g put to 0
unfoldable pub zeroed : (ℕ → ℕ) → ℕ → ℕ → ℕ
zeroed w g p = cond (p == g) 0 (w p)

-- the room of e, computed with the trays of g put to 0, is the room of e over the sets without g
abbrev pub Zeroing : Type 0
Zeroing =
    (k : ℕ) (cap w : ℕ → ℕ) → Caps k cap → Within k cap w → (e g : ℕ) → e < k → (e ≢ g)
    → room k cap (zeroed w g) e ≡ room_but k cap w e g

-- a full position has another in its tight set just where it would have room with the trays of the other put to 0
abbrev pub MembersByRoom : Type 0
MembersByRoom =
    (k : ℕ) (cap w : ℕ → ℕ) → Caps k cap → Within k cap w → (e g : ℕ) → e < k → (e ≢ g) → Full k cap w e
    → (In (tight_set k cap w e) g → 0 < room k cap (zeroed w g) e) × (0 < room k cap (zeroed w g) e → In (tight_set k cap w e) g)
