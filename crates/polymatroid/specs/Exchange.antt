-- What a move does at one side: it puts n trays at position u, takes n from position v, and makes exchanges.
-- A position that is not on the side is k, which no set of the side has.
use Rattle.std.specs.Prelude.{◌≡◌, ℕ, ◌+◌, ◌<◌, ◌≤◌, cond, List, [], ◌∷◌, ◌≢◌}
use Rattle.std.specs.List.{AllByRecursion}
use Rattle.polymatroid.specs.Sets.{has}
use Rattle.polymatroid.specs.Side.{In, Out, Caps, Within, Full, tight_set, moved, room_but}

-- an exchange: n trays more at `up`, n fewer at `down`
pub record Exchange : Type 0 where
  pub up : ℕ
  pub down : ℕ

-- the trays after the exchanges, the last of the list made first
unfoldable pub exchanged : ℕ → List Exchange → (ℕ → ℕ) → ℕ → ℕ
exchanged n [] w = w
exchanged n (s ∷ ss) w = moved (exchanged n ss w) s.up s.down n

-- the trays after the whole move
abbrev pub after : ℕ → ℕ → ℕ → List Exchange → (ℕ → ℕ) → ℕ → ℕ
after n u v ss w = exchanged n ss (moved w u v n)

-- the trays that the exchanges of a list put into a set, and those that they take from it
unfoldable pub ups : ℕ → List Exchange → ℕ → ℕ
ups n [] X = 0
ups n (s ∷ ss) X = cond (has X s.up) n 0 + ups n ss X

unfoldable pub downs : ℕ → List Exchange → ℕ → ℕ
downs n [] X = 0
downs n (s ∷ ss) X = cond (has X s.down) n 0 + downs n ss X

-- an exchange by the tight set of its first position
pub record Sound (k : ℕ) (cap w : ℕ → ℕ) (n : ℕ) (s : Exchange) : Type 0 where
  pub up_on : s.up < k
  pub down_on : s.down < k
  pub apart : s.up ≡ s.down → ⊥
  pub full : Full k cap w s.up
  pub member : In (tight_set k cap w s.up) s.down
  pub carries : n ≤ w s.down
  pub amount : n ≤ room_but k cap w s.up s.down

-- u has room, v carries trays, where they are on the side
pub record Ends (k : ℕ) (cap w : ℕ → ℕ) (n u v : ℕ) : Type 0 where
  pub up_on : u ≤ k
  pub down_on : v ≤ k
  pub apart : u < k → u ≢ v
  pub roomy : u < k → Full k cap w u → ⊥
  pub carries : v < k → n ≤ w v
  pub amount : u < k → n ≤ room_but k cap w u v

-- neither position is in the tight set of p
abbrev pub Clear : ℕ → (ℕ → ℕ) → (ℕ → ℕ) → ℕ → ℕ → ℕ → Type 0
Clear k cap w p u v = Out (tight_set k cap w p) u × Out (tight_set k cap w p) v

-- each exchange's tight set is clear of u and v and of the exchanges after it in the list
abbrev pub InTurn : ℕ → (ℕ → ℕ) → (ℕ → ℕ) → ℕ → ℕ → List Exchange → Type 0
InTurn k cap w u v [] = Unit {0}
InTurn k cap w u v (s ∷ ss) =
    Clear k cap w s.up u v × AllByRecursion (λ t. Clear k cap w s.up t.up t.down) ss × InTurn k cap w u v ss

pub record SideMove (k : ℕ) (cap w : ℕ → ℕ) (n u v : ℕ) (ss : List Exchange) : Type 0 where
  pub caps : Caps k cap
  pub fits : Within k cap w
  pub ends : Ends k cap w n u v
  pub sound : AllByRecursion (Sound k cap w n) ss
  pub turn : InTurn k cap w u v ss

-- a move leaves the trays within the caps
abbrev pub ExchangesKeep : Type 0
ExchangesKeep =
    (k : ℕ) (cap w : ℕ → ℕ) (n u v : ℕ) (ss : List Exchange) → SideMove k cap w n u v ss → Within k cap (after n u v ss w)
