-- Plans: trays on the lanes that break no cap and are balanced.
use Rattle.std.specs.Prelude.{◌≡◌, ℕ, ◌*◌, ◌^◌, ◌<◌, ◌≤◌, Bool, true, cond, ◌&&◌, ◌≢◌}
use Rattle.polymatroid.specs.Side.{load, Within}
use Rattle.polymatroid.specs.Kinds.{sum_to}
use Rattle.floor.specs.Floor.{leaving, entering, stock, despatch, on, count, lane_at}
use Rattle.floor.specs.Meaning.{Meaning}

-- trays f give each lane a number; these are the trays at the positions of the side of station i and end d
abbrev pub trays : Meaning → (ℕ → ℕ) → Bool → ℕ → ℕ → ℕ
trays M f d i p = f (lane_at M.floor d i p)

-- no set of lanes of a side carries more than its cap
abbrev pub Fits : Meaning → (ℕ → ℕ) → Type 0
Fits M f = (d : Bool) (i : ℕ) → i < M.floor.stations → Within (count M.floor d i) (M.cap d i) (trays M f d i)

-- no set carries more than q times its cap
abbrev pub FitsBy : Meaning → ℕ → (ℕ → ℕ) → Type 0
FitsBy M q g =
    (d : Bool) (i X : ℕ) → i < M.floor.stations → X < 2 ^ (count M.floor d i)
    → load (trays M g d i) (count M.floor d i) X ≤ q * M.cap d i X

-- the trays of those lanes with their end d at station i that pass t
unfoldable pub through : Meaning → (ℕ → ℕ) → (ℕ → Bool) → Bool → ℕ → ℕ
through M g t d i = sum_to (λ e. cond (on M.floor d i e && t e) (g e) 0) M.floor.lanes

-- as many trays enter each station as leave it, the stock and the despatch apart
abbrev pub Balanced : Meaning → (ℕ → ℕ) → Type 0
Balanced M g =
    (i : ℕ) → i < M.floor.stations → (i ≢ stock M.floor) → (i ≢ despatch M.floor)
    → through M g (λ e. true) entering i ≡ through M g (λ e. true) leaving i

-- what leaves the stock
abbrev pub total : Meaning → (ℕ → ℕ) → ℕ
total M g = through M g (λ e. true) leaving (stock M.floor)

-- a plan
pub record Feasible (M : Meaning) (f : ℕ → ℕ) : Type 0 where
  pub within : Fits M f
  pub balanced : Balanced M f
