-- Cuts of a floor, and that no plan carries more than a cut lets through.
use Rattle.std.specs.Prelude.{◌≡◌, ℕ, ◌+◌, ◌*◌, ◌≤◌, Bool, true, false, cond, not, ◌&&◌}
use Rattle.polymatroid.specs.Sets.{code}
use Rattle.floor.specs.Floor.{count, lane_at}
use Rattle.floor.specs.Meaning.{Meaning, Lawful}
use Rattle.network.specs.Plans.{Balanced, FitsBy, total}
use Rattle.polymatroid.specs.Kinds.{sum_to}

-- the code of the lanes that pass t, at station i by their end d
unfoldable pub set_of : Meaning → Bool → ℕ → (ℕ → Bool) → ℕ
set_of M d i t = code (count M.floor d i) (λ p. t (lane_at M.floor d i p))

-- a lane from a near station to a far one
abbrev pub crosses : Meaning → (ℕ → Bool) → ℕ → Bool
crosses M near e = near (M.floor.end false e) && not (near (M.floor.end true e))

-- the capacity of a cut: the near stations, and the lanes among those that cross that count where they leave
unfoldable pub capacity : Meaning → (ℕ → Bool) → (ℕ → Bool) → ℕ
capacity M near upper =
    sum_to (λ i. cond (near i) (M.cap false i (set_of M false i (λ e. crosses M near e && upper e))) 0) M.floor.stations
    + sum_to (λ i. cond (near i) 0 (M.cap true i (set_of M true i (λ e. crosses M near e && not (upper e))))) M.floor.stations

-- no plan carries more than a cut lets through
abbrev pub CutBounds : Type 0
CutBounds =
    (M : Meaning) (near upper : ℕ → Bool) → Lawful M → near (M.floor.pole false) ≡ true → near (M.floor.pole true) ≡ false
    → (q : ℕ) (g : ℕ → ℕ) → Balanced M g → FitsBy M q g → total M g ≤ q * capacity M near upper
