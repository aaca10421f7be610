-- Which label a scanned lane gives, in the words of the rules: rooms, and smallest tight sets.
use Rattle.std.specs.Prelude.{◌≡◌, ℕ, ◌<◌, Bool, true, false, cond, not, ◌&&◌, ◌==◌, nat_eq, nat_lt}
use Rattle.polymatroid.specs.Sets.{has}
use Rattle.polymatroid.specs.Side.{room, tight_set}
use Rattle.floor.specs.Floor.{leaving, entering, stock, despatch, place, count}
use Rattle.floor.specs.Meaning.{Meaning, Lawful}
use Rattle.network.specs.Plans.{trays, Fits}
use Rattle.network.specs.States.{State, Pole, Plus, Minus, OnFloor, Residual}

-- lane e is full at its end d: the least that is left below the cap of a set with e is 0
unfoldable pub full : Meaning → (ℕ → ℕ) → Bool → ℕ → Bool
full M f d e =
    nat_eq (room (count M.floor d (M.floor.end d e)) (M.cap d (M.floor.end d e)) (trays M f d (M.floor.end d e))
    (place M.floor d (M.floor.end d e) e)) 0

-- lane g is in the smallest tight set of lane e, at the end d of e
unfoldable pub in_tight : Meaning → (ℕ → ℕ) → Bool → ℕ → ℕ → Bool
in_tight M f d e g =
    has (tight_set (count M.floor d (M.floor.end d e)) (M.cap d (M.floor.end d e)) (trays M f d (M.floor.end d e))
    (place M.floor d (M.floor.end d e) e)) (place M.floor d (M.floor.end d e) g)

-- x, being scanned, gives its label to y. A lane gives nothing to itself: it has its label
unfoldable pub ruled : Meaning → (ℕ → ℕ) → State → State → Bool
-- level 1: + for each lane out of the stock that is not full there
ruled M f (Pole false) (Plus g) = stock M.floor == M.floor.end leaving g && not (full M f leaving g)
ruled M f (Pole false) (Pole c) = false
ruled M f (Pole false) (Minus g) = false
ruled M f (Pole true) y = false
-- a + lane into the despatch that is not full there ends the path
ruled M f (Plus e) (Pole true) = M.floor.end entering e == despatch M.floor && not (full M f entering e)
ruled M f (Plus e) (Pole false) = false
-- a + lane that is not full opens the station that it enters: + for a lane out that is not full there ..
ruled M f (Plus e) (Plus g) =
    (M.floor.end entering e == M.floor.end leaving g) && (not (full M f entering e) && not (full M f leaving g))
-- .. and - for a lane in that carries trays; one that is full gives - to its tight set
ruled M f (Plus e) (Minus g) =
    (M.floor.end entering e == M.floor.end entering g)
    && (not (e == g) && cond (full M f entering e) (in_tight M f entering e g) (nat_lt 0 (f g)))
-- a - lane opens the station that it leaves: + for a lane out that is not full there; and one that is full there gives + to each
-- lane whose tight set contains it ..
ruled M f (Minus e) (Plus g) =
    (M.floor.end leaving e == M.floor.end leaving g)
    && (not (e == g) && cond (full M f leaving g) (full M f leaving e && in_tight M f leaving g e) true)
-- .. and - for a lane in that carries trays
ruled M f (Minus e) (Minus g) = M.floor.end leaving e == M.floor.end entering g && nat_lt 0 (f g)
ruled M f (Minus e) (Pole c) = false

-- a - lane carries trays
abbrev pub Carries : (ℕ → ℕ) → State → Type 0
Carries f (Pole b) = Unit {0}
Carries f (Plus e) = Unit {0}
Carries f (Minus e) = 0 < f e

-- the rules give where the pair lets an amount through, and nowhere else
abbrev pub RulesGive : Type 0
RulesGive =
    (M : Meaning) (f : ℕ → ℕ) → Lawful M → Fits M f → (x y : State) → OnFloor M x → OnFloor M y → Carries f x
    → (ruled M f x y ≡ true → Residual M f x y × Carries f y) × (Residual M f x y → ruled M f x y ≡ true)
