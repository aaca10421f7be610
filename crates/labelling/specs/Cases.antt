-- The three cases of a scan, as the rules list them, and the labels that they give in any order.
use Rattle.std.specs.Prelude.{◌≡◌, ℕ, Bool, true, false, cond, not, ◌&&◌, ◌⊎◌, List, [], ◌∷◌, ◌==◌, nat_lt}
use Rattle.floor.specs.Floor.{leaving, entering}
use Rattle.floor.specs.Meaning.{Meaning}
use Rattle.network.specs.States.{State, Pole, Plus, Minus, at}
use Rattle.labelling.specs.Rules.{full, in_tight, ruled}

pub data Case : Type 0 where
  FullPlus : Case
  FullMinus : Case
  Opening : Case

-- a scanned lane opens the station where it arrives: a + lane if it is not full there, a - lane always
abbrev pub opens : Meaning → (ℕ → ℕ) → State → Bool
opens M f (Pole b) = false
opens M f (Plus e) = not (full M f entering e)
opens M f (Minus e) = true

-- what an opened station gives: + to lanes out that are not full there, - to lanes in that carry trays
abbrev pub taken : Meaning → (ℕ → ℕ) → State → Bool
taken M f (Pole b) = false
taken M f (Plus g) = not (full M f leaving g)
taken M f (Minus g) = nat_lt 0 (f g)

-- by this case the scanned lane x gives the signed lane y its label
unfoldable pub by_case : Meaning → (ℕ → ℕ) → Case → State → State → Bool
-- a + lane full at its in side gives - to its tight set there
by_case M f FullPlus (Plus e) (Minus g) =
    full M f entering e && (M.floor.end entering e == M.floor.end entering g && in_tight M f entering e g)
by_case M f FullPlus (Plus e) (Plus g) = false
by_case M f FullPlus (Plus e) (Pole b) = false
by_case M f FullPlus (Minus e) y = false
by_case M f FullPlus (Pole b) y = false
-- a - lane full at its out side gives + to each lane there whose tight set contains it (one that is not full has none)
by_case M f FullMinus (Minus e) (Plus g) =
    full M f leaving e
    && (M.floor.end leaving e == M.floor.end leaving g && (full M f leaving g && in_tight M f leaving g e))
by_case M f FullMinus (Minus e) (Minus g) = false
by_case M f FullMinus (Minus e) (Pole b) = false
by_case M f FullMinus (Plus e) y = false
by_case M f FullMinus (Pole b) y = false
-- an opening
by_case M f Opening x y = opens M f x && (at M entering x == at M leaving y && taken M f y)

-- the sign that the lane g without a label gets from the scanned x: that of the first case which gives it one
unfoldable pub sign_by : Meaning → (ℕ → ℕ) → List Case → State → ℕ → State
sign_by M f [] x g = Pole true
sign_by M f (c ∷ cs) x g =
    cond (by_case M f c x (Plus g)) (Plus g) (cond (by_case M f c x (Minus g)) (Minus g) (sign_by M f cs x g))

abbrev pub is_plus_lane : State → Bool
is_plus_lane (Pole b) = false
is_plus_lane (Plus e) = true
is_plus_lane (Minus e) = false

abbrev pub is_minus_lane : State → Bool
is_minus_lane (Pole b) = false
is_minus_lane (Plus e) = false
is_minus_lane (Minus e) = true

-- the test of the labelling, with the cases tried in the order of the list. The lane that is scanned has its label
unfoldable pub ruled_by : Meaning → (ℕ → ℕ) → List Case → State → State → Bool
ruled_by M f cs (Pole b) y = ruled M f (Pole b) y
ruled_by M f cs (Plus e) (Pole b) = ruled M f (Plus e) (Pole b)
ruled_by M f cs (Minus e) (Pole b) = ruled M f (Minus e) (Pole b)
ruled_by M f cs (Plus e) (Plus g) = not (e == g) && is_plus_lane (sign_by M f cs (Plus e) g)
ruled_by M f cs (Plus e) (Minus g) = not (e == g) && is_minus_lane (sign_by M f cs (Plus e) g)
ruled_by M f cs (Minus e) (Plus g) = not (e == g) && is_plus_lane (sign_by M f cs (Minus e) g)
ruled_by M f cs (Minus e) (Minus g) = not (e == g) && is_minus_lane (sign_by M f cs (Minus e) g)

-- each of the three is in the list
abbrev pub Listed : Case → List Case → Type 0
Listed c [] = ⊥
Listed c (d ∷ cs) = (c ≡ d) ⊎ Listed c cs
