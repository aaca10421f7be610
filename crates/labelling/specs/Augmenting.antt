-- Augmenting paths, as the rules word them.
use Rattle.std.specs.Prelude.{◌≡◌, ℕ, zero, suc, ◌<◌, ◌≤◌, true, false, List, length, ◌≢◌, slice_index_or}
use Rattle.floor.specs.Floor.{leaving, entering}
use Rattle.floor.specs.Meaning.{Meaning}
use Rattle.network.specs.States.{State, Pole, Plus, Minus, OnFloor, at, lane_number, holder, Residual}
use Rattle.labelling.specs.Rules.{full, in_tight, Carries}

-- Q 1, .., Q k is a row of k distinct lanes, each + or -, from the stock to the despatch; the start Q 0 stands before it,
-- the end Q (k + 1) after it
pub record Augmenting (M : Meaning) (f : ℕ → ℕ) (Q : ℕ → State) (k : ℕ) : Type 0 where
  pub begin : Q 0 ≡ Pole false
  pub finish : Q (suc k) ≡ Pole true
  pub ok : (i : ℕ) → i ≤ suc k → OnFloor M (Q i)
  pub distinct : (i j : ℕ) → i < j → j ≤ suc k → holder (Q i) ≢ holder (Q j)
  -- each begins at the station where the one before it ends
  pub meet : (i : ℕ) → i ≤ k → at M entering (Q i) ≡ at M leaving (Q (suc i))
  -- a - lane carries trays
  pub carries : (i : ℕ) → i ≤ suc k → Carries f (Q i)
  -- a + lane full at its in side is followed, and one full at its out side preceded, by a - lane of its tight set there
  pub followed : (i e : ℕ) → i ≤ k → Q i ≡ Plus e → full M f entering e ≡ true
      → (g : ℕ) × (Q (suc i) ≡ Minus g) × (in_tight M f entering e g ≡ true)
  pub preceded : (i e : ℕ) → i ≤ k → Q (suc i) ≡ Plus e → full M f leaving e ≡ true
      → (g : ℕ) × (Q i ≡ Minus g) × (in_tight M f leaving e g ≡ true)

-- the same row as a path of the residual relation through distinct lanes
pub record ResidualPath (M : Meaning) (f : ℕ → ℕ) (Q : ℕ → State) (k : ℕ) : Type 0 where
  pub begin : Q 0 ≡ Pole false
  pub finish : Q (suc k) ≡ Pole true
  pub distinct : (i j : ℕ) → i < j → j ≤ suc k → holder (Q i) ≢ holder (Q j)
  pub residual : (i : ℕ) → i ≤ k → Residual M f (Q i) (Q (suc i))

-- a list of signed lanes, with the start before it and the end after it
unfoldable pub along : List State → ℕ → State
along p zero = Pole false
along p (suc i) = slice_index_or p i (Pole true)

-- the list is an augmenting path
abbrev pub Augments : Meaning → (ℕ → ℕ) → List State → Type 0
Augments M f p = Augmenting M f (along p) (length p)

-- p comes before q in lane order, compared from the despatch back: where they last differ, p has the lower lane
abbrev pub Before : List State → List State → Type 0
Before p q =
    (i : ℕ) × (i < length p) × ((j : ℕ) → i < j → j < length p → slice_index_or p j (Pole true) ≡ slice_index_or q j (Pole true))
    × (lane_number (slice_index_or p i (Pole true)) < lane_number (slice_index_or q i (Pole true)))
