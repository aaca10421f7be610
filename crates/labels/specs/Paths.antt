-- The names in a table of marks, and the path that they lead along.
use Rattle.std.specs.Prelude.{◌≡◌, ℕ, zero, suc, ◌-◌, ◌<◌, ◌≤◌, true, false, List, [], ◌∷◌, Some, None, Option}
use Rattle.network.specs.States.{State, Pole, Plus, Minus, lane_number}
use Rattle.labelling.specs.Table.{Mark, Blank, Given, mark, name_of}

-- a mark's level; a lane without a label has none
abbrev pub level_of : Mark → ℕ
level_of Blank = 0
level_of (Given s x k) = k

-- a state that can be named at level i: a lane that has a label there, or the start at level 0
abbrev pub Lies : List Mark → ℕ → State → Type 0
Lies t i (Pole false) = i ≡ 0
Lies t i (Pole true) = ⊥
Lies t i (Plus e) = (level_of (mark t e) ≡ i) × (0 < i)
Lies t i (Minus e) = (level_of (mark t e) ≡ i) × (0 < i)

-- each name lies one level lower than its label
abbrev pub Falls : List Mark → Type 0
Falls t = (y : ℕ) → 0 < level_of (mark t y) → Lies t (level_of (mark t y) - 1) (name_of (mark t y))

-- the states from x back along the names, n of them
abbrev pub trail : ℕ → List Mark → State → List State
trail zero t x = []
trail (suc n) t x = x ∷ trail n t (name_of (mark t (lane_number x)))

-- how a labelling of m lanes ends that ends with a path: the last lane has a label of the level, and there are no more levels than lanes
abbrev pub EndedAt : ℕ → Option (ℕ × ℕ) → List Mark → Type 0
EndedAt m None t = Unit {0}
EndedAt m (Some p) t = (level_of (mark t p.1) ≡ p.0) × (0 < p.0) × (p.0 ≤ m) × (p.1 < m)
