-- The scan of a level as a program makes it: the table changes as each lane of the level is scanned.
use Rattle.std.specs.Prelude.{◌≡◌, ℕ, zero, suc, ◌<◌, ◌≤◌, Bool, cond, List}
use Rattle.network.specs.States.{State}
use Rattle.labelling.specs.Table.{Mark, mark, is_at, state_of, give, scanned, listed}

-- the table after the scan of lane e
abbrev pub scan : (State → State → Bool) → ℕ → ℕ → ℕ → List Mark → List Mark
scan r m l e t = cond (is_at l (mark t e)) (listed (λ y. give r (state_of e (mark t e)) (suc l) y (mark t y)) m 0) t

-- after the scan of the lanes below n
unfoldable pub swept : (State → State → Bool) → ℕ → ℕ → ℕ → List Mark → List Mark
swept r m l zero t = t
swept r m l (suc e) t = scan r m l e (swept r m l e t)

-- it comes to the same
abbrev pub SweepsAgree : Type 0
SweepsAgree =
    (r : State → State → Bool) (m l : ℕ) (t : List Mark) (n : ℕ) → n ≤ m → (y : ℕ) → y < m → mark (swept r m l n t) y ≡ scanned r t l n y
