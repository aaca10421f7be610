-- The labelling: a table of labels, made level by level, for any test r of who gives a label to whom; and the path read back.
use Rattle.std.specs.Prelude.{ℕ, zero, suc, ◌-◌, Bool, true, false, cond, not, ◌&&◌, List, [], ◌∷◌, ◌==◌, nat_lt, slice_index_or}
use Rattle.polymatroid.specs.Finite.{first}
use Rattle.network.specs.States.{State, Pole, Plus, Minus}

-- a lane's label: its sign (true is +), the state that was scanned when it was given, its level
pub data Mark : Type 0 where
  Blank : Mark
  Given : Bool → State → ℕ → Mark

-- lane e with a sign
abbrev pub signed : Bool → ℕ → State
signed true e = Plus e
signed false e = Minus e

-- the label of lane e
unfoldable pub mark : List Mark → ℕ → Mark
mark t e = slice_index_or t e Blank

-- a label of level l
abbrev pub is_at : ℕ → Mark → Bool
is_at l Blank = false
is_at l (Given s x k) = k == l

-- lane e with the sign of its label
abbrev pub state_of : ℕ → Mark → State
state_of e Blank = Pole true
state_of e (Given s x k) = signed s e

-- the label of lane y after x has been scanned: a lane that has one keeps it
abbrev pub give : (State → State → Bool) → State → ℕ → ℕ → Mark → Mark
give r x l y Blank = cond (r x (Plus y)) (Given true x l) (cond (r x (Minus y)) (Given false x l) Blank)
give r x l y (Given s z k) = Given s z k

-- the label of lane y after those lanes below n that are of level l have been scanned in their order
unfoldable pub scanned : (State → State → Bool) → List Mark → ℕ → ℕ → ℕ → Mark
scanned r t l zero y = mark t y
scanned r t l (suc e) y =
    cond (is_at l (mark t e)) (give r (state_of e (mark t e)) (suc l) y (scanned r t l e y)) (scanned r t l e y)

-- the list of h at k, k + 1, .., n of them
unfoldable pub listed : (ℕ → Mark) → ℕ → ℕ → List Mark
listed h zero k = []
listed h (suc n) k = h k ∷ listed h n (suc k)

-- the table after the scan of level l; level 0 is the start
unfoldable pub pass : (State → State → Bool) → ℕ → ℕ → List Mark → List Mark
pass r m zero t = listed (λ y. give r (Pole false) 1 y (mark t y)) m 0
pass r m (suc l) t = listed (scanned r t (suc l) m) m 0

-- the table with the levels up to l
unfoldable pub table_up_to : (State → State → Bool) → ℕ → ℕ → List Mark
table_up_to r m zero = []
table_up_to r m (suc l) = pass r m l (table_up_to r m l)

-- the lowest lane of level l that ends a path, or m
unfoldable pub ending_lane : (State → State → Bool) → ℕ → ℕ → List Mark → ℕ
ending_lane r m l t = first (λ e. is_at l (mark t e) && r (state_of e (mark t e)) (Pole true)) m

-- a lane of level l, or m
unfoldable pub lane_of_level : ℕ → ℕ → List Mark → ℕ
lane_of_level m l t = first (λ e. is_at l (mark t e)) m

-- how a labelling comes out: with a path of l lanes that ends in lane e, or finished
pub data Outcome : Type 0 where
  Ended : ℕ → ℕ → List Mark → Outcome
  Finished : List Mark → Outcome

-- after level l: a path, or an empty level, or the next level
unfoldable pub label_from : (State → State → Bool) → ℕ → ℕ → ℕ → List Mark → Outcome
label_from r m zero l t = Finished t
label_from r m (suc n) l t =
    cond (nat_lt (ending_lane r m l t) m) (Ended l (ending_lane r m l t) t) (cond (nat_lt (lane_of_level m l t) m) (label_from r m n (suc l) (pass r m l t)) (Finished t))

-- the labelling of m lanes; each level but the last has a lane, so that m + 1 levels suffice
unfoldable pub label : (State → State → Bool) → ℕ → Outcome
label r m = label_from r m (suc m) 1 (table_up_to r m 1)

-- the state before x, by the names; the end's name is the lane that ends the path
abbrev pub name_of : Mark → State
name_of Blank = Pole false
name_of (Given s x k) = x

unfoldable pub name : ℕ → List Mark → State → State
name e t (Pole false) = Pole false
name e t (Pole true) = state_of e (mark t e)
name e t (Plus g) = name_of (mark t g)
name e t (Minus g) = name_of (mark t g)

-- the path read back from the end: k states before it
unfoldable pub back : ℕ → List Mark → ℕ → State
back e t zero = Pole true
back e t (suc k) = name e t (back e t k)

-- the states of a path of l lanes, the start and the end with it
unfoldable pub path : ℕ → ℕ → List Mark → ℕ → State
path l e t i = back e t (suc l - i)

-- a label with +, and one with -
abbrev pub is_plus : Mark → Bool
is_plus Blank = false
is_plus (Given s x k) = s

abbrev pub is_minus : Mark → Bool
is_minus Blank = false
is_minus (Given s x k) = not s
