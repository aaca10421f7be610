-- The labels that a program holds, as marks of the labelling.
use Rattle.std.specs.Prelude.{ℕ, ◌<◌, Bool, true, false, cond, List, map, Some, None, vec_items, vec_len, Option, ◌==◌, nat_lt}
use Rattle.network.specs.States.{State, Pole, Plus, Minus}
use Rattle.labelling.specs.Table.{Mark, Blank, Given, signed, Outcome, Ended, Finished}
use Rattle.labels.specs.declared.Sign.{Sign}
use Rattle.labels.specs.declared.Sign.TheVariants as sign
use Rattle.labels.specs.declared.SignedLane.{SignedLane}
use Rattle.labels.specs.declared.Label.{Label}
use Rattle.labels.specs.declared.LabelTable.{LabelTable}

-- whether a sign is +
abbrev pub is_plus : Sign → Bool
is_plus sign.Plus = true
is_plus sign.Minus = false

-- the sign that is + at true
abbrev pub sign_of : Bool → Sign
sign_of true = sign.Plus
sign_of false = sign.Minus

-- a signed lane as a state
abbrev pub signed_state : SignedLane → State
signed_state s = signed (is_plus s.sign) s.lane

-- what is scanned: a signed lane, or the start
abbrev pub from_state : Option SignedLane → State
from_state None = Pole false
from_state (Some s) = signed_state s

-- a signed lane, if there is one, is among the first m lanes
abbrev pub Known : ℕ → Option SignedLane → Type 0
Known m None = Unit {0}
Known m (Some s) = s.lane < m

-- the sign that x, being scanned, gives to lane y
abbrev pub gift : (State → State → Bool) → State → ℕ → Option Sign
gift r x y = cond (r x (Plus y)) (Some sign.Plus) (cond (r x (Minus y)) (Some sign.Minus) None)

-- a lane's label as a mark
abbrev pub mark_of : Option Label → Mark
mark_of None = Blank
mark_of (Some l) = Given (is_plus l.sign) (from_state l.name) l.level

-- the marks of a table
abbrev pub marks : List (Option Label) → List Mark
marks t = map mark_of t

-- the marks of a program's table
abbrev pub marks_in : LabelTable → List Mark
marks_in t = marks (vec_items t.labels)

-- the number of lanes of a program's table
abbrev pub lanes_in : LabelTable → ℕ
lanes_in t = vec_len t.labels

-- the sign of a mark of level l
abbrev pub sign_at : ℕ → Mark → Option Sign
sign_at l Blank = None
sign_at l (Given s x k) = cond (k == l) (Some (sign_of s)) None

-- the sign of a mark, if it is a label
abbrev pub sign_in : Mark → Option Sign
sign_in Blank = None
sign_in (Given s x k) = Some (sign_of s)

-- the sign of a label, if there is one
abbrev pub label_sign : Option Label → Option Sign
label_sign None = None
label_sign (Some l) = Some l.sign

-- a lane with the sign of its label
abbrev pub signed_by : Label → ℕ → SignedLane
signed_by l e = record { lane = e; sign = l.sign }

-- the lane that a search among m lanes came to, if it found one
abbrev pub found : ℕ → ℕ → Option ℕ
found m e = cond (nat_lt e m) (Some e) None

-- how a labelling came out that leaves the marks t: with a level and a lane, or finished
abbrev pub came_out : Option (ℕ × ℕ) → List Mark → Outcome
came_out None t = Finished t
came_out (Some p) t = Ended p.0 p.1 t
