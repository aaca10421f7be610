-- The calls on a plan: each with what it was given and what it answered, its buffers before and after included.
use Rattle.std.specs.Prelude.{ℕ, suc, ◌+◌, Bool, true, false, List, [], ◌∷◌, replicate, Some, None, Ok, Err, Option, Result, slice_index}
use Rattle.floor.specs.Meaning.{Meaning}
use Rattle.calls.specs.declared.Unfit.{Unfit}

-- taken, or refused
abbrev pub Answer : Type 0
Answer = Result (Unit {0}) Unfit

pub data Event : Type 0 where
  -- a load of these trays
  loaded : (given : List ℕ) (answer : Answer) → Event
  -- a step: the amount of its move and how many lanes it has, or nothing, finished
  stepped : (answer : Option (ℕ × ℕ)) → Event
  -- a run with a budget of steps: how many moves it made, and whether the plan was then finished
  ran : (budget own : ℕ) (finished : Bool) → Event
  -- the readings; a buffer as it was before, and as it was after
  told_total : (n : ℕ) → Event
  told_moves : (n : ℕ) → Event
  told_trays : (before : List ℕ) (answer : Answer) (after : List ℕ) → Event
  told_cut : (lanes stations : List ℕ) (answer : Answer) (lanes_after stations_after : List ℕ) → Event

-- the newest first
abbrev pub History : Type 0
History = List Event

-- trays as a list, one number for each lane; past its end there are none
abbrev pub at : List ℕ → ℕ → ℕ
at xs e = slice_index xs e

-- the trays of the last accepted load, or none where there was none
abbrev pub base : Meaning → History → List ℕ
base M [] = replicate M.floor.lanes 0
base M (loaded xs (Ok _) ∷ h) = xs
base M (loaded xs (Err e) ∷ h) = base M h
base M (stepped r ∷ h) = base M h
base M (ran b n f ∷ h) = base M h
base M (told_total n ∷ h) = base M h
base M (told_moves n ∷ h) = base M h
base M (told_trays xs r ys ∷ h) = base M h
base M (told_cut ls ss r ls' ss' ∷ h) = base M h

-- how many moves were answered since
abbrev pub since : History → ℕ
since [] = 0
since (loaded xs (Ok _) ∷ h) = 0
since (loaded xs (Err e) ∷ h) = since h
since (stepped (Some p) ∷ h) = suc (since h)
since (stepped None ∷ h) = since h
since (ran b n f ∷ h) = since h + n
since (told_total n ∷ h) = since h
since (told_moves n ∷ h) = since h
since (told_trays xs r ys ∷ h) = since h
since (told_cut ls ss r ls' ss' ∷ h) = since h

-- finished was answered since
abbrev pub marked : History → Bool
marked [] = false
marked (loaded xs (Ok _) ∷ h) = false
marked (loaded xs (Err e) ∷ h) = marked h
marked (stepped (Some p) ∷ h) = false
marked (stepped None ∷ h) = true
marked (ran b n f ∷ h) = f
marked (told_total n ∷ h) = marked h
marked (told_moves n ∷ h) = marked h
marked (told_trays xs r ys ∷ h) = marked h
marked (told_cut ls ss r ls' ss' ∷ h) = marked h
