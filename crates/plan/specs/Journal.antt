-- A list of calls and the answers to them, as a history.
use Rattle.std.specs.Prelude.{◌≡◌, ℕ, List, [], ◌∷◌, ◌++◌, reverse, vec_items, Option, Vec}
use Rattle.std.specs.declared.alloc.Global.{Global}
use Rattle.floor.specs.Meaning.{Meaning}
use Rattle.calls.specs.Events as event
use Rattle.calls.specs.Events.{Event, History}
use Rattle.calls.specs.Kept.{Kept}
use Rattle.calls.specs.Law.{Promise}
use Rattle.planner.specs.declared.Ran.{Ran}
use Rattle.plan.specs.Plans.{state, Knows}
use Rattle.plan.specs.declared.plan.Plan.{Plan}
use Rattle.plan.specs.declared.journal.Call.{Call}
use Rattle.plan.specs.declared.journal.Call.TheVariants as call
use Rattle.plan.specs.declared.journal.Answer.{Answer}
use Rattle.plan.specs.declared.journal.Answer.TheVariants as answer

-- the call was answered by a, which is the event e
abbrev pub Recorded : Call → Answer → Event → Type 0
Recorded (call.Load xs) a e = (r : event.Answer) × (a ≡ answer.Loaded r) × (e ≡ event.loaded (vec_items xs) r)
Recorded call.Step a e = (r : Option (ℕ × ℕ)) × (a ≡ answer.Stepped r) × (e ≡ event.stepped r)
Recorded (call.Run b) a e = (r : Ran) × (a ≡ answer.Ran r) × (e ≡ event.ran b r.moves r.finished)
Recorded call.Total a e = (n : ℕ) × (a ≡ answer.Total n) × (e ≡ event.told_total n)
Recorded call.Moves a e = (n : ℕ) × (a ≡ answer.Moves n) × (e ≡ event.told_moves n)
Recorded (call.Trays xs) a e =
    (r : event.Answer) × (ys : Vec ℕ Global) × (a ≡ answer.Trays r ys) × (e ≡ event.told_trays (vec_items xs) r (vec_items ys))
Recorded (call.Cut ls ss) a e =
    (r : event.Answer) × (ls' : Vec ℕ Global) × (ss' : Vec ℕ Global) × (a ≡ answer.Cut r ls' ss')
    × (e ≡ event.told_cut (vec_items ls) (vec_items ss) r (vec_items ls') (vec_items ss'))

-- the calls were answered one by one, which are the events, the oldest first
abbrev pub Journal : List Call → List Answer → List Event → Type 0
Journal [] [] [] = Unit {0}
Journal [] [] (e ∷ es) = ⊥
Journal [] (a ∷ bs) es = ⊥
Journal (c ∷ cs) [] es = ⊥
Journal (c ∷ cs) (a ∷ bs) [] = ⊥
Journal (c ∷ cs) (a ∷ bs) (e ∷ es) = Recorded c a e × Journal cs bs es

-- the plan p was given the calls, gave the answers and is now q: the plant is the same, and whatever p had met before, the promise
-- that was kept by that history is kept with these calls too
pub record Replays {P : Type 0} (M : P → Meaning) (p : Plan P) (cs : List Call) (bs : List Answer) (q : Plan P) : Type 0 where
  pub same : q.plant ≡ p.plant
  pub events : List Event
  pub journal : Journal cs bs events
  pub knows : Knows M p → Knows M q
  pub law : Knows M p → (past : History) → Kept (M p.plant) past (state p) → Kept (M p.plant) (reverse events ++ past) (state q)

-- the promise of the calls on a plan that was opened above M, and of their answers
pub record Answered (M : Meaning) (cs : List Call) (bs : List Answer) : Type 0 where
  pub events : List Event
  pub journal : Journal cs bs events
  pub promise : Promise M (reverse events)
