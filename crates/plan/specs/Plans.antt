-- What a plan above a plant does at a call.
use Rattle.std.specs.Prelude.{◌≡◌, [], ◌∷◌}
use Rattle.floor.specs.Meaning.{Meaning}
use Rattle.tables.specs.Agreement.{Agrees}
use Rattle.tables.specs.Tables.{meaning_in}
use Rattle.calls.specs.Events.{Event, History}
use Rattle.calls.specs.Does.{Held, opened, Does}
use Rattle.calls.specs.Kept.{Kept}
use Rattle.planner.specs.Planning.{held_in, Did}
use Rattle.planner.specs.declared.planner.Planner.{Planner}
use Rattle.plan.specs.declared.plan.Plan.{Plan}

-- what a plan holds, without the plant that it stands on
abbrev pub state : {P : Type 0} → Plan P → Held
state p = held_in p.planner

-- tables that tell the floor and the caps that M means, with no trays on them
pub record Planned (M : Meaning) (p : Planner) : Type 0 where
  pub told : Agrees M (meaning_in p.tables)
  pub empty : held_in p ≡ opened M

-- M says what a plant means
module _ {P : Type 0} (M : P → Meaning) where
  -- the plan's tables tell what its plant means. So it is of every plan that was opened, and stays at every call
  abbrev pub Knows : Plan P → Type 0
  Knows p = Agrees (M p.plant) (meaning_in p.planner.tables)

  -- p is a plan that was just opened above the plant
  pub record Opens (plant : P) (p : Plan P) : Type 0 where
    pub same : p.plant ≡ plant
    pub knows : Knows p
    pub empty : state p ≡ opened (M plant)
    pub law : Kept (M plant) [] (state p)

  -- over the plant's meaning the event e did what the rules say to the plan p and left q, and whatever the plan had met before,
  -- the promise that was kept by that history is kept with e too
  pub record DoesRight (p : Plan P) (e : Event) (q : Plan P) : Type 0 where
    pub knows : Knows q
    pub does : Does (M p.plant) (state p) e (state q)
    pub law : (h : History) → Kept (M p.plant) h (state p) → Kept (M p.plant) (e ∷ h) (state q)

  -- the plan p met the event e, and is now q: the plant is the same, the call did what the rules say over what the tables tell,
  -- and so over what the plant means
  pub record Meets (p : Plan P) (e : Event) (q : Plan P) : Type 0 where
    pub same : q.plant ≡ p.plant
    pub did : Did p.planner e q.planner
    pub right : Knows p → DoesRight p e q
