-- What a call on the tables of a plant does.
use Rattle.std.specs.Prelude.{◌≡◌, ℕ, ◌<◌, ◌≤◌, List, map, length, vec_items, slice_index}
use Rattle.floor.specs.Numbers.{most_lanes, top_cap}
use Rattle.labels.specs.declared.SignedLane.{SignedLane}
use Rattle.labels.specs.Labels.{signed_state}
use Rattle.moves.specs.Paths.{Among}
use Rattle.tables.specs.Tables.{meaning_in}
use Rattle.tables.specs.declared.tables.Tables.{Tables}
use Rattle.calls.specs.Events.{Event}
use Rattle.calls.specs.Does.{Held, held, opened, Does}
use Rattle.planner.specs.declared.planner.Planner.{Planner}

-- what a plan holds
abbrev pub held_in : Planner → Held
held_in p = held (vec_items p.trays) p.moves p.finished

-- p is a plan that was just opened on the tables t
pub record Opened (t : Tables) (p : Planner) : Type 0 where
  pub same : p.tables ≡ t
  pub empty : held_in p ≡ opened (meaning_in t)

-- the amount can be moved along the path with no number too large: the path is on the floor and no longer than a floor has lanes,
-- and neither the amount nor the trays of a lane are above the top cap
pub record Movable (path : List SignedLane) (amount : ℕ) (trays : List ℕ) : Type 0 where
  pub among : Among (length trays) (map signed_state path)
  pub short : length path ≤ most_lanes
  pub little : amount ≤ top_cap
  pub capped : (e : ℕ) → e < length trays → slice_index trays e ≤ top_cap

-- the event e happened to the plan p, and left q: what the call does over the floor and the caps that the tables mean; the tables
-- stay as they are
pub record Did (p : Planner) (e : Event) (q : Planner) : Type 0 where
  pub same : q.tables ≡ p.tables
  pub does : Does (meaning_in p.tables) (held_in p) e (held_in q)
