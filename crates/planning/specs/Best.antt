-- A plan that carries the most, and its listing.
use Rattle.std.specs.Prelude.{◌≡◌, ℕ, ◌<◌, true, List, [], ◌∷◌, length, replicate}
use Rattle.floor.specs.Meaning.{Meaning}
use Rattle.network.specs.Plans as plans
use Rattle.network.specs.Plans.{Feasible}
use Rattle.labelling.specs.Steps.{Move, made_all}
use Rattle.calls.specs.Events.{at, ran}
use Rattle.calls.specs.Does.{tray_list, lane_byte, station_byte}
use Rattle.calls.specs.Kept.{Kept}
use Rattle.calls.specs.Law.{RightMoves, NoPlanCarriesMore, ShowsCut}
use Rattle.planlines.specs.PlanLines as shown
use Rattle.plan.specs.Plans.{state, Knows}
use Rattle.plan.specs.declared.plan.Plan.{Plan}

-- no trays on any lane
abbrev pub none : Meaning → ℕ → ℕ
none M = at (replicate M.floor.lanes 0)

-- what is told of a plan that carries the most: moves lead to its trays from none, each along the first shortest augmenting path by
-- its amount; no plan carries more; and the bytes show the cut of its labels, whose capacity is the trays carried
pub record BestTold (M : Meaning) (total moves : ℕ) (trays lanes stations : List ℕ) : Type 0 where
  pub made_by : List Move
  pub right : RightMoves M (none M) made_by
  pub counted : moves ≡ length made_by
  pub one_each : length trays ≡ M.floor.lanes
  pub changed : (e : ℕ) → e < M.floor.lanes → at trays e ≡ made_all made_by (none M) e
  pub feasible : Feasible M (at trays)
  pub carried : total ≡ plans.total M (at trays)
  pub best : NoPlanCarriesMore M (at trays)
  pub lanes_told : lanes ≡ tray_list M.floor.lanes (lane_byte M (at trays))
  pub stations_told : stations ≡ tray_list M.floor.stations (station_byte M (at trays))
  pub cut : ShowsCut M (at trays) lanes stations

-- the listing of such a plan
pub record BestLines (M : Meaning) (lines : List ℕ) : Type 0 where
  pub total : ℕ
  pub moves : ℕ
  pub trays : List ℕ
  pub lanes : List ℕ
  pub stations : List ℕ
  pub shown : lines ≡ shown.plan_lines total moves trays lanes stations
  pub told : BestTold M total moves trays lanes stations

-- a plan above the plant that met one run alone, which ended finished
pub record EndedPlan {P : Type 0} (M : P → Meaning) (plant : P) (p : Plan P) : Type 0 where
  pub same : p.plant ≡ plant
  pub knows : Knows M p
  pub budget : ℕ
  pub moves : ℕ
  pub kept : Kept (M plant) (ran budget moves true ∷ []) (state p)
