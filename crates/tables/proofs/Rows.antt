-- The rows that are read of tables.
use Rattle.std.proofs.Common.{◌≡◌, ℕ, ◌<◌, Bool, get_or, vec_items, vec_len, refl, arith}
use mathlib.Core.Path.{subst⁻¹}
use Rattle.std.proofs.lemmas.List.{get_or_read}
use Rattle.std.proofs.lemmas.Bool.{eq-eqb}
use Rattle.floor.specs.Floor.{count}
use Rattle.floor.proofs.Places.{place_below}
use Rattle.tables.specs.Parts.{end_in, lane_in}
use Rattle.tables.specs.Tables.{meaning_in}
use Rattle.tables.specs.declared.tables.Tables.{Tables}
use Rattle.tables.specs.declared.tables.TableLane.{TableLane}

-- the ends of a lane are at stations
pub station_on : (t : Tables) (d : Bool) (e : ℕ) (row : TableLane) → row ≡ get_or (vec_items t.lanes) e row → e < vec_len t.lanes
    → (end_in d row).station < t.stations
station_on t d e row r l =
    subst⁻¹ (λ (v : TableLane). (end_in d v).station < t.stations) (get_or_read (vec_items t.lanes) e row (omega (arith, t.lanes.ok.0)) r _)
    (t.ends_on d e l)

-- a lane has its position among those of the side where it ends
pub position_on : (t : Tables) (d : Bool) (e : ℕ) (row : TableLane) → row ≡ get_or (vec_items t.lanes) e row → e < vec_len t.lanes
    → (end_in d row).position < count (meaning_in t).floor d ((meaning_in t).floor.end d e)
position_on t d e row r l =
    let F = (meaning_in t).floor in
    let i = F.end d e in
    let low : e < F.lanes = omega (arith, t.lanes.ok.0) in
    let held : (end_in d (lane_in (vec_items t.lanes) e)).position < count F d i =
    omega (arith, t.ends_placed d e l, place_below F d i e low (eq-eqb i i refl)) in
    subst⁻¹ (λ (v : TableLane). (end_in d v).position < count F d i) (get_or_read (vec_items t.lanes) e row low r _) held
