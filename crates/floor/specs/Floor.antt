-- A floor: stations, and lanes that lead from one station to another. The two ends of a lane go by a test, so that what
-- holds of out sides and of in sides is said once: `leaving` is the end at the station that the lane leaves, `entering` the
-- end at the station that it enters.
use Rattle.std.specs.Prelude.{◌≡◌, ℕ, zero, suc, ◌+◌, ◌*◌, ◌/◌, ◌%◌, ◌<◌, ◌≤◌, Bool, true, false, cond, not, ◌&&◌, ◌==◌, ◌≢◌}
use Rattle.polymatroid.specs.Finite.{first}
use Rattle.floor.specs.Numbers.{most_stations, most_lanes, most_on_side}

abbrev pub leaving : Bool
leaving = false

abbrev pub entering : Bool
entering = true

pub record Floor : Type 0 where
  pub stations : ℕ
  pub lanes : ℕ
  -- the station that trays come from, the stock (leaving), and the one that they go to, the despatch (entering)
  pub pole : Bool → ℕ
  -- the station at an end of a lane
  pub end : Bool → ℕ → ℕ

-- the stock and the despatch
abbrev pub stock : Floor → ℕ
stock F = F.pole leaving

abbrev pub despatch : Floor → ℕ
despatch F = F.pole entering

-- ---- sides

-- station i has an out side, number 2 * i, with the lanes that leave it, and an in side, 2 * i + 1, with those that enter it
abbrev pub side : Bool → ℕ → ℕ
side d i = 2 * i + cond d 1 0

abbrev pub sides : Floor → ℕ
sides F = 2 * F.stations

-- the end that the lanes of a side have there, and the side's station
abbrev pub end_of : ℕ → Bool
end_of s = s % 2 == 1

abbrev pub station_of : ℕ → ℕ
station_of s = s / 2

-- ---- positions: the lanes of a side in lane order

-- lane e has its end d at station i
abbrev pub on : Floor → Bool → ℕ → ℕ → Bool
on F d i e = F.end d e == i

-- how many of the lanes below e have their end d at station i: the position of e there, if e is one of them
unfoldable pub place : Floor → Bool → ℕ → ℕ → ℕ
place F d i zero = 0
place F d i (suc e) = place F d i e + cond (on F d i e) 1 0

-- how many lanes have their end d at station i
abbrev pub count : Floor → Bool → ℕ → ℕ
count F d i = place F d i F.lanes

-- the lane at position p there
unfoldable pub lane_at : Floor → Bool → ℕ → ℕ → ℕ
lane_at F d i p = first (λ e. on F d i e && place F d i e == p) F.lanes

-- how many lanes the side s has
abbrev pub width : Floor → ℕ → ℕ
width F s = count F (end_of s) (station_of s)

-- ---- the rules of a floor

pub record FloorRules (F : Floor) : Type 0 where
  pub two_stations : 2 ≤ F.stations
  pub few_stations : F.stations ≤ most_stations
  pub few_lanes : F.lanes ≤ most_lanes
  pub pole_on : (d : Bool) → F.pole d < F.stations
  pub poles_differ : F.pole leaving ≡ F.pole entering → ⊥
  pub end_on : (d : Bool) (e : ℕ) → e < F.lanes → F.end d e < F.stations
  pub ends_differ : (d : Bool) (e : ℕ) → e < F.lanes → F.end d e ≢ F.end (not d) e
  -- no lane enters the stock or leaves the despatch
  pub poles_clear : (d : Bool) (e : ℕ) → e < F.lanes → F.end (not d) e ≢ F.pole d
  pub narrow : (d : Bool) (i : ℕ) → i < F.stations → count F d i ≤ most_on_side
