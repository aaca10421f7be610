-- The lines that show a plant, and the line that tells a refusal, as bytes.
use Rattle.std.specs.Prelude.{◌≡◌, ℕ, zero, suc, ◌^◌, cond, List, [], ◌++◌, codes, decimal, Result, OnOk, ◌==◌}
use Rattle.floor.specs.Floor.{Floor, stock, despatch, leaving, entering, sides, width, end_of, station_of, lane_at}
use Rattle.floor.specs.Meaning.{Meaning}
use Rattle.plant.specs.declared.refusals.Refusal.{Refusal}
use Rattle.plant.specs.Refusals.{refusal_words}

-- what f says of 0, of 1, and so on, n times, one after another
abbrev pub each : ℕ → (ℕ → List ℕ) → List ℕ
each zero f = []
each (suc n) f = each n f ++ f n

-- the text stands after what was there before, unless adding it failed
abbrev pub Adds : {X E : Type 0} → List ℕ → List ℕ → List ℕ → Result X E → Type 0
Adds text before after r = OnOk r (after ≡ before ++ text)

-- a number after a space
abbrev pub spaced : ℕ → List ℕ
spaced n = codes " " ++ decimal n

-- ---- a plant

-- how many stations and lanes there are, and which stations are the stock and the despatch
unfoldable pub floor_line : Floor → List ℕ
floor_line F =
    codes "stations " ++ decimal F.stations ++ codes " lanes " ++ decimal F.lanes ++ codes " stock " ++ decimal (stock F)
    ++ codes " despatch " ++ decimal (despatch F) ++ codes "\n"

-- the station that a lane leaves, and the one that it enters
abbrev pub lane_line : Floor → ℕ → List ℕ
lane_line F e = codes "lane " ++ decimal e ++ codes " from " ++ decimal (F.end leaving e) ++ codes " to " ++ decimal (F.end entering e) ++ codes "\n"

-- a line for each lane
abbrev pub lane_lines : Floor → List ℕ
lane_lines F = each F.lanes (lane_line F)

-- the lanes of a side, by position
abbrev pub lanes_on : Floor → ℕ → List ℕ
lanes_on F s = each (width F s) (λ p. spaced (lane_at F (end_of s) (station_of s) p))

-- the caps of the sets of a side's lanes, in order of code
abbrev pub caps_on : Meaning → ℕ → List ℕ
caps_on M s = each (2 ^ width M.floor s) (λ X. spaced (M.cap (end_of s) (station_of s) X))

-- a side's lanes and caps
abbrev pub side_line : Meaning → ℕ → List ℕ
side_line M s = codes "side " ++ decimal s ++ codes " lanes" ++ lanes_on M.floor s ++ codes " caps" ++ caps_on M s ++ codes "\n"

-- the line of a side, if it has lanes
abbrev pub side_shown : Meaning → ℕ → List ℕ
side_shown M s = cond (width M.floor s == 0) [] (side_line M s)

-- a line for each side that has lanes
abbrev pub side_lines : Meaning → List ℕ
side_lines M = each (sides M.floor) (side_shown M)

-- a line for the floor, one for each lane, and one for each side that has lanes
abbrev pub plant_lines : Meaning → List ℕ
plant_lines M = floor_line M.floor ++ lane_lines M.floor ++ side_lines M

-- ---- a refusal

-- what is refused, and the words of the refusal
abbrev pub refusal_line : List ℕ → Refusal → List ℕ
refusal_line source r = codes "refused " ++ (source ++ (codes " " ++ (refusal_words r ++ codes "\n")))
