-- The lines that show a plan, as bytes.
use Rattle.std.specs.Prelude.{ℕ, cond, List, [], ◌∷◌, ◌++◌, length, codes, decimal, ◌==◌, slice_index, slice_index_or}
use Rattle.listing.specs.Lines.{each}

-- the trays that leave the stock, and the moves made
abbrev pub total_line : ℕ → ℕ → List ℕ
total_line total moves = codes "trays " ++ decimal total ++ codes " moves " ++ decimal moves ++ codes "\n"

-- a lane, the trays on it, and its byte in the cut as it stands
abbrev pub lane_line : ℕ → ℕ → ℕ → List ℕ
lane_line e trays mark = codes "lane " ++ decimal e ++ codes " carries " ++ decimal trays ++ codes " cut " ++ (mark ∷ []) ++ codes "\n"

-- the byte `-`, shown for a lane that has none
abbrev pub no_mark : ℕ
no_mark = 45

-- a line for each lane that has a number of trays
abbrev pub lane_lines : List ℕ → List ℕ → List ℕ
lane_lines trays marks = each (length trays) (λ e. lane_line e (slice_index trays e) (slice_index_or marks e no_mark))

-- the word for a station's byte: near for 1, far for any other
abbrev pub station_word : ℕ → List ℕ
station_word mark = cond (mark == 1) (codes "near") (codes "far")

-- a station, and whether it is near
abbrev pub station_line : ℕ → ℕ → List ℕ
station_line v mark = codes "station " ++ decimal v ++ codes " " ++ station_word mark ++ codes "\n"

-- a line for each station that has a byte
abbrev pub station_lines : List ℕ → List ℕ
station_lines marks = each (length marks) (λ v. station_line v (slice_index marks v))

-- the totals, then the lanes by their trays and bytes, then the stations by their bytes
abbrev pub plan_lines : ℕ → ℕ → List ℕ → List ℕ → List ℕ → List ℕ
plan_lines total moves trays lanes stations = total_line total moves ++ lane_lines trays lanes ++ station_lines stations
