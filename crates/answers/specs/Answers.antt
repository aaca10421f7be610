-- What a file plant looks up to answer a question.
use Rattle.std.specs.Prelude.{◌≡◌, ℕ, ◌<◌, ◌≤◌, List, map, length, Some, None, vec_items, Option, slice_index}
use Rattle.floor.specs.Numbers.{most_on_side}
use Rattle.floor.specs.Floor.{Floor, width, end_of, station_of, lane_at}
use Rattle.plantformat.specs.Records as format
use Rattle.plantformat.specs.Records.{own_at, cap_by, limit_of}
use Rattle.limits.specs.Told.{told}
use Rattle.limits.specs.declared.Limit.{Limit}
use Rattle.answers.specs.Content.{file_meaning}
use Rattle.answers.specs.declared.file_plant.FilePlant.{FilePlant}

-- the first numbers of a list, as many as the count, are the lanes of a side by position
pub record Lists (F : Floor) (s : ℕ) (numbers : List ℕ) (count : ℕ) : Type 0 where
  pub few : count ≤ most_on_side
  pub all : count ≡ width F s
  pub each : (p : ℕ) → p < width F s → slice_index numbers p ≡ lane_at F (end_of s) (station_of s) p

-- the own caps of the lanes of a side of a file plant, by position
abbrev pub owns : FilePlant → ℕ → ℕ → ℕ
owns f s p = own_at f.head (vec_items f.lanes) (end_of s) (station_of s) p

-- the list has these own caps
pub record Owns (f : FilePlant) (s : ℕ) (xs : List ℕ) : Type 0 where
  pub long : length xs ≡ width (file_meaning f).floor s
  pub each : (p : ℕ) → p < length xs → slice_index xs p ≡ owns f s p

-- the cap of a set of a side of a file plant, by its limit
abbrev pub limit_cap : FilePlant → ℕ → Option format.Limit → ℕ → ℕ
limit_cap f s k X = cap_by (width (file_meaning f).floor s) (owns f s) k X

-- the cap of a set of a side of a file plant, by the limit that it has
abbrev pub side_cap : FilePlant → ℕ → ℕ → ℕ
side_cap f s X = limit_cap f s (limit_of s (map told (vec_items f.limits))) X

-- a limit that was looked up, as the definitions of the format see it
abbrev pub limit_seen : Option Limit → Option format.Limit
limit_seen None = None
limit_seen (Some l) = Some (told l)
