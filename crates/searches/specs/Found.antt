-- What a search finds.
use Rattle.std.specs.Prelude.{◌≡◌, ℕ, ◌≤◌, List, map, length, Some, None, vec_items, Option}
use Rattle.std.proofs.Math.Option as option
use Rattle.floor.specs.Meaning.{Meaning}
use Rattle.labelling.specs.Steps.{Move, step, labels}
use Rattle.calls.specs.Does.{tray_list, lane_byte, station_byte}
use Rattle.labels.specs.Labels.{marks_in, signed_state}
use Rattle.cuts.specs.Cut.{EnteringRooms}
use Rattle.searches.specs.declared.search.Search.{Search}

-- the move along the path that is kept, by an amount
abbrev pub kept_move : Search → ℕ → Move
kept_move s n = record { lanes = map signed_state (vec_items s.path); amount = n }

-- the labels that are kept are those of the trays f, and so are the rooms where lanes enter: the cut can be read off them
pub record Ready (M : Meaning) (f : ℕ → ℕ) (s : Search) : Type 0 where
  pub labelled : marks_in s.labels ≡ labels M f
  pub measured : EnteringRooms M f (vec_items s.rooms)

-- a search at the trays f finds the move of a step, which has no more lanes than the floor, or that there is none, and then the
-- cut can be read
abbrev pub Found : Meaning → (ℕ → ℕ) → Option ℕ → Search → Type 0
Found M f (Some n) s = (step M f ≡ option.some (kept_move s n)) × (length (vec_items s.path) ≤ M.floor.lanes)
Found M f None s = (step M f ≡ option.none) × Ready M f s

-- the bytes are those that a plan tells of its cut at the trays f
pub record CutShown (M : Meaning) (f : ℕ → ℕ) (lanes stations : List ℕ) : Type 0 where
  pub lanes_told : lanes ≡ tray_list M.floor.lanes (lane_byte M f)
  pub stations_told : stations ≡ tray_list M.floor.stations (station_byte M f)
