-- The bytes that are written of a cut are those that a plan tells.
use Rattle.std.proofs.Common.{◌≡◌, ℕ, ◌<◌, List, length, get_or, sym, ◌∙◌, arith}
use Rattle.std.proofs.lemmas.List.{ext_get_or}
use Rattle.floor.specs.Meaning.{Meaning, Lawful}
use Rattle.labelling.specs.Table.{Mark}
use Rattle.labelling.specs.Steps.{labels}
use Rattle.calls.specs.Does.{tray_list, lane_byte, station_byte}
use Rattle.calls.proofs.SameTrays.{listed_length, listed_at}
use Rattle.cuts.specs.Cut.{near_byte, byte_near, cut_byte}
use Rattle.cuts.proofs.Bytes.{cut_bytes}
use Rattle.searches.specs.Found.{CutShown}

-- a list that has the value of h at every number below m
pub list_is : (m : ℕ) (h : ℕ → ℕ) (xs : List ℕ) → length xs ≡ m → ((i : ℕ) → i < m → get_or xs i 0 ≡ h i) → xs ≡ tray_list m h
list_is m h xs len each =
    ext_get_or 0 xs (tray_list m h) (len ∙ sym (listed_length m h)) (λ i l. each i (omega arith) ∙ sym (listed_at m h i (omega arith)))

pub cut_shown : (M : Meaning) (laws : Lawful M) (f : ℕ → ℕ) (t : List Mark) (lanes stations : List ℕ) → t ≡ labels M f → length lanes ≡ M.floor.lanes
    → length stations ≡ M.floor.stations → ((i : ℕ) → i < M.floor.stations → get_or stations i 0 ≡ near_byte M f t i)
    → ((e : ℕ) → e < M.floor.lanes → get_or lanes e 0 ≡ cut_byte M (byte_near stations) t e) → CutShown M f lanes stations
cut_shown M laws f t lanes stations labelled all_lanes all_stations near sides =
    let told = cut_bytes M f stations t labelled near in
    record {
      lanes_told = list_is M.floor.lanes (lane_byte M f) lanes all_lanes (λ e l. sides e l ∙ told.1 e (λ d. laws.rules.end_on d e l));
      stations_told = list_is M.floor.stations (station_byte M f) stations all_stations told.0;
    }
