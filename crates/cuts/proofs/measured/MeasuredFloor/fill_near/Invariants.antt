use Rattle.std.proofs.Common.{◌≡◌, ℕ, ◌<◌, cond, length, get_or}
use Rattle.tables.specs.Tables.{meaning_in}
use Rattle.labels.specs.Labels.{marks_in}
use Rattle.cuts.specs.Cut.{near_by_rooms}
use Rattle.cuts.proofs.measured.MeasuredFloor.fill_near.Given as goal

-- the stations so far have their bytes
abbrev pub invariant-loop-station : goal.invariant-loop-station
invariant-loop-station l = record {
  all : length l.stations ≡ length l.initial.stations;
  each : (i : ℕ) → i < l.station → get_or l.stations i 0 ≡ cond (near_by_rooms (meaning_in l.self.floor.tables.now) l.self.rooms.now (marks_in l.self.floor.labels.now) i) 1 0;
}
