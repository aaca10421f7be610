use Rattle.std.proofs.Common.{◌≡◌, ℕ, ◌<◌, length, get_or}
use Rattle.tables.specs.Tables.{meaning_in}
use Rattle.labels.specs.Labels.{marks_in}
use Rattle.cuts.specs.Cut.{byte_near, cut_byte}
use Rattle.cuts.proofs.labelled.LabelledFloor.fill_sides.Given as goal

-- the lanes so far have their bytes
abbrev pub invariant-loop-lane : goal.invariant-loop-lane
invariant-loop-lane l = record {
  all : length l.lanes ≡ length l.initial.lanes;
  each : (e : ℕ) → e < l.lane → get_or l.lanes e 0 ≡ cut_byte (meaning_in l.self.tables.now) (byte_near l.stations) (marks_in l.self.labels.now) e;
}
