-- Which lines are accepted, what refuses the others, and what the plant of each means.
use Rattle.std.specs.Prelude.{◌≡◌, ℕ, ◌-◌, ◌*◌, Bool, cond, ◌&&◌, List, length, Ok, Err, Result, ◌==◌, nat_le, slice_index}
use Rattle.plant.specs.Refusals.{refusal}
use Rattle.plant.specs.declared.refusals.Reason.{Reason}
use Rattle.plant.specs.declared.refusals.Reason.TheVariants as reason
use Rattle.plant.specs.declared.refusals.Law.TheVariants.{Bends}
use Rattle.plant.specs.declared.refusals.Layer.TheVariants as layer
use Rattle.plant.specs.declared.refusals.Refusal.{Refusal}
use Rattle.floor.specs.Numbers.{most_stations, most_lanes, most_on_side}
use Rattle.floor.specs.Meaning.{Meaning}
use Rattle.linefloor.specs.Line.{line_meaning, grades_low, grades_fall}
use Rattle.arrayvec.specs.ArrayVec.{array_vec_len}
use Rattle.lines.specs.declared.line_plant.LinePlant.{LinePlant}

-- the grades of a list, by their numbers
abbrev pub grade_of : List ℕ → ℕ → ℕ
grade_of gs j = slice_index gs j

-- ---- the verdict

-- a refusal of a line, which has no place
abbrev pub line_refusal : Reason → Refusal
line_refusal r = refusal r layer.Line 0

-- two stations at least and not too many, one lane to the next station at least and not too many
abbrev pub ranged : ℕ → ℕ → Bool
ranged n d = nat_le 2 n && (nat_le n most_stations && (nat_le 1 d && nat_le d most_on_side))

-- n stations with d lanes from each to the next: the numbers, then the length of the list, then how many lanes that makes, then the
-- height of each grade, then that none is above the one before
abbrev pub line_judged : ℕ → ℕ → List ℕ → Result (Unit {0}) Refusal
line_judged n d gs =
    cond (ranged n d)
    (cond (length gs == d)
    (cond (nat_le ((n - 1) * d) most_lanes)
    (cond (grades_low (length gs) (grade_of gs))
    (cond (grades_fall (length gs) (grade_of gs)) (Ok tt) (Err (line_refusal (reason.Law Bends))))
    (Err (line_refusal reason.Range)))
    (Err (line_refusal reason.TooMany)))
    (Err (line_refusal reason.Size)))
    (Err (line_refusal reason.Range))

-- ---- the plant

-- what a line plant means
abbrev pub meant : LinePlant → Meaning
meant p = line_meaning p.stations (array_vec_len p.grades) (λ j. slice_index p.grades.items j)

-- the line of these numbers
abbrev pub IsLine : ℕ → ℕ → List ℕ → LinePlant → Type 0
IsLine n d gs p = meant p ≡ line_meaning n d (grade_of gs)

-- the empty floor: two stations without a lane
abbrev pub IsEmpty : LinePlant → Type 0
IsEmpty p = meant p ≡ line_meaning 2 0 (λ _. 0)

-- an accepted line means what its numbers say; the plant of a refused one is the empty floor
abbrev pub LineMade : ℕ → ℕ → List ℕ → LinePlant → Result (Unit {0}) Refusal → Type 0
LineMade n d gs p (Ok _) = IsLine n d gs p
LineMade n d gs p (Err _) = IsEmpty p
