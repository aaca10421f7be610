-- A line: n stations in a row and d lanes from each to the next. Every side that has lanes has the same grades.
use Rattle.std.specs.Prelude.{◌≡◌, ℕ, suc, ◌+◌, ◌-◌, ◌*◌, ◌/◌, ◌≤◌, Bool, true, cond, nat_le}
use Rattle.polymatroid.specs.Tables.{every}
use Rattle.polymatroid.specs.Kinds.{graded}
use Rattle.floor.specs.Numbers.{most_stations, most_lanes, most_on_side}
use Rattle.floor.specs.Floor.{Floor, count}
use Rattle.floor.specs.Meaning.{Meaning, Lawful}
use Rattle.plantformat.specs.Numbers.{top_lane}

-- lane e leaves station e / d and enters the next; the first station is the stock, the last the despatch
abbrev pub line_floor : ℕ → ℕ → Floor
line_floor n d = record {
  stations = n;
  lanes = (n - 1) * d;
  pole = λ b. cond b (n - 1) 0;
  end = λ b e. e / d + cond b 1 0;
}

-- the cap of a set of j lanes of a side is the sum of the first j grades
abbrev pub line_meaning : ℕ → ℕ → (ℕ → ℕ) → Meaning
line_meaning n d grade = record { floor = line_floor n d; cap = λ b i. graded grade (count (line_floor n d) b i) }

-- ---- the rules of a line

-- none of d grades is too high
unfoldable pub grades_low : ℕ → (ℕ → ℕ) → Bool
grades_low d grade = every d (λ j. nat_le (grade j) top_lane)

-- none of d grades is above the one before
unfoldable pub grades_fall : ℕ → (ℕ → ℕ) → Bool
grades_fall d grade = every (d - 1) (λ j. nat_le (grade (suc j)) (grade j))

-- every line, with lanes or without, whose numbers are in their ranges and whose grades fall
abbrev pub LinesAreLawful : Type 0
LinesAreLawful =
    (n d : ℕ) (grade : ℕ → ℕ) → 2 ≤ n → n ≤ most_stations → d ≤ most_on_side → (n - 1) * d ≤ most_lanes
    → grades_low d grade ≡ true → grades_fall d grade ≡ true → Lawful (line_meaning n d grade)
