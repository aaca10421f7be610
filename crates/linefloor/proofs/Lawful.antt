-- A line whose numbers keep the rules is lawful.
use Rattle.std.proofs.Common.{◌≡◌, ℕ, zero, suc, ◌+◌, ◌-◌, ◌*◌, ◌/◌, ◌<◌, ◌≤◌, Bool, true, false, cond, not, leb, ap, inl, inr, arith}
use Rattle.std.proofs.lemmas.Bool.{cases_lt, leb-true}
use Rattle.polymatroid.specs.Laws.{FourLaws}
use Rattle.polymatroid.specs.Kinds.{Falls, graded}
use Rattle.polymatroid.proofs.Tables.{every_at}
use Rattle.polymatroid.proofs.More.{ranges_hold}
use Rattle.floor.specs.Numbers.{most_stations, most_lanes, most_on_side, top_cap}
use Rattle.floor.specs.Floor.{FloorRules, count}
use Rattle.plantformat.specs.Numbers.{top_lane}
use Rattle.linefloor.specs.Line.{line_floor, grades_low, grades_fall, LinesAreLawful}
use Rattle.linefloor.proofs.Rows.{row_below, count_row, count_past, count_first}

-- the rules as facts
pub record LineRules (n d : ℕ) (grade : ℕ → ℕ) : Type 0 where
  pub two_stations : 2 ≤ n
  pub few_stations : n ≤ most_stations
  pub few_between : d ≤ most_on_side
  pub few_lanes : (n - 1) * d ≤ most_lanes
  pub low : (j : ℕ) → j < d → grade j ≤ top_lane
  pub falls : Falls grade d

-- no side has more lanes than a row has
pub count_low : (n d : ℕ) (b : Bool) (i : ℕ) → count (line_floor n d) b i ≤ d
count_low n d true zero = omega (arith, count_first n d)
count_low n d true (suc j) =
    let same : suc j ≡ j + 1 = omega arith in
    elim (cases_lt j (n - 1)) [
      | inl l ↦ omega (arith, ap (count (line_floor n d) true) same, count_row n d true j l)
      | inr l ↦ omega (arith, ap (count (line_floor n d) true) same, count_past n d true j l)
    ]
count_low n d false i =
    let same : i ≡ i + 0 = omega arith in
    elim (cases_lt i (n - 1)) [
      | inl l ↦ omega (arith, ap (count (line_floor n d) false) same, count_row n d false i l)
      | inr l ↦ omega (arith, ap (count (line_floor n d) false) same, count_past n d false i l)
    ]

module _ (n d : ℕ) (grade : ℕ → ℕ) (r : LineRules n d grade) where
  pole_on : (b : Bool) → cond b (n - 1) 0 < n
  pole_on true = omega (arith, r.two_stations)
  pole_on false = omega (arith, r.two_stations)

  end_on : (b : Bool) (e : ℕ) → e < (n - 1) * d → e / d + cond b 1 0 < n
  end_on true e l = omega (arith, row_below (n - 1) d e l)
  end_on false e l = omega (arith, row_below (n - 1) d e l)

  ends_differ : (b : Bool) (e : ℕ) → e < (n - 1) * d → e / d + cond b 1 0 ≡ e / d + cond (not b) 1 0 → ⊥
  ends_differ true e l q = omega arith
  ends_differ false e l q = omega arith

  poles_clear : (b : Bool) (e : ℕ) → e < (n - 1) * d → e / d + cond (not b) 1 0 ≡ cond b (n - 1) 0 → ⊥
  poles_clear true e l q = omega (arith, row_below (n - 1) d e l)
  poles_clear false e l q = omega arith

  pub rules : FloorRules (line_floor n d)
  rules = record {
    two_stations = r.two_stations;
    few_stations = r.few_stations;
    few_lanes = r.few_lanes;
    pole_on = pole_on;
    poles_differ = λ q. omega (arith, r.two_stations);
    end_on = end_on;
    ends_differ = ends_differ;
    poles_clear = poles_clear;
    narrow = λ b i l. omega (arith, count_low n d b i, r.few_between);
  }

  pub laws : (b : Bool) (i : ℕ) → FourLaws top_cap (count (line_floor n d) b i) (graded grade (count (line_floor n d) b i))
  laws b i =
      let k : ℕ = count (line_floor n d) b i in
      let few : k ≤ d = count_low n d b i in
      (ranges_hold k (omega (arith, r.few_between))).grades grade (λ j l. r.falls j (omega arith)) (λ j l. r.low j (omega arith))

pub low_at : (d : ℕ) (grade : ℕ → ℕ) → grades_low d grade ≡ true → (j : ℕ) → j < d → grade j ≤ top_lane
unfolding grades_low
low_at d grade e j l = leb-true (grade j) top_lane (every_at d (λ j. leb (grade j) top_lane) e j l)

pub falls_at : (d : ℕ) (grade : ℕ → ℕ) → grades_fall d grade ≡ true → Falls grade d
unfolding grades_fall
falls_at d grade e j l = leb-true (grade (suc j)) (grade j) (every_at (d - 1) (λ j. leb (grade (suc j)) (grade j)) e j (omega arith))

pub lines_are_lawful : LinesAreLawful
lines_are_lawful n d grade two few narrow lanes low fall =
    let r : LineRules n d grade =
    record {
      two_stations = two;
      few_stations = few;
      few_between = narrow;
      few_lanes = lanes;
      low = low_at d grade low;
      falls = falls_at d grade fall;
    } in
    record { rules = rules n d grade r; laws = λ b i on. laws n d grade r b i }
