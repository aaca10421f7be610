-- The lanes of a side of a line, by the number of the side: which row of lanes they are, if any.
use Rattle.std.proofs.Common.{◌≡◌, ℕ, ◌+◌, ◌-◌, ◌*◌, ◌/◌, ◌%◌, ◌<◌, ◌≤◌, Bool, true, false, cond, ◌∙◌, ap₂, inl, inr, arith}
use Rattle.std.proofs.lemmas.Bool.{cases_lt, eq-eqb}
use Rattle.std.proofs.lemmas.Bool.Decides.{nat_tests}
use Rattle.floor.specs.Floor.{end_of, station_of, count, width, lane_at}
use Rattle.linefloor.specs.Line.{line_floor}
use Rattle.linefloor.proofs.Rows.{count_row, count_past, count_first, lane_in_row}

-- the side s has the end b, and its lanes are those of row j there
record InRow (s : ℕ) (b : Bool) (j : ℕ) : Type 0 where
  side_end : end_of s ≡ b
  side_station : station_of s ≡ j + cond b 1 0

-- where there is a row behind a side, it is this one
row_behind : (s : ℕ) → (s ≡ 1 → ⊥) → (b : Bool) × InRow s b (s / 2 - s % 2)
row_behind s not_one =
    elim (cases_lt 0 (s % 2)) [
      | inl l ↦ (true, record { side_end = grind (arith, nat_tests); side_station = grind (arith, nat_tests) })
      | inr l ↦ (false, record { side_end = grind (arith, nat_tests); side_station = grind (arith, nat_tests) })
    ]

module _ (n d s : ℕ) where
  -- a side of a row before the last station has as many lanes as every row
  pub width_some : (s ≡ 1 → ⊥) → s / 2 - s % 2 < n - 1 → width (line_floor n d) s ≡ d
  width_some not_one l =
      let r = row_behind s not_one in
      ap₂ (count (line_floor n d)) r.1.side_end r.1.side_station ∙ count_row n d r.0 (s / 2 - s % 2) l

  pub width_past : (s ≡ 1 → ⊥) → n - 1 ≤ s / 2 - s % 2 → width (line_floor n d) s ≡ 0
  width_past not_one l =
      let r = row_behind s not_one in
      ap₂ (count (line_floor n d)) r.1.side_end r.1.side_station ∙ count_past n d r.0 (s / 2 - s % 2) l

  pub width_first : s ≡ 1 → width (line_floor n d) s ≡ 0
  width_first h =
      ap₂ (count (line_floor n d)) (eq-eqb (s % 2) 1 (omega arith)) (let z : s / 2 ≡ 0 = omega arith in z) ∙ count_first n d

  -- the lane at a position of a side that has lanes
  pub lane_is : (p : ℕ) → (s ≡ 1 → ⊥) → s / 2 - s % 2 < n - 1 → p < d
      → lane_at (line_floor n d) (end_of s) (station_of s) p ≡ (s / 2 - s % 2) * d + p
  lane_is p not_one l h =
      let r = row_behind s not_one in
      ap₂ (λ b i. lane_at (line_floor n d) b i p) r.1.side_end r.1.side_station ∙ lane_in_row n d r.0 (s / 2 - s % 2) p h l

  -- a side with a lane is neither of the two sides that have none
  pub some_lanes : (p : ℕ) → p < width (line_floor n d) s → s < 2 * n → (s ≡ 1 → ⊥) × (s / 2 - s % 2 < n - 1) × (p < d)
  some_lanes p there on =
      let not_one : s ≡ 1 → ⊥ = λ q. omega (arith, width_first q) in
      elim (cases_lt (s / 2 - s % 2) (n - 1)) [
        | inl l ↦ (not_one, l, omega (arith, width_some not_one l))
        | inr l ↦ absurd (omega (arith, width_past not_one l))
      ]

  -- such a side has a row behind it
  pub row_there : (p : ℕ) → p < width (line_floor n d) s → s % 2 ≤ s / 2
  row_there p there = elim (cases_lt (s / 2) (s % 2)) [ inl l ↦ absurd (omega (arith, width_first (omega arith))) | inr l ↦ l ]

  -- neither of the two sides that have none
  pub width_whole : (s ≡ 1 → ⊥) → (s ≡ 2 * (n - 1) → ⊥) → s < 2 * n → width (line_floor n d) s ≡ d
  width_whole not_one not_last on =
      elim (cases_lt (s / 2 - s % 2) (n - 1)) [ inl l ↦ width_some not_one l | inr l ↦ absurd (not_last (omega arith)) ]

  pub width_bare : 2 ≤ n → s ≡ 2 * (n - 1) → width (line_floor n d) s ≡ 0
  width_bare two h = width_past (λ q. omega arith) (omega arith)
