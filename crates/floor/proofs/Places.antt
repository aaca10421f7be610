-- The number of a side, the position of a lane at a station, and the lane at a position.
use Rattle.std.proofs.Common.{◌≡◌, ℕ, zero, suc, ◌+◌, ◌*◌, ◌/◌, ◌%◌, ◌<◌, ◌≤◌, Bool, true, false, cond, ◌&&◌, eqb, sym, refl, ap, ◌∙◌, inl, inr, arith}
use Rattle.std.proofs.lemmas.Bool.Decides.{nat_tests}
use Rattle.std.proofs.lemmas.Bool.{cases_lt, cases_Bool, cases_eq, eq-eqb, ne_eqb, eqb-true, eqb-false}
use Rattle.polymatroid.proofs.Finite.{first_passes, first_before}
use Rattle.floor.specs.Floor.{Floor, side, end_of, station_of, on, place, count, lane_at}

-- ---- sides

pub end_of_side : (d : Bool) (i : ℕ) → end_of (side d i) ≡ d
end_of_side true i = eq-eqb ((2 * i + 1) % 2) 1 (omega arith)
end_of_side false i = ne_eqb ((2 * i + 0) % 2) 1 (λ e. omega arith)

pub station_of_side : (d : Bool) (i : ℕ) → station_of (side d i) ≡ i
station_of_side true i = omega arith
station_of_side false i = omega arith

pub side_again : (s : ℕ) → side (end_of s) (station_of s) ≡ s
side_again s = by (end_of s) refl
  where
    by : (b : Bool) → eqb (s % 2) 1 ≡ b → 2 * (s / 2) + cond b 1 0 ≡ s
    by true e = omega (arith, eqb-true (s % 2) 1 e)
    by false e = let n : s % 2 ≡ 1 → ⊥ = eqb-false (s % 2) 1 e in elim (cases_eq (s % 2) 1) [ inl o ↦ absurd (n o) | inr o ↦ omega arith ]

-- the side of a station of the floor is a side of the floor, and the other way
pub side_below : (d : Bool) (i n : ℕ) → i < n → side d i < 2 * n
side_below true i n h = omega arith
side_below false i n h = omega arith

pub station_below : (s n : ℕ) → s < 2 * n → station_of s < n
station_below s n h = omega arith

-- ---- positions

module _ (F : Floor) (d : Bool) (i : ℕ) where
  -- the position after a lane: one more if the lane is there
  pub place_on : (e : ℕ) → on F d i e ≡ true → place F d i (suc e) ≡ place F d i e + 1
  unfolding place
  place_on e o = grind arith

  pub place_off : (e : ℕ) → on F d i e ≡ false → place F d i (suc e) ≡ place F d i e
  unfolding place
  place_off e o = grind arith

  pub place_none : place F d i 0 ≡ 0
  unfolding place
  place_none = refl

  -- positions never fall, and rise by one a lane at most
  pub place_steps : (e : ℕ) → place F d i (suc e) ≤ place F d i e + 1
  unfolding place
  place_steps e = elim (cases_Bool (on F d i e)) [ inl o ↦ grind arith | inr o ↦ grind arith ]

  pub place_rises : (a b : ℕ) → a ≤ b → place F d i a ≤ place F d i b
  unfolding place
  place_rises a zero h = let e : a ≡ 0 = omega arith in rw e (omega arith)
  place_rises a (suc b) h =
      elim (cases_lt b a) [
        | inl l ↦ let e : a ≡ suc b = omega arith in rw e (omega arith)
        | inr l ↦ omega (arith, place_rises a b l)
      ]

  pub place_at_most : (e : ℕ) → place F d i e ≤ e
  place_at_most zero = omega (arith, place_none)
  place_at_most (suc e) = omega (arith, place_at_most e, place_steps e)

  -- a lane that is there takes a position
  pub place_takes : (a b : ℕ) → a < b → on F d i a ≡ true → place F d i a < place F d i b
  place_takes a b h o = omega (arith, place_on a o, place_rises (suc a) b h)

  pub place_below : (e : ℕ) → e < F.lanes → on F d i e ≡ true → place F d i e < count F d i
  place_below e h o = place_takes e F.lanes h o

  -- two lanes there have two positions
  pub place_apart : (a b : ℕ) → on F d i a ≡ true → on F d i b ≡ true → place F d i a ≡ place F d i b → a ≡ b
  place_apart a b oa ob e =
      elim (cases_lt a b) [
        | inl l ↦ absurd (omega (arith, place_takes a b l oa))
        | inr l ↦ elim (cases_lt b a) [ inl m ↦ absurd (omega (arith, place_takes b a m ob)) | inr m ↦ omega arith ]
      ]

  here : ℕ → ℕ → Bool
  here p e = on F d i e && eqb (place F d i e) p

  some : (m p : ℕ) → p < place F d i m → (e : ℕ) × (e < m) × (on F d i e ≡ true) × (place F d i e ≡ p)
  unfolding place
  some zero p h = absurd (omega arith)
  some (suc m) p h =
      elim (cases_lt p (place F d i m)) [
        | inl l ↦ let s = some m p l in (s.0, omega (arith, s.1), s.2, s.3)
        | inr l ↦ (m, omega arith, grind (arith, nat_tests), grind (arith, nat_tests))
      ]

  -- each position has its lane
  pub lane_at_there : (p : ℕ) → p < count F d i
      → (lane_at F d i p < F.lanes) × (on F d i (lane_at F d i p) ≡ true) × (place F d i (lane_at F d i p) ≡ p)
  unfolding lane_at here
  lane_at_there p h =
      let s = some F.lanes p h in
      let l : lane_at F d i p < F.lanes =
      elim (cases_lt (lane_at F d i p) F.lanes) [
        | inl l ↦ l
        | inr l ↦
            let a = s.1 in
            let b = s.2 in
            let c = s.3 in
            let n = first_before (here p) F.lanes s.0 (omega arith) in
            absurd (grind (arith, nat_tests))
      ] in
      let t = first_passes (here p) F.lanes l in
      (l, grind (arith, nat_tests), grind (arith, nat_tests))

  pub lane_at_below : (p : ℕ) → p < count F d i → lane_at F d i p < F.lanes
  lane_at_below p h = (lane_at_there p h).0

  pub lane_at_on : (p : ℕ) → p < count F d i → on F d i (lane_at F d i p) ≡ true
  lane_at_on p h = (lane_at_there p h).1

  pub lane_at_placed : (p : ℕ) → p < count F d i → place F d i (lane_at F d i p) ≡ p
  lane_at_placed p h = (lane_at_there p h).2

  pub lane_at_place : (e : ℕ) → e < F.lanes → on F d i e ≡ true → lane_at F d i (place F d i e) ≡ e
  lane_at_place e h o =
      let l = lane_at_there (place F d i e) (place_below e h o) in
      place_apart (lane_at F d i (place F d i e)) e l.1 o l.2

  pub lane_at_is : (e p : ℕ) → e < F.lanes → on F d i e ≡ true → place F d i e ≡ p → lane_at F d i p ≡ e
  lane_at_is e p h o q = ap (lane_at F d i) (sym q) ∙ lane_at_place e h o
