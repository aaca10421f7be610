-- The lanes of each side of a line: how many there are, and which.
use Rattle.std.proofs.Common.{◌≡◌, ℕ, zero, suc, ◌+◌, ◌-◌, ◌*◌, ◌/◌, ◌<◌, ◌≤◌, min, Bool, true, false, cond, sym, refl, ap, ◌∙◌, inl, inr, mul-le-mul_right, mod-lt, suc-mul, mul-zero, div-add-mod', arith}
use lib.Arith.{digits_div}
use Rattle.std.proofs.lemmas.Bool.{cases_lt, eq-eqb, ne_eqb}
use Rattle.floor.specs.Floor.{Floor, on, place, count, lane_at}
use Rattle.floor.proofs.Places.{place_on, place_off, place_none, lane_at_is}
use Rattle.linefloor.specs.Line.{line_floor}

-- a whole row more
row_more : (a b d : ℕ) → a < b → a * d + d ≤ b * d
row_more a b d h = omega (arith, mul-le-mul_right d h, suc-mul a d)

row_rises : (a b d : ℕ) → a ≤ b → a * d ≤ b * d
row_rises a b d h = mul-le-mul_right d h

-- the station that a lane leaves, by the row that the lane lies in
pub row_of : (d : ℕ) → 0 < d → (e : ℕ) → (e / d * d ≤ e) × (e < e / d * d + d)
row_of d some e = (omega (arith, div-add-mod' e d), omega (arith, div-add-mod' e d, mod-lt e some))

-- a lane of the floor leaves a station before the last
pub row_below : (m d e : ℕ) → e < m * d → e / d < m
row_below m zero e h = absurd (omega (arith, mul-zero m))
row_below m (suc d) e h =
    elim (cases_lt (e / suc d) m) [
      | inl l ↦ l
      | inr l ↦ absurd (omega (arith, row_rises m (e / suc d) (suc d) l, (row_of (suc d) (omega arith) e).0))
    ]

-- the lanes of row j, at the station where they have their end b
module _ (n d : ℕ) (b : Bool) (j : ℕ) where
  abbrev F : Floor
  F = line_floor n d

  abbrev at : ℕ
  at = j + cond b 1 0

  on_row : (e : ℕ) → e / d ≡ j → on F b at e ≡ true
  on_row e h = eq-eqb (e / d + cond b 1 0) at (ap (λ x. x + cond b 1 0) h)

  off_row : (e : ℕ) → (e / d ≡ j → ⊥) → on F b at e ≡ false
  off_row e h = ne_eqb (e / d + cond b 1 0) at (λ q. h (omega arith))

  -- of the lanes below e, those of the row
  pub place_in_row : 0 < d → (e : ℕ) → place F b at e ≡ min d (e - j * d)
  place_in_row some zero = omega (arith, place_none F b at)
  place_in_row some (suc e) =
      let before = place_in_row some e in
      let r = row_of d some e in
      elim (cases_lt (e / d) j) [
        | inl l ↦
            omega (arith, before, place_off F b at e (off_row e (λ q. omega arith)), r.1, row_more (e / d) j d l)
        | inr l ↦
            elim (cases_lt j (e / d)) [
              | inl m ↦ omega (arith, before, place_off F b at e (off_row e (λ q. omega arith)), r.0, row_more j (e / d) d m)
              | inr m ↦
                  let h : e / d ≡ j = omega arith in
                  omega (arith, before, r.0, r.1, ap (λ x. x * d) h, place_on F b at e (on_row e h))
            ]
      ]

  -- the row is full where it lies before the last station, and there is none behind that
  pub count_row : j < n - 1 → count F b at ≡ d
  count_row h = by d refl
    where
      by : (k : ℕ) → d ≡ k → count F b at ≡ d
      by zero e = ap (place F b at) (ap (λ x. (n - 1) * x) e ∙ mul-zero (n - 1)) ∙ place_none F b at ∙ sym e
      by (suc k) e = omega (arith, place_in_row (omega arith) ((n - 1) * d), row_more j (n - 1) d h)

  pub count_past : n - 1 ≤ j → count F b at ≡ 0
  count_past h = by d refl
    where
      by : (k : ℕ) → d ≡ k → count F b at ≡ 0
      by zero e = ap (place F b at) (ap (λ x. (n - 1) * x) e ∙ mul-zero (n - 1)) ∙ place_none F b at
      by (suc k) e = omega (arith, place_in_row (omega arith) ((n - 1) * d), row_rises (n - 1) j d h)

  -- the lane at a position
  pub lane_in_row : (p : ℕ) → p < d → j < n - 1 → lane_at F b at p ≡ j * d + p
  lane_in_row p l h =
      let e : ℕ = j * d + p in
      lane_at_is F b at e p (omega (arith, row_more j (n - 1) d h)) (on_row e (digits_div j l))
      (omega (arith, place_in_row (omega arith) e))

-- no lane enters the first station
pub count_first : (n d : ℕ) → count (line_floor n d) true 0 ≡ 0
count_first n d = none ((n - 1) * d)
  where
    none : (e : ℕ) → place (line_floor n d) true 0 e ≡ 0
    none zero = place_none (line_floor n d) true 0
    none (suc e) = omega (arith, none e, place_off (line_floor n d) true 0 e (ne_eqb (e / d + 1) 0 (λ q. omega arith)))
