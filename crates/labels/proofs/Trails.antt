-- The way back along the names, one lane on.
use Rattle.std.proofs.Common.{◌≡◌, ℕ, ◌+◌, ◌-◌, ◌<◌, Bool, true, false, List, Some, None, Option, MatchOption, sym, refl, ap, ◌∙◌, subst, add-one, arith}
use Rattle.network.specs.States.{lane_number}
use Rattle.labelling.specs.Table.{Mark, signed, mark, name_of, name, back}
use Rattle.labels.specs.declared.SignedLane.{SignedLane}
use Rattle.labels.specs.Labels.{is_plus, signed_state, from_state}
use Rattle.labels.specs.Paths.{level_of, Lies, Falls}

-- a signed lane has the lane's number
pub number_signed : (b : Bool) (e : ℕ) → lane_number (signed b e) ≡ e
number_signed true e = refl
number_signed false e = refl

-- a signed lane lies where the lane has its label
lies_signed : (t : List Mark) (i : ℕ) (b : Bool) (e : ℕ) → Lies t i (signed b e) → (level_of (mark t e) ≡ i) × (0 < i)
lies_signed t i true e h = h
lies_signed t i false e h = h

-- the state before a signed lane is the lane's name
name_signed : (e : ℕ) (t : List Mark) (b : Bool) (y : ℕ) → name e t (signed b y) ≡ name_of (mark t y)
unfolding name
name_signed e t true y = refl
name_signed e t false y = refl

module _ (t : List Mark) (s : SignedLane) (o : Option SignedLane) (q : from_state o ≡ name_of (mark t s.lane)) where
  -- the name of a lane is the state before it
  pub back_more : (e k n : ℕ) → n ≡ k + 1 → signed_state s ≡ back e t (k + 1) → from_state o ≡ back e t (n + 1)
  unfolding back
  back_more e k n a h = rw add-one (q ∙ sym (name_signed e t (is_plus s.sign) s.lane) ∙ ap (name e t) (h ∙ ap (back e t) (sym a)))

  -- and lies one level lower
  pub level_more : Falls t → (k n l : ℕ) → n ≡ k + 1 → 0 < level_of (mark t s.lane) → k + level_of (mark t s.lane) ≡ l
      → MatchOption o (n ≡ l) (λ z. (0 < level_of (mark t z.lane)) × (n + level_of (mark t z.lane) ≡ l))
  level_more fall k n l a h e = by o (subst (Lies t (level_of (mark t s.lane) - 1)) (sym q) (fall s.lane h))
    where
      by : (o : Option SignedLane) → Lies t (level_of (mark t s.lane) - 1) (from_state o) → MatchOption o (n ≡ l) (λ z. (0 < level_of (mark t z.lane)) × (n + level_of (mark t z.lane) ≡ l))
      by None g = omega arith
      by (Some z) g = let i = lies_signed t (level_of (mark t s.lane) - 1) (is_plus z.sign) z.lane g in (omega arith, omega arith)
