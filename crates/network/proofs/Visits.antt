-- A path at one station: pairs by a full arrival, then at most one open pair, then pairs by a full departure.
use Rattle.std.proofs.Common.{◌≡◌, ℕ, ◌<◌, Bool, true, false, eqb, ◌⊎◌, sym, inl, inr, arith}
use Rattle.std.proofs.lemmas.Bool.Decides.{nat_tests}
use Rattle.std.proofs.lemmas.Bool.{cases_eq}
use Rattle.floor.specs.Meaning.{Meaning, Lawful}
use Rattle.network.specs.States.{Open, Free, State, Pole, Plus, Minus, at, lane_room, amount, OnFloor, Turn, Step}
use Rattle.network.specs.Plans.{Fits}
use Rattle.network.proofs.Rooms.{room_less}

-- a pair by a full arrival, and one by a full departure
abbrev pub by_arrival : Meaning → (ℕ → ℕ) → State → State → Bool
by_arrival M f (Pole b) y = false
by_arrival M f (Plus e) (Pole c) = false
by_arrival M f (Plus e) (Plus g) = false
by_arrival M f (Plus e) (Minus g) = eqb (lane_room M f true e) 0
by_arrival M f (Minus e) y = false

abbrev pub by_departure : Meaning → (ℕ → ℕ) → State → State → Bool
by_departure M f (Pole b) y = false
by_departure M f (Plus e) y = false
by_departure M f (Minus e) (Pole c) = false
by_departure M f (Minus e) (Plus g) = eqb (lane_room M f false g) 0
by_departure M f (Minus e) (Minus g) = false

pub open_unless : (M : Meaning) (f : ℕ → ℕ) (x y : State) → 0 < amount M f x y → by_arrival M f x y ≡ false → Open M f x
open_unless M f (Pole false) y h b = tt
open_unless M f (Pole true) (Pole c) h b = omega arith
open_unless M f (Pole true) (Plus g) h b = omega arith
open_unless M f (Pole true) (Minus g) h b = omega arith
open_unless M f (Plus e) (Pole false) h b = absurd (omega arith)
open_unless M f (Plus e) (Pole true) h b = h
open_unless M f (Plus e) (Plus g) h b = omega arith
open_unless M f (Plus e) (Minus g) h b = grind (arith, nat_tests)
open_unless M f (Minus e) (Pole c) h b = absurd (omega arith)
open_unless M f (Minus e) (Plus g) h b = omega arith
open_unless M f (Minus e) (Minus g) h b = omega arith

pub free_unless : (M : Meaning) (f : ℕ → ℕ) (x y : State) → 0 < amount M f x y → by_departure M f x y ≡ false → Free M f y
free_unless M f (Pole b) (Pole c) h t = absurd (omega arith)
free_unless M f (Pole false) (Plus g) h t = h
free_unless M f (Pole true) (Plus g) h t = absurd (omega arith)
free_unless M f (Pole b) (Minus g) h t = absurd (omega arith)
free_unless M f (Plus e) (Pole false) h t = omega arith
free_unless M f (Plus e) (Pole true) h t = tt
free_unless M f (Plus e) (Plus g) h t = omega arith
free_unless M f (Plus e) (Minus g) h t = omega arith
free_unless M f (Minus e) (Pole c) h t = absurd (omega arith)
free_unless M f (Minus e) (Plus g) h t = grind (arith, nat_tests)
free_unless M f (Minus e) (Minus g) h t = omega arith

module _ (M : Meaning) (laws : Lawful M) (f : ℕ → ℕ) (fits : Fits M f) where
  -- an open arrival steps to each free departure of its station
  pub open_free : (x y : State) → OnFloor M x → OnFloor M y → at M true x ≡ at M false y → Open M f x → Free M f y → Step M f x y
  open_free x y a b m o q = record { ok_from = a; ok_to = b; meet = m; some = by x y a b m o q }
    where
      by : (x y : State) → OnFloor M x → OnFloor M y → at M true x ≡ at M false y → Open M f x → Free M f y → (0 < amount M f x y) ⊎ Turn x y
      by (Pole false) (Pole false) a b m o q = absurd q
      by (Pole false) (Pole true) a b m o q = absurd (laws.rules.poles_differ m)
      by (Pole true) y a b m o q = absurd o
      by (Pole false) (Plus g) a b m o q = inl q
      by (Pole false) (Minus g) a b m o q = absurd (laws.rules.poles_clear false g b (sym m))
      by (Plus e) (Pole false) a b m o q = absurd q
      by (Plus e) (Pole true) a b m o q = inl o
      by (Plus e) (Plus g) a b m o q = inl (omega arith)
      by (Plus e) (Minus g) a b m o q =
          elim (cases_eq e g) [ inl r ↦ inr r | inr r ↦ inl (omega (arith, room_less M laws f fits true e g a (sym m) r)) ]
      by (Minus e) (Pole false) a b m o q = absurd q
      by (Minus e) (Pole true) a b m o q = absurd (laws.rules.poles_clear true e a m)
      by (Minus e) (Plus g) a b m o q =
          elim (cases_eq e g)
          [ inl r ↦ inr r | inr r ↦ inl (omega (arith, room_less M laws f fits false g e b m (λ s. r (sym s)))) ]
      by (Minus e) (Minus g) a b m o q = inl (omega arith)
