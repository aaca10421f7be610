-- Meanings that agree lead to the same labelling, and so to the same move.
use Rattle.std.proofs.Common.{◌≡◌, ℕ, zero, suc, ◌<◌, min, Bool, true, false, cond, not, ◌&&◌, eqb, ltb, List, length, refl, ap, ◌∙◌, ap₂, inl, inr, arith}
use mathlib.Core.Path.{subst⁻¹}
use mathlib.Core.Option.{some}
use Rattle.std.proofs.lemmas.Bool.{cases_lt}
use Rattle.std.proofs.lemmas.List.{get_or_past}
use Rattle.polymatroid.specs.Finite.{least}
use Rattle.polymatroid.proofs.Finite.{least_same_values}
use Rattle.floor.specs.Floor.{leaving, entering}
use Rattle.floor.specs.Meaning.{Meaning, Lawful}
use Rattle.tables.specs.Agreement.{Agrees}
use Rattle.network.specs.Plans.{Feasible}
use Rattle.network.specs.States.{State, Pole, Plus, Minus, OnFloor}
use Rattle.labelling.specs.Rules.{ruled}
use Rattle.labelling.specs.Table.{Outcome, Ended, Finished, label, path}
use Rattle.labelling.specs.Augmenting.{along, Augments}
use Rattle.labelling.specs.Amount.{room_beside, term, least_term, amount_of}
use Rattle.labelling.specs.Steps.{outcome, row, move_of, step}
use Rattle.labelling.proofs.Same.{Among, label_same}
use Rattle.labelling.proofs.Made.{move_along}
use Rattle.labelling.proofs.FirstPath.{first_shortest_path}
use Rattle.agreement.proofs.Rooms.{full_same, in_tight_same, lane_room_same, lane_room_but_same}

-- a path lies on the floor, and so do the start before it and the end after it
along_on_floor : (M : Meaning) (f : ℕ → ℕ) (p : List State) → Augments M f p → (i : ℕ) → OnFloor M (along p i)
unfolding along
along_on_floor M f p h zero = tt
along_on_floor M f p h (suc i) =
    elim (cases_lt i (suc (length p))) [
      | inl l ↦ h.ok (suc i) (omega arith)
      | inr l ↦ subst⁻¹ (OnFloor M) (get_or_past p i (Pole true) (omega arith)) tt
    ]

module _ (M N : Meaning) (a : Agrees M N) (laws : Lawful M) (f : ℕ → ℕ) where
  -- ---- the labelling

  -- the two lanes have their ends at one station
  meet_same : (c d : Bool) (e g : ℕ) → e < M.floor.lanes → g < M.floor.lanes
      → eqb (N.floor.end c e) (N.floor.end d g) ≡ eqb (M.floor.end c e) (M.floor.end d g)
  meet_same c d e g le lg = ap₂ eqb (a.ends c e le) (a.ends d g lg)

  ruled_same : (x y : State) → OnFloor M x → OnFloor M y → ruled N f x y ≡ ruled M f x y
  unfolding ruled
  ruled_same (Pole false) (Plus g) ox oy = λ i. eqb (a.poles leaving i) (a.ends leaving g oy i) && not (full_same M N a laws f leaving g oy i)
  ruled_same (Pole false) (Pole c) ox oy = refl
  ruled_same (Pole false) (Minus g) ox oy = refl
  ruled_same (Pole true) y ox oy = refl
  ruled_same (Plus e) (Pole true) ox oy = λ i. eqb (a.ends entering e ox i) (a.poles entering i) && not (full_same M N a laws f entering e ox i)
  ruled_same (Plus e) (Pole false) ox oy = refl
  ruled_same (Plus e) (Plus g) ox oy = λ i.
      meet_same entering leaving e g ox oy i && (not (full_same M N a laws f entering e ox i) && not (full_same M N a laws f leaving g oy i))
  ruled_same (Plus e) (Minus g) ox oy = λ i.
      meet_same entering entering e g ox oy i
      && (not (eqb e g) && cond (full_same M N a laws f entering e ox i) (in_tight_same M N a laws f entering e g ox oy i) (ltb 0 (f g)))
  ruled_same (Minus e) (Plus g) ox oy = λ i.
      meet_same leaving leaving e g ox oy i
      && (not (eqb e g) && cond (full_same M N a laws f leaving g oy i) (full_same M N a laws f leaving e ox i && in_tight_same M N a laws f leaving g e oy ox i) true)
  ruled_same (Minus e) (Minus g) ox oy = λ i. meet_same leaving entering e g ox oy i && ltb 0 (f g)
  ruled_same (Minus e) (Pole c) ox oy = refl

  -- what is scanned is on the floor
  on_floor : (x : State) → Among M.floor.lanes x → OnFloor M x
  on_floor (Pole b) h = tt
  on_floor (Plus e) h = h
  on_floor (Minus e) h = h

  pub outcome_same : outcome N f ≡ outcome M f
  unfolding outcome
  outcome_same =
      ap (label (ruled N f)) a.lanes
      ∙ label_same (ruled N f) (ruled M f) M.floor.lanes (λ x y h l. ruled_same x (Plus y) (on_floor x h) l)
      (λ x y h l. ruled_same x (Minus y) (on_floor x h) l) (λ x h. ruled_same x (Pole true) (on_floor x h) tt)

  -- ---- the amount

  beside_same : (d : Bool) (e : ℕ) (x : State) → e < M.floor.lanes → OnFloor M x → room_beside N f d e x ≡ room_beside M f d e x
  beside_same d e (Pole b) le ox = lane_room_same M N a laws f d e le
  beside_same d e (Plus g) le ox = λ i.
      cond (meet_same d d g e ox le i) (lane_room_but_same M N a laws f d e g le ox i) (lane_room_same M N a laws f d e le i)
  beside_same d e (Minus g) le ox = λ i.
      cond (meet_same d d g e ox le i) (lane_room_but_same M N a laws f d e g le ox i) (lane_room_same M N a laws f d e le i)

  term_same : (x y z : State) → OnFloor M x → OnFloor M y → OnFloor M z → term N f x y z ≡ term M f x y z
  term_same x (Pole b) z ox oy oz = refl
  term_same x (Plus e) z ox oy oz = λ i. min (beside_same leaving e x oy ox i) (beside_same entering e z oy oz i)
  term_same x (Minus e) z ox oy oz = refl

  amount_same : (p : List State) → Augments M f p → amount_of N f p ≡ amount_of M f p
  unfolding amount_of least_term
  amount_same p h =
      let at : (K : Meaning) → ℕ → ℕ = λ K q. term K f (along p q) (along p (suc q)) (along p (suc (suc q))) in
      let same : (q : ℕ) → at N q ≡ at M q = λ q.
      term_same (along p q) (along p (suc q)) (along p (suc (suc q))) (along_on_floor M f p h q) (along_on_floor M f p h (suc q)) (along_on_floor M f p h (suc (suc q))) in
      least_same_values (λ q. true) (at N) (at M) (at N 0) (length p) (λ q l. same q)
      ∙ ap (λ d. least (λ q. true) (at M) d (length p)) (same 0)

  -- ---- the move

  move_same : Feasible M f → (o : Outcome) → outcome M f ≡ o → move_of N f o ≡ move_of M f o
  unfolding step
  move_same ok (Ended l e t) q =
      let p = row (path l e t) l in
      let h = (first_shortest_path M f laws ok).0 (move_along M f l e t) (ap (move_of M f) q) in
      ap (λ n. some (record { lanes = p; amount = n })) (amount_same p h.augments)
  move_same ok (Finished t) q = refl

  pub step_same : Feasible M f → step N f ≡ step M f
  unfolding step
  step_same ok = ap (move_of N f) outcome_same ∙ move_same ok (outcome M f) refl
