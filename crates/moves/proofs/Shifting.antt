-- Trays that are moved along a path lane by lane.
use Rattle.std.proofs.Common.{◌≡◌, ℕ, ◌+◌, ◌-◌, ◌*◌, ◌<◌, ◌≤◌, Bool, true, false, cond, eqb, List, map, length, get_or, drop, set, sym, ap, ◌∙◌, inl, inr, arith}
use Rattle.std.proofs.lemmas.List.{drop_more, drop_all, get_or-set_same, get_or-set_other}
use Rattle.std.proofs.lemmas.Bool.{cases_eq, eq-eqb, ne_eqb, cond-true, cond-false}
use Rattle.polymatroid.specs.Side.{plus, minus}
use Rattle.floor.specs.Numbers.{top_cap}
use Rattle.network.specs.States.{State, Pole, Plus, Minus, applied}
use Rattle.rooms.specs.Rooms.{at}
use Rattle.labelling.specs.Steps.{shifted}
use Rattle.labelling.specs.Table.{signed}
use Rattle.labels.specs.declared.Sign.{Sign}
use Rattle.labels.specs.declared.Sign.TheVariants as sign
use Rattle.labels.specs.declared.SignedLane.{SignedLane}
use Rattle.labels.specs.Labels.{is_plus, signed_state}
use Rattle.moves.specs.Paths.{Among, signed_at}
use Rattle.moves.proofs.Reading.{lane_below}

-- more trays, or fewer, are put at the place of a lane
set_plus : (xs : List ℕ) (h n v : ℕ) → h < length xs → v ≡ get_or xs h 0 + n → (e : ℕ) → get_or (set xs h v) e 0 ≡ plus (at xs) h n e
unfolding plus
set_plus xs h n v l q e = elim (cases_eq e h) [
  | inl s ↦
      ap (λ i. get_or (set xs h v) i 0) s ∙ get_or-set_same xs h v 0 l ∙ q ∙ ap (λ i. get_or xs i 0 + n) (sym s) ∙ sym (cond-true _ _ _ (eq-eqb e h s))
  | inr s ↦ get_or-set_other xs h e v 0 s ∙ sym (cond-false _ _ _ (ne_eqb e h s))
]

set_minus : (xs : List ℕ) (h n v : ℕ) → h < length xs → v ≡ get_or xs h 0 - n → (e : ℕ) → get_or (set xs h v) e 0 ≡ minus (at xs) h n e
unfolding minus
set_minus xs h n v l q e = elim (cases_eq e h) [
  | inl s ↦
      ap (λ i. get_or (set xs h v) i 0) s ∙ get_or-set_same xs h v 0 l ∙ q ∙ ap (λ i. get_or xs i 0 - n) (sym s) ∙ sym (cond-true _ _ _ (eq-eqb e h s))
  | inr s ↦ get_or-set_other xs h e v 0 s ∙ sym (cond-false _ _ _ (ne_eqb e h s))
]

module _ (xs : List ℕ) (s : SignedLane) (n v : ℕ) where
  pub moved_plus : s.sign ≡ sign.Plus → s.lane < length xs → v ≡ get_or xs s.lane 0 + n → at (set xs s.lane v) ≡ applied n (signed_state s) (at xs)
  moved_plus is l q i e = (set_plus xs s.lane n v l q e ∙ sym (ap (λ (g : Sign). applied n (signed (is_plus g) s.lane) (at xs) e) is)) i

  pub moved_minus : s.sign ≡ sign.Minus → s.lane < length xs → v ≡ get_or xs s.lane 0 - n → at (set xs s.lane v) ≡ applied n (signed_state s) (at xs)
  moved_minus is l q i e = (set_minus xs s.lane n v l q e ∙ sym (ap (λ (g : Sign). applied n (signed (is_plus g) s.lane) (at xs) e) is)) i

-- no lane has more than n trays more
pub applied_most : (n : ℕ) (x : State) (f : ℕ → ℕ) (e : ℕ) → applied n x f e ≤ f e + n
unfolding plus minus
applied_most n (Pole b) f e = omega arith
applied_most n (Plus g) f e = by (eqb e g)
  where
    by : (b : Bool) → cond b (f e + n) (f e) ≤ f e + n
    by true = omega arith
    by false = omega arith
applied_most n (Minus g) f e = by (eqb e g)
  where
    by : (b : Bool) → cond b (f e - n) (f e) ≤ f e + n
    by true = omega arith
    by false = omega arith

-- the trays after k lanes of a path: the lanes left lead to the end of the move, and no lane has more trays than the lanes so far
-- can have brought it
pub record Moving (n : ℕ) (path : List SignedLane) (first : List ℕ) (k : ℕ) (trays : List ℕ) : Type 0 where
  pub all : length trays ≡ length first
  pub rest : shifted n (map signed_state (drop k path)) (at trays) ≡ shifted n (map signed_state path) (at first)
  pub low : (e : ℕ) → e < length trays → get_or trays e 0 ≤ top_cap + k * top_cap

module _ (n : ℕ) (path : List SignedLane) (first : List ℕ) (k : ℕ) (trays : List ℕ) where
  pub moving_on : Moving n path first k trays → k < length path → Among (length first) (map signed_state path) → (signed_at path k).lane < length trays
  moving_on m l among = omega (arith, lane_below (length first) path k l among, m.all)

  pub moving_more : Moving n path first k trays → k < length path → n ≤ top_cap → (after : List ℕ) → length after ≡ length trays
      → at after ≡ applied n (signed_state (signed_at path k)) (at trays) → Moving n path first (k + 1) after
  unfolding shifted
  moving_more m l little after same each =
      record {
        all = same ∙ m.all;
        rest = ap (shifted n (map signed_state (drop (k + 1) path))) each
            ∙ ap (λ p. shifted n (map signed_state p) (at trays)) (sym (drop_more path k _ l))
            ∙ m.rest;
        low = λ e on. omega (arith, ap (λ f. f e) each, applied_most n (signed_state (signed_at path k)) (at trays) e, m.low e (omega arith), little);
      }

  pub moving_all : Moving n path first k trays → length path ≤ k → (e : ℕ) → get_or trays e 0 ≡ shifted n (map signed_state path) (at first) e
  unfolding shifted
  moving_all m past e =
      sym (ap (λ p. shifted n (map signed_state p) (at trays) e) (drop_all k path past)) ∙ ap (λ f. f e) m.rest
