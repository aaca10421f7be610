-- The right moves are those that steps make: they keep the trays a plan, carry more, and are few.
use Rattle.std.proofs.Common.{◌≡◌, ℕ, ◌<◌, ◌≤◌, true, false, ◌⊎◌, List, [], ◌∷◌, ◌++◌, length, get_or, sym, refl, ap, ◌∙◌, ap₂, inl, inr, arith}
use mathlib.Core.Path.{subst⁻¹}
use mathlib.Core.Option.{Option, none, some}
use Rattle.std.proofs.lemmas.Bool.{cases_eq, cases_lt}
use Rattle.floor.specs.Meaning.{Meaning, Lawful}
use Rattle.network.specs.States.{State, Pole, Plus, Minus, lane_number}
use Rattle.network.specs.Plans.{Feasible}
use Rattle.labelling.specs.Amount.{amount_of}
use Rattle.labelling.specs.Augmenting.{Before}
use Rattle.labelling.specs.Steps.{Move, step, made, made_all, Follow}
use Rattle.labelling.specs.Theorems.{FirstShortest}
use Rattle.labelling.proofs.Made.{step_ended}
use Rattle.labelling.proofs.FirstPath.{first_shortest_path}
use Rattle.labelling.proofs.Moving.{moves_keep_plans_feasible}
use Rattle.labelling.proofs.Runs.{moves_are_few, follow_feasible}
use Rattle.labelling.proofs.Best.{finished_is_best}
use Rattle.calls.specs.Law.{RightMove, RightMoves, most_moves, NoPlanCarriesMore}

-- ---- rows of lanes are the same or not

cases_state : (x y : State) → (x ≡ y) ⊎ (x ≡ y → ⊥)
cases_state (Pole false) (Pole false) = inl refl
cases_state (Pole false) (Pole true) = inr (λ q. let z : ◌≡◌ {A = ℕ} 0 1 = cc in omega arith)
cases_state (Pole true) (Pole false) = inr (λ q. let z : ◌≡◌ {A = ℕ} 0 1 = cc in omega arith)
cases_state (Pole true) (Pole true) = inl refl
cases_state (Pole b) (Plus g) = inr (λ q. let z : ◌≡◌ {A = ℕ} 0 1 = cc in omega arith)
cases_state (Pole b) (Minus g) = inr (λ q. let z : ◌≡◌ {A = ℕ} 0 1 = cc in omega arith)
cases_state (Plus e) (Pole c) = inr (λ q. let z : ◌≡◌ {A = ℕ} 0 1 = cc in omega arith)
cases_state (Plus e) (Plus g) = elim (cases_eq e g) [ inl r ↦ inl (ap Plus r) | inr r ↦ inr (λ q. r (ap lane_number q)) ]
cases_state (Plus e) (Minus g) = inr (λ q. let z : ◌≡◌ {A = ℕ} 0 1 = cc in omega arith)
cases_state (Minus e) (Pole c) = inr (λ q. let z : ◌≡◌ {A = ℕ} 0 1 = cc in omega arith)
cases_state (Minus e) (Plus g) = inr (λ q. let z : ◌≡◌ {A = ℕ} 0 1 = cc in omega arith)
cases_state (Minus e) (Minus g) = elim (cases_eq e g) [ inl r ↦ inl (ap Minus r) | inr r ↦ inr (λ q. r (ap lane_number q)) ]

first_same : (x y : State) (p q : List State) → x ∷ p ≡ y ∷ q → x ≡ y
first_same x y p q h = cc

rest_same : (x y : State) (p q : List State) → x ∷ p ≡ y ∷ q → p ≡ q
rest_same x y p q h = cc

cases_row : (p q : List State) → (p ≡ q) ⊎ (p ≡ q → ⊥)
cases_row [] [] = inl refl
cases_row [] (y ∷ q) = inr (λ r. let z : ◌≡◌ {A = ℕ} 0 1 = cc in omega arith)
cases_row (x ∷ p) [] = inr (λ r. let z : ◌≡◌ {A = ℕ} 0 1 = cc in omega arith)
cases_row (x ∷ p) (y ∷ q) =
    elim (cases_state x y) [
      | inl r ↦ elim (cases_row p q) [ inl s ↦ inl (cc) | inr s ↦ inr (λ t. s (rest_same x y p q t)) ]
      | inr r ↦ inr (λ t. r (first_same x y p q t))
    ]

-- neither of two rows of one length comes before the other if each does
not_both : (p q : List State) → length p ≡ length q → Before p q → Before q p → ⊥
not_both p q same a b =
    elim (cases_eq a.0 b.0) [
      | inl r ↦ omega (arith, a.3, b.3, ap (λ i. lane_number (get_or p i (Pole true))) r, ap (λ i. lane_number (get_or q i (Pole true))) r)
      | inr r ↦ by a.0 b.0 a.1 b.1 a.2 b.2 a.3 b.3 r
    ]
  where
    by : (i j : ℕ) → i < length p → j < length q → ((k : ℕ) → i < k → k < length p → get_or p k (Pole true) ≡ get_or q k (Pole true))
        → ((k : ℕ) → j < k → k < length q → get_or q k (Pole true) ≡ get_or p k (Pole true))
        → lane_number (get_or p i (Pole true)) < lane_number (get_or q i (Pole true)) → lane_number (get_or q j (Pole true)) < lane_number (get_or p j (Pole true))
        → (i ≡ j → ⊥) → ⊥
    by i j li lj up down low high ne =
        elim (cases_lt i j) [
          | inl l ↦ omega (arith, ap lane_number (up j l (omega arith)))
          | inr l ↦ omega (arith, ap lane_number (down i (omega arith) (omega arith)))
        ]

-- ---- one move

abbrev move : List State → ℕ → Move
move p n = record { lanes = p; amount = n }

module _ (M : Meaning) (f : ℕ → ℕ) where
  one_first : (p q : List State) → FirstShortest M f p → FirstShortest M f q → p ≡ q
  one_first p q a b =
      let same : length p ≡ length q = omega (arith, a.shortest q b.augments, b.shortest p a.augments) in
      elim (cases_row p q) [
        | inl r ↦ r
        | inr r ↦ absurd (not_both p q same (a.first q b.augments (sym same) (λ s. r (sym s))) (b.first p a.augments same r))
      ]

  -- at any trays at most one move is right
  pub one_right : (v w : Move) → RightMove M f v → RightMove M f w → v ≡ w
  one_right v w a b =
      let lanes : v.lanes ≡ w.lanes = one_first v.lanes w.lanes a.path b.path in
      let amount : v.amount ≡ w.amount = a.amount ∙ ap (amount_of M f) lanes ∙ sym b.amount in
      ap₂ move lanes amount

module _ (M : Meaning) (laws : Lawful M) (f : ℕ → ℕ) (ok : Feasible M f) where
  -- the move of a step is right
  pub step_right : (v : Move) → step M f ≡ some v → RightMove M f v
  step_right v h =
      let r = step_ended M f v h in
      record { path = (first_shortest_path M f laws ok).0 v h; amount = subst⁻¹ (λ u. u.amount ≡ amount_of M f u.lanes) r.4 refl }

  -- a right move is the move of a step
  pub right_step : (v : Move) → RightMove M f v → step M f ≡ some v
  right_step v r = by (step M f) refl
    where
      by : (o : Option Move) → step M f ≡ o → step M f ≡ some v
      by none q = absurd ((first_shortest_path M f laws ok).1 q v.lanes r.path.augments)
      by (some u) q = q ∙ ap some (one_right M f u v (step_right u q) r)

  pub right_feasible : (v : Move) → RightMove M f v → Feasible M (made v f)
  right_feasible v r = (moves_keep_plans_feasible M f v laws ok (right_step v r)).feasible

  -- a plan that a step can move carries less than another
  pub moved_not_most : (v : Move) → step M f ≡ some v → NoPlanCarriesMore M f → ⊥
  moved_not_most v h most =
      let m = moves_keep_plans_feasible M f v laws ok h in
      omega (arith, m.some, m.grows, most 1 (made v f) (omega arith) m.feasible.balanced (λ d i X l k. omega (arith, m.feasible.within d i l X k)))

  -- a plan without a path carries the most
  pub finished_most : step M f ≡ none → NoPlanCarriesMore M f
  finished_most h q g one bal fits = (finished_is_best M f laws ok h).none_carries_more q g bal fits

-- ---- moves one after another

pub rights_append : (M : Meaning) (vs ws : List Move) (f : ℕ → ℕ) → RightMoves M f vs → RightMoves M (made_all vs f) ws → RightMoves M f (vs ++ ws)
unfolding made_all
rights_append M [] ws f a b = b
rights_append M (v ∷ vs) ws f a b = (a.0, rights_append M vs ws (made v f) a.1 b)

pub made_append : (vs ws : List Move) (f : ℕ → ℕ) → made_all (vs ++ ws) f ≡ made_all ws (made_all vs f)
unfolding made_all
made_append [] ws f = refl
made_append (v ∷ vs) ws f = made_append vs ws (made v f)

pub made_one : (v : Move) (f : ℕ → ℕ) → made_all (v ∷ []) f ≡ made v f
unfolding made_all
made_one v f = refl

module _ (M : Meaning) (laws : Lawful M) where
  rights_follow : (vs : List Move) (f : ℕ → ℕ) → Feasible M f → RightMoves M f vs → Follow M f vs
  rights_follow [] f ok r = tt
  rights_follow (v ∷ vs) f ok r = (right_step M laws f ok v r.0, rights_follow vs (made v f) (right_feasible M laws f ok v r.0) r.1)

  pub rights_feasible : (vs : List Move) (f : ℕ → ℕ) → Feasible M f → RightMoves M f vs → Feasible M (made_all vs f)
  rights_feasible vs f ok r = follow_feasible M laws vs f ok (rights_follow vs f ok r)

  pub rights_few : (vs : List Move) (f : ℕ → ℕ) → Feasible M f → RightMoves M f vs → length vs ≤ most_moves M
  rights_few vs f ok r = (moves_are_few M f vs laws ok (rights_follow vs f ok r)).in_all
