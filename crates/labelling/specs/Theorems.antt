-- Why a plan is right, in the words of the subject.
use Rattle.std.specs.Prelude.{◌≡◌, ℕ, ◌+◌, ◌*◌, ◌<◌, ◌≤◌, Bool, true, false, cond, List, [], ◌∷◌, length, get_or, ◌≢◌, nat_eq, slice_index_or}
use Rattle.std.proofs.Math.Option.{none, some}
use Rattle.floor.specs.Floor.{stock, despatch}
use Rattle.floor.specs.Meaning.{Meaning, Lawful}
use Rattle.network.specs.States.{State, Pole, Minus}
use Rattle.network.specs.Plans.{Fits, Feasible, Balanced, FitsBy, total}
use Rattle.network.specs.Cuts.{capacity}
use Rattle.labelling.specs.Table.{label}
use Rattle.labelling.specs.Augmenting.{Augmenting, ResidualPath, Augments, Before}
use Rattle.labelling.specs.Steps.{Move, step, made, Follow, outcome, labels, made_all}
use Rattle.labelling.specs.Near.{near, unlabelled}
use Rattle.labelling.specs.Cases.{Case, FullPlus, FullMinus, Opening, ruled_by, Listed}

-- ---- augmenting paths are the paths of the residual relation through distinct lanes

-- what the rules word by full lanes and tight sets, amounts of pairs say too
abbrev pub AugmentingIsResidual : Type 0
AugmentingIsResidual =
    (M : Meaning) (f : ℕ → ℕ) (Q : ℕ → State) (k : ℕ) → Lawful M → Fits M f
    → (Augmenting M f Q k → ResidualPath M f Q k) × (ResidualPath M f Q k → Augmenting M f Q k)

-- ---- a step finds the first shortest path

-- p is an augmenting path, none has fewer lanes, and every other of as many lanes comes after it
pub record FirstShortest (M : Meaning) (f : ℕ → ℕ) (p : List State) : Type 0 where
  pub augments : Augments M f p
  pub shortest : (q : List State) → Augments M f q → length p ≤ length q
  pub first : (q : List State) → Augments M f q → length q ≡ length p → (q ≢ p) → Before p q

-- there is no augmenting path
abbrev pub NoPath : Meaning → (ℕ → ℕ) → Type 0
NoPath M f = (q : List State) → Augments M f q → ⊥

-- a step makes its move along the first shortest path; where it makes none, there is no path
abbrev pub FirstShortestPath : Type 0
FirstShortestPath =
    (M : Meaning) (f : ℕ → ℕ) → Lawful M → Feasible M f
    → ((v : Move) → step M f ≡ some v → FirstShortest M f v.lanes) × (step M f ≡ none → NoPath M f)

-- ---- a move keeps the plan feasible

-- the amount is at least 1, the trays after the move are a plan, and the total has grown by the amount
pub record MoveMade (M : Meaning) (f : ℕ → ℕ) (v : Move) : Type 0 where
  pub some : 1 ≤ v.amount
  -- the - lanes carry what is taken from them
  pub carried : (i e : ℕ) → i < length v.lanes → slice_index_or v.lanes i (Pole true) ≡ Minus e → v.amount ≤ f e
  pub feasible : Feasible M (made v f)
  pub grows : total M (made v f) ≡ total M f + v.amount

-- so it is of every move that a step makes
abbrev pub MovesKeepPlansFeasible : Type 0
MovesKeepPlansFeasible =
    (M : Meaning) (f : ℕ → ℕ) (v : Move) → Lawful M → Feasible M f → step M f ≡ some v → MoveMade M f v

-- ---- moves are few

-- how many moves of the list pass the test
unfoldable pub how_many : (Move → Bool) → List Move → ℕ
how_many t [] = 0
how_many t (v ∷ vs) = cond (t v) 1 0 + how_many t vs

-- how many lanes the move at place i has
abbrev pub lanes_at : List Move → ℕ → ℕ
lanes_at vs i = length (get_or vs i (record { lanes = []; amount = 0 })).lanes

-- the number of lanes never falls; at most 2·m·m moves have the same; there are at most 2·m·m·m
pub record Few (m : ℕ) (vs : List Move) : Type 0 where
  pub never_fall : (i j : ℕ) → i ≤ j → j < length vs → lanes_at vs i ≤ lanes_at vs j
  pub share_a_length : (k : ℕ) → how_many (λ v. nat_eq (length v.lanes) k) vs ≤ 2 * (m * m)
  pub in_all : length vs ≤ 2 * (m * (m * m))

-- so it is of every list of moves, each made by a step at the trays that those before it leave
abbrev pub MovesAreFew : Type 0
MovesAreFew =
    (M : Meaning) (f : ℕ → ℕ) (vs : List Move) → Lawful M → Feasible M f → Follow M f vs → Few M.floor.lanes vs

-- from every plan some list of moves, of at most 2·m·m·m, leads to a finished one
abbrev pub RunsFinish : Type 0
RunsFinish =
    (M : Meaning) (f : ℕ → ℕ) → Lawful M → Feasible M f
    → (vs : List Move) × Follow M f vs × (length vs ≤ 2 * (M.floor.lanes * (M.floor.lanes * M.floor.lanes))) × (step M (made_all vs f) ≡ none)

-- ---- finished: no plan carries more

-- the cut of the labels has the total as its capacity; no cut, whatever stations are near and whatever lanes count where they leave,
-- has less;
-- and nothing that is balanced and keeps within q times the caps, for whatever q, carries more than q times the total
pub record Best (M : Meaning) (f : ℕ → ℕ) : Type 0 where
  pub stock_near : near M f (labels M f) (stock M.floor) ≡ true
  pub despatch_far : near M f (labels M f) (despatch M.floor) ≡ false
  pub cut : capacity M (near M f (labels M f)) (unlabelled (labels M f)) ≡ total M f
  pub no_cut_less : (is_near upper : ℕ → Bool) → is_near (stock M.floor) ≡ true → is_near (despatch M.floor) ≡ false
      → total M f ≤ capacity M is_near upper
  pub none_carries_more : (q : ℕ) (g : ℕ → ℕ) → Balanced M g → FitsBy M q g → total M g ≤ q * total M f

-- so it is of a plan at which a step makes no move
abbrev pub FinishedIsBest : Type 0
FinishedIsBest = (M : Meaning) (f : ℕ → ℕ) → Lawful M → Feasible M f → step M f ≡ none → Best M f

-- some plan carries more than f
abbrev pub MoreCarried : Meaning → (ℕ → ℕ) → Type 0
MoreCarried M f = (g : ℕ → ℕ) × Feasible M g × (total M f < total M g)

-- with an augmenting path some plan carries more, and without one none does
abbrev pub PathMissingWhenBest : Type 0
PathMissingWhenBest =
    (M : Meaning) (f : ℕ → ℕ) → Lawful M → Feasible M f
    → ((q : List State) → Augments M f q → MoreCarried M f) × (NoPath M f → MoreCarried M f → ⊥)

-- ---- the order of the three cases of a scan does not matter

-- whatever list the cases are tried by, so long as it has all three, the labelling comes out the same
abbrev pub AnyOrder : Type 0
AnyOrder =
    (M : Meaning) (f : ℕ → ℕ) (cs : List Case) → Lawful M → Listed FullPlus cs → Listed FullMinus cs → Listed Opening cs
    → label (ruled_by M f cs) M.floor.lanes ≡ outcome M f
