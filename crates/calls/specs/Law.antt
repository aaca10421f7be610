-- The promise over every list of calls, in the words of the subject.
use Rattle.std.specs.Prelude.{◌≡◌, ℕ, ◌*◌, ◌<◌, ◌≤◌, Bool, true, false, ◌⊎◌, List, [], ◌∷◌, length, Some, None, Ok, Err, ◌==◌, ◌≢◌}
use Rattle.floor.specs.Floor.{stock, despatch}
use Rattle.floor.specs.Meaning.{Meaning}
use Rattle.network.specs.Plans.{Feasible, Balanced, FitsBy, total}
use Rattle.network.specs.Cuts.{crosses, capacity}
use Rattle.labelling.specs.Amount.{amount_of}
use Rattle.labelling.specs.Steps.{Move, made, made_all}
use Rattle.labelling.specs.Theorems.{FirstShortest}
use Rattle.calls.specs.declared.Unfit.TheVariants.{Length, Load, Unfinished}
use Rattle.calls.specs.Events.{Event, loaded, stepped, ran, told_total, told_moves, told_trays, told_cut, History, at, base, since, marked}

-- ---- moves

-- a move at the trays f: along the first shortest augmenting path, by its amount
pub record RightMove (M : Meaning) (f : ℕ → ℕ) (v : Move) : Type 0 where
  pub path : FirstShortest M f v.lanes
  pub amount : v.amount ≡ amount_of M f v.lanes

-- moves one after another, each at the trays that those before it leave
abbrev pub RightMoves : Meaning → (ℕ → ℕ) → List Move → Type 0
RightMoves M f [] = Unit {0}
RightMoves M f (v ∷ vs) = RightMove M f v × RightMoves M (made v f) vs

-- no more moves than this follow one another
abbrev pub most_moves : Meaning → ℕ
most_moves M = 2 * (M.floor.lanes * (M.floor.lanes * M.floor.lanes))

-- ---- plans that carry the most

-- no other plan carries more: for any whole q, balanced numbers g that stay within q times the caps carry at most q times as many
abbrev pub NoPlanCarriesMore : Meaning → (ℕ → ℕ) → Type 0
NoPlanCarriesMore M f = (q : ℕ) (g : ℕ → ℕ) → 1 ≤ q → Balanced M g → FitsBy M q g → total M g ≤ q * total M f

-- the stations that are near, and the lanes that count where they leave, as the bytes of a cut show them: 1 or 0 for a station,
-- `U`, `L` or `-` for a lane
abbrev pub shown_near : List ℕ → ℕ → Bool
shown_near ss i = at ss i == 1

abbrev pub shown_upper : List ℕ → ℕ → Bool
shown_upper ls e = at ls e == 85

-- the bytes show a cut with exactly the trays carried as its capacity, and no cut has less
pub record ShowsCut (M : Meaning) (f : ℕ → ℕ) (ls ss : List ℕ) : Type 0 where
  pub lanes : length ls ≡ M.floor.lanes
  pub stations : length ss ≡ M.floor.stations
  pub near_or_far : (i : ℕ) → i < M.floor.stations → (at ss i ≡ 1) ⊎ (at ss i ≡ 0)
  pub outside : (e : ℕ) → e < M.floor.lanes → crosses M (shown_near ss) e ≡ false → at ls e ≡ 45
  pub crossing : (e : ℕ) → e < M.floor.lanes → crosses M (shown_near ss) e ≡ true → (at ls e ≡ 85) ⊎ (at ls e ≡ 76)
  pub stock_near : at ss (stock M.floor) ≡ 1
  pub despatch_far : at ss (despatch M.floor) ≡ 0
  pub exact : capacity M (shown_near ss) (shown_upper ls) ≡ total M f
  pub no_cut_less : (near upper : ℕ → Bool) → near (stock M.floor) ≡ true → near (despatch M.floor) ≡ false → total M f ≤ capacity M near upper

-- ---- the trays of a plan

-- xs are the trays after the calls h: those of the last accepted load, or none, changed by as many moves as were answered since,
-- and by nothing else. They are whole numbers, one for each lane; every set of lanes stays within its cap, and only stock and
-- despatch gain or lose any
pub record Carried (M : Meaning) (h : History) (xs : List ℕ) : Type 0 where
  pub moves : List Move
  pub right : RightMoves M (at (base M h)) moves
  pub counted : length moves ≡ since h
  pub few : since h ≤ most_moves M
  pub one_each : length xs ≡ M.floor.lanes
  pub changed : (e : ℕ) → e < M.floor.lanes → at xs e ≡ made_all moves (at (base M h)) e
  pub feasible : Feasible M (at xs)

-- there is only one such list: two lists of trays after the same calls are the same
abbrev pub TraysAreDetermined : Type 0
TraysAreDetermined = (M : Meaning) (h : History) (xs ys : List ℕ) → Carried M h xs → Carried M h ys → xs ≡ ys

-- ---- what each call says

-- the answer of a call is right, where xs are the trays after the calls h before it
abbrev pub Says : Meaning → History → List ℕ → Event → Type 0
-- a load is taken exactly when it has a number for each lane and breaks no cap and no balance; the length is judged first
Says M h xs (loaded ys (Ok _)) = (length ys ≡ M.floor.lanes) × Feasible M (at ys)
Says M h xs (loaded ys (Err Length)) = length ys ≡ M.floor.lanes → ⊥
Says M h xs (loaded ys (Err Load)) = (length ys ≡ M.floor.lanes) × (Feasible M (at ys) → ⊥)
Says M h xs (loaded ys (Err Unfinished)) = ⊥
-- a step answers finished exactly when no plan carries more
Says M h xs (stepped None) = NoPlanCarriesMore M (at xs)
Says M h xs (stepped (Some p)) =
    ((v : Move) × RightMove M (at xs) v × (p.0 ≡ v.amount) × (p.1 ≡ length v.lanes)) × (NoPlanCarriesMore M (at xs) → ⊥)
-- a run makes as many moves as its budget allows, or stops at finished; with a budget above the bound it ends finished
Says M h xs (ran b n true) =
    ((vs : List Move) × RightMoves M (at xs) vs × (length vs ≡ n) × NoPlanCarriesMore M (made_all vs (at xs))) × (n ≤ b)
Says M h xs (ran b n false) =
    ((vs : List Move) × RightMoves M (at xs) vs × (length vs ≡ n)) × (n ≡ b) × (b ≤ most_moves M)
Says M h xs (told_total n) = n ≡ total M (at xs)
Says M h xs (told_moves n) = (n ≡ since h) × (n ≤ most_moves M)
-- a refused reading leaves its buffers as they were
Says M h xs (told_trays before (Ok _) after) = (length before ≡ M.floor.lanes) × (after ≡ xs)
Says M h xs (told_trays before (Err Length) after) = (length before ≢ M.floor.lanes) × (after ≡ before)
Says M h xs (told_trays before (Err Load) after) = ⊥
Says M h xs (told_trays before (Err Unfinished) after) = ⊥
Says M h xs (told_cut ls ss (Ok _) ls' ss') =
    (marked h ≡ true) × (length ls ≡ M.floor.lanes) × (length ss ≡ M.floor.stations) × ShowsCut M (at xs) ls' ss'
Says M h xs (told_cut ls ss (Err Length) ls' ss') =
    (marked h ≡ true) × ((length ls ≡ M.floor.lanes) × (length ss ≡ M.floor.stations) → ⊥) × (ls' ≡ ls) × (ss' ≡ ss)
Says M h xs (told_cut ls ss (Err Load) ls' ss') = ⊥
Says M h xs (told_cut ls ss (Err Unfinished) ls' ss') = (marked h ≡ false) × (ls' ≡ ls) × (ss' ≡ ss)

-- every call of the list met a plan that carried its trays, and answered rightly
abbrev pub EveryCallRight : Meaning → History → Type 0
EveryCallRight M [] = Unit {0}
EveryCallRight M (e ∷ h) = ((xs : List ℕ) × Carried M h xs × Says M h xs e) × EveryCallRight M h

-- the promise: every call of the list was right, and the plan that is left carries its trays. By `TraysAreDetermined` the calls
-- and their answers leave no choice of these trays, here and at every call before
pub record Promise (M : Meaning) (h : History) : Type 0 where
  pub calls : EveryCallRight M h
  pub trays : List ℕ
  pub carried : Carried M h trays
