-- Moves one after another: their lengths never fall, and they are few.
use Rattle.std.proofs.Common.{◌≡◌, ℕ, zero, suc, ◌+◌, ◌-◌, ◌*◌, ◌<◌, ◌≤◌, Bool, false, cond, eqb, ◌⊎◌, List, [], ◌∷◌, ◌++◌, length, get_or, sym, refl, ap, ◌∙◌, inl, inr, arith}
use mathlib.Core.Path.{subst⁻¹}
use mathlib.Core.Option.{Option, none, some}
use Rattle.levels.specs.Counting.{tally}
use Rattle.levels.proofs.Counting.{tally_same, tally_first}
use Rattle.floor.specs.Meaning.{Meaning, Lawful}
use Rattle.network.specs.States.{State, Pole, augmented}
use Rattle.network.specs.Plans.{Feasible, Fits}
use Rattle.network.specs.Stages.{Stage, Run}
use Rattle.network.proofs.Stages.{lengths_rise}
use Rattle.network.proofs.Bound.{few_share_a_length, few_stages}
use Rattle.labelling.specs.Rules.{ruled}
use Rattle.labelling.specs.Table.{Mark, Outcome, Ended, Finished, label, path}
use Rattle.labelling.specs.Steps.{Move, step, made, Follow, made_all}
use Rattle.labelling.specs.Theorems.{how_many, lanes_at, MovesAreFew, RunsFinish}
use Rattle.labelling.proofs.Pairs.{lets, tightest}
use Rattle.labelling.proofs.Rows.{row_length}
use Rattle.labelling.proofs.Made.{move_along, step_ended, made_is, stage_is}
use Rattle.labelling.proofs.Moving.{step_fits, moves_keep_plans_feasible}

-- what a stage needs of an outcome
path_of : Outcome → ℕ → State
path_of (Ended l e t) = path l e t
path_of (Finished t) = λ i. Pole false

length_of : Outcome → ℕ
length_of (Ended l e t) = suc l
length_of (Finished t) = 0

lets_of : Meaning → (ℕ → ℕ) → Outcome → ℕ
lets_of M f (Ended l e t) = lets M f (path l e t) (suc l)
lets_of M f (Finished t) = 0

pair_of : Meaning → (ℕ → ℕ) → Outcome → ℕ
pair_of M f (Ended l e t) = tightest M f (path l e t) (suc l)
pair_of M f (Finished t) = 0

-- the trays before the move at place s
trays_at : List Move → (ℕ → ℕ) → ℕ → ℕ → ℕ
trays_at vs f zero = f
trays_at [] f (suc s) = f
trays_at (v ∷ vs) f (suc s) = trays_at vs (made v f) s

nothing : Move
nothing = record { lanes = []; amount = 0 }

-- v is the move at the trays f, as a stage
record Made (M : Meaning) (f : ℕ → ℕ) (o : Outcome) (v : Move) : Type 0 where
  stage : Stage M f (path_of o) (length_of o) (lets_of M f o) (pair_of M f o)
  leaves : made v f ≡ augmented (lets_of M f o) (path_of o) (length_of o) f
  lanes : length v.lanes ≡ length_of o - 1

made_at : (M : Meaning) → Lawful M → (f : ℕ → ℕ) → Fits M f → (v : Move) → step M f ≡ some v → Made M f (label (ruled M f) M.floor.lanes) v
unfolding path_of length_of lets_of pair_of
made_at M laws f fits v h = by r.0 r.1 r.2 r.3 r.4
  where
    r : (l e : ℕ) × (t : List Mark) × (label (ruled M f) M.floor.lanes ≡ Ended l e t) × (v ≡ move_along M f l e t)
    r = step_ended M f v h

    by : (l e : ℕ) (t : List Mark) → label (ruled M f) M.floor.lanes ≡ Ended l e t → v ≡ move_along M f l e t → Made M f (label (ruled M f) M.floor.lanes) v
    by l e t q o =
        subst⁻¹ (λ a. Made M f a v) q
        (subst⁻¹ (Made M f (Ended l e t)) o (record {
          stage = stage_is M laws f fits l e t q;
          leaves = made_is M laws f fits l e t q;
          lanes = omega (arith, row_length (path l e t) l);
        }))

module _ (M : Meaning) (laws : Lawful M) where
  follow_at : (vs : List Move) (f : ℕ → ℕ) (s : ℕ) → Fits M f → Follow M f vs → s < length vs
      → Fits M (trays_at vs f s) × (step M (trays_at vs f s) ≡ some (get_or vs s nothing)) × (trays_at vs f (suc s) ≡ made (get_or vs s nothing) (trays_at vs f s))
  unfolding trays_at
  follow_at [] f s fits h l = absurd (omega arith)
  follow_at (v ∷ vs) f zero fits h l = (fits, h.0, refl)
  follow_at (v ∷ vs) f (suc s) fits h l = follow_at vs (made v f) s (step_fits M f v laws fits h.0) h.1 (omega arith)

  module _ (f : ℕ → ℕ) (fits : Fits M f) (vs : List Move) (follow : Follow M f vs) where
    out : ℕ → Outcome
    out s = label (ruled M (trays_at vs f s)) M.floor.lanes

    at : (s : ℕ) → s < length vs → Made M (trays_at vs f s) (out s) (get_or vs s nothing)
    unfolding out
    at s l =
        let a = follow_at vs f s fits follow l in
        made_at M laws (trays_at vs f s) a.0 (get_or vs s nothing) a.1

    run : Run M (length vs)
    run = record {
      trays = trays_at vs f;
      path = λ s. path_of (out s);
      length = λ s. length_of (out s);
      amt = λ s. lets_of M (trays_at vs f s) (out s);
      pair = λ s. pair_of M (trays_at vs f s) (out s);
      stage = λ s l. (at s l).stage;
      next = λ s l. (follow_at vs f s fits follow (omega arith)).2 ∙ (at s (omega arith)).leaves;
    }

    never_fall : (i j : ℕ) → i ≤ j → j < length vs → lanes_at vs i ≤ lanes_at vs j
    unfolding run nothing
    never_fall i j h l = omega (arith, lengths_rise M (length vs) run i j h l, (at i (omega arith)).lanes, (at j l).lanes)

how_many_tally : (t : Move → Bool) (vs : List Move) → how_many t vs ≡ tally (λ i. t (get_or vs i nothing)) (length vs)
unfolding how_many tally
how_many_tally t [] = refl
how_many_tally t (v ∷ vs) =
    let one : suc (length vs) ≡ length (v ∷ vs) = omega arith in
    ap (λ n. cond (t v) 1 0 + n) (how_many_tally t vs) ∙ sym (tally_first (λ i. t (get_or (v ∷ vs) i nothing)) (length vs))
    ∙ ap (tally (λ i. t (get_or (v ∷ vs) i nothing))) one

pub moves_are_few : MovesAreFew
unfolding run
moves_are_few M f vs laws ok follow = record {
  never_fall = never_fall M laws f ok.within vs follow;
  share_a_length = λ k.
      let a = how_many_tally (λ v. eqb (length v.lanes) k) vs in
      let b = tally_same (λ i. eqb (length (get_or vs i nothing).lanes) k) (λ s. eqb ((run M laws f ok.within vs follow).length s - 1) k) (length vs)
      (λ s l. ap (λ n. eqb n k) (at M laws f ok.within vs follow s l).lanes) in
      omega (arith, a, b, few_share_a_length M (length vs) (run M laws f ok.within vs follow) k);
  in_all = omega (arith, few_stages M (length vs) (run M laws f ok.within vs follow));
}

-- the trays after them are a plan again
pub follow_feasible : (M : Meaning) → Lawful M → (vs : List Move) (f : ℕ → ℕ) → Feasible M f → Follow M f vs → Feasible M (made_all vs f)
unfolding made_all
follow_feasible M laws [] f ok h = ok
follow_feasible M laws (v ∷ vs) f ok h = follow_feasible M laws vs (made v f) (moves_keep_plans_feasible M f v laws ok h.0).feasible h.1

-- one move more
pub follow_more : (M : Meaning) (vs : List Move) (f : ℕ → ℕ) (v : Move) → Follow M f vs → step M (made_all vs f) ≡ some v → Follow M f (vs ++ v ∷ [])
unfolding made_all
follow_more M [] f v h o = (o, tt)
follow_more M (u ∷ vs) f v h o = (h.0, follow_more M vs (made u f) v h.1 o)

-- n steps, or fewer where the plan is finished before
steps : (M : Meaning) (n : ℕ) (f : ℕ → ℕ) → (vs : List Move) × Follow M f vs × ((step M (made_all vs f) ≡ none) ⊎ (length vs ≡ n))
unfolding made_all
steps M zero f = ([], tt, inr refl)
steps M (suc n) f = by (step M f) refl (λ v. steps M n (made v f))
  where
    by : (o : Option Move) → step M f ≡ o
        → ((v : Move) → (vs : List Move) × Follow M (made v f) vs × ((step M (made_all vs (made v f)) ≡ none) ⊎ (length vs ≡ n)))
        → (vs : List Move) × Follow M f vs × ((step M (made_all vs f) ≡ none) ⊎ (length vs ≡ suc n))
    by none q next = ([], tt, inl q)
    by (some v) q next =
        let r = next v in
        (v ∷ r.0, (q, r.1), elim r.2 [ inl a ↦ inl a | inr a ↦ inr (omega arith) ])

pub runs_finish : RunsFinish
runs_finish M f laws ok =
    let r = steps M (suc (2 * (M.floor.lanes * (M.floor.lanes * M.floor.lanes)))) f in
    let few = (moves_are_few M f r.0 laws ok r.1).in_all in
    (r.0, r.1, few, elim r.2 [ inl a ↦ a | inr a ↦ absurd (omega arith) ])
