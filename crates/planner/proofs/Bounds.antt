-- No lane of a plan carries more than the top cap, and no move takes more.
use Rattle.std.proofs.Common.{◌≡◌, ℕ, zero, suc, ◌<◌, ◌≤◌, Bool, true, cond, ◌&&◌, refl, ap, inl, inr, arith}
use mathlib.Core.Option.{some}
use Rattle.std.proofs.lemmas.Bool.{cases_lt, eq-eqb}
use Rattle.polymatroid.specs.Kinds.{sum_to}
use Rattle.floor.specs.Floor.{leaving, stock, on}
use Rattle.floor.specs.Meaning.{Meaning, Lawful}
use Rattle.floor.specs.Numbers.{top_cap}
use Rattle.network.specs.Cuts.{set_of}
use Rattle.network.specs.Plans.{Feasible, through}
use Rattle.network.proofs.Cuts.{load_set_of, set_of_below}
use Rattle.labelling.specs.Steps.{Move, step, made}
use Rattle.labelling.proofs.Moving.{moves_keep_plans_feasible}

-- a part of a sum is at most the sum
sum_part : (h : ℕ → ℕ) (n i : ℕ) → i < n → h i ≤ sum_to h n
unfolding sum_to
sum_part h zero i l = absurd (omega arith)
sum_part h (suc n) i l =
    elim (cases_lt i n) [
      | inl b ↦ omega (arith, sum_part h n i b)
      | inr b ↦ let same : i ≡ n = omega arith in omega (arith, ap h same)
    ]

module _ (M : Meaning) (laws : Lawful M) where
  -- the lanes of a side carry no more than the top cap together
  pub side_bounded : (g : ℕ → ℕ) → Feasible M g → (d : Bool) (i : ℕ) → i < M.floor.stations → through M g (λ e. true) d i ≤ top_cap
  side_bounded g ok d i l =
      let X = set_of M d i (λ e. true) in
      let below = set_of_below M d i (λ e. true) in
      omega (arith, load_set_of M d i g (λ e. true), ok.within d i l X below, (laws.laws d i l).1 X below)

  -- so does each lane
  pub lane_bounded : (g : ℕ → ℕ) → Feasible M g → (e : ℕ) → e < M.floor.lanes → g e ≤ top_cap
  unfolding through
  lane_bounded g ok e l =
      let i = M.floor.end leaving e in
      let h : ℕ → ℕ = λ e. cond (on M.floor leaving i e && true) (g e) 0 in
      let here : h e ≡ g e = ap (λ b. cond (b && true) (g e) 0) (eq-eqb i i refl) in
      omega (arith, sum_part h M.floor.lanes e l, side_bounded g ok leaving i (laws.rules.end_on leaving e l))

  -- and so does a move
  pub move_bounded : (g : ℕ → ℕ) → Feasible M g → (v : Move) → step M g ≡ some v → v.amount ≤ top_cap
  move_bounded g ok v h =
      let m = moves_keep_plans_feasible M g v laws ok h in
      omega (arith, m.grows, side_bounded (made v g) m.feasible leaving (stock M.floor) (laws.rules.pole_on leaving))
