-- A move keeps the balance, and adds its amount to the total.
use Rattle.std.proofs.Common.{◌≡◌, ℕ, zero, suc, ◌+◌, ◌<◌, Bool, true, false, cond, ◌&&◌, eqb, sym, refl, ap, ◌∙◌, inl, inr, arith}
use Rattle.std.proofs.lemmas.Bool.{cases_eq, eq-eqb, ne_eqb}
use Rattle.polymatroid.specs.Sets.{has}
use Rattle.floor.specs.Floor.{on, place}
use Rattle.floor.specs.Meaning.{Meaning, Lawful}
use Rattle.network.specs.States.{State, Pole, Plus, Minus, at, OnFloor, augmented}
use Rattle.network.proofs.Sums.{part_at, given, taken}
use Rattle.polymatroid.specs.Kinds.{sum_to}
use Rattle.network.specs.Cuts.{set_of}
use Rattle.network.specs.Plans.{through}
use Rattle.network.specs.Moves.{Moving, MoveBalances}
use Rattle.floor.proofs.Places.{place_below}
use Rattle.network.proofs.Hits.{sum_same, sum_both, sum_shift, sum_none}
use Rattle.network.proofs.Paths.{states_differ}
use Rattle.network.proofs.Loads.{load_walked}
use Rattle.network.proofs.Cuts.{has_set_of, load_set_of, sum_at}

module _ (M : Meaning) (laws : Lawful M) (i n : ℕ) where
  All : Bool → ℕ
  All d = set_of M d i (λ e. true)

  -- n for a lane state that arrives at i, and for one that departs from it
  arr : State → ℕ
  arr (Pole b) = 0
  arr (Plus e) = cond (eqb (M.floor.end true e) i) n 0
  arr (Minus e) = cond (eqb (M.floor.end false e) i) n 0

  dep : State → ℕ
  dep (Pole b) = 0
  dep (Plus e) = cond (eqb (M.floor.end false e) i) n 0
  dep (Minus e) = cond (eqb (M.floor.end true e) i) n 0

  part_all : (d : Bool) (e : ℕ) → e < M.floor.lanes → part_at M n d i (All d) e ≡ cond (eqb (M.floor.end d e) i) n 0
  unfolding All
  part_all d e l = by (eqb (M.floor.end d e) i) refl
    where
      by : (b : Bool) → eqb (M.floor.end d e) i ≡ b → cond (b && has (All d) (place M.floor d i e)) n 0 ≡ cond b n 0
      by true o = ap (λ x. cond x n 0) (has_set_of M d i (λ e. true) (place M.floor d i e) (place_below M.floor d i e l o))
      by false o = refl

  arrives : (x : State) → OnFloor M x → given M n true i (All true) x + taken M n false i (All false) x ≡ arr x
  unfolding given taken arr
  arrives (Pole b) o = refl
  arrives (Plus e) o = omega (arith, part_all true e o)
  arrives (Minus e) o = omega (arith, part_all false e o)

  departs : (x : State) → OnFloor M x → given M n false i (All false) x + taken M n true i (All true) x ≡ dep x
  unfolding given taken dep
  departs (Pole b) o = refl
  departs (Plus e) o = omega (arith, part_all false e o)
  departs (Minus e) o = omega (arith, part_all true e o)

  A : State → ℕ
  A x = cond (eqb (at M true x) i) n 0

  D : State → ℕ
  D x = cond (eqb (at M false x) i) n 0

  off : (a : ℕ) → (a ≡ i → ⊥) → cond (eqb a i) n 0 ≡ 0
  off a h = ap (λ b. cond b n 0) (ne_eqb a i h)

  module _ (kin : i < M.floor.stations) where
    none : cond (eqb M.floor.stations i) n 0 ≡ 0
    none = off M.floor.stations (λ q. omega arith)

    dep_is : (i ≡ M.floor.pole true → ⊥) → (x : State) → dep x ≡ D x
    unfolding dep D
    dep_is ne (Pole true) = sym (off (M.floor.pole true) (λ q. ne (sym q)))
    dep_is ne (Pole false) = sym none
    dep_is ne (Plus e) = refl
    dep_is ne (Minus e) = refl

    -- an arrival, but for the start
    arr_is : (x : State) → (x ≡ Pole false → ⊥) → A x ≡ arr x
    unfolding arr A
    arr_is (Pole true) ne = none
    arr_is (Pole false) ne = absurd (ne refl)
    arr_is (Plus e) ne = refl
    arr_is (Minus e) ne = refl

module _ (M : Meaning) (f : ℕ → ℕ) (P : ℕ → State) (N n : ℕ) (m : Moving M f P N n) (i : ℕ) (kin : i < M.floor.stations) (ne : i ≡ M.floor.pole true → ⊥) where
  -- the arrivals at i are the departures from it, but for the start
  c : ℕ
  c = cond (eqb (M.floor.pole false) i) n 0

  some : 0 < N
  some =
      elim (cases_eq N 0) [
        | inl q ↦ let a = m.path.begin in let b = m.path.finish in let d = ap P q in let z : ◌≡◌ {A = ℕ} 0 1 = cc in absurd (omega arith)
        | inr q ↦ omega arith
      ]

  each : (r : ℕ) → r < N → A M m.laws i n (P r) ≡ arr M m.laws i n (P r) + cond (eqb 0 r) c 0
  unfolding A arr c
  each zero l = rw m.path.begin (omega arith)
  each (suc r) l =
      let z : cond (eqb 0 (suc r)) c 0 ≡ 0 = ap (λ b. cond b c 0) (ne_eqb 0 (suc r) (λ q. omega arith)) in
      omega (
        arith,
        arr_is M m.laws i n kin (P (suc r))
            (λ q. states_differ M f P N m.path 0 (suc r) (omega arith) (omega arith) (m.path.begin ∙ sym q)),
      )

  around : sum_to (λ r. dep M m.laws i n (P r)) N ≡ sum_to (λ r. arr M m.laws i n (P r)) N + c
  unfolding D dep A
  around =
      let a = sum_same (λ r. A M m.laws i n (P r)) (λ r. arr M m.laws i n (P r) + cond (eqb 0 r) c 0) N each in
      let b = sum_both (λ r. arr M m.laws i n (P r)) (λ r. cond (eqb 0 r) c 0) N in
      let d = sum_at 0 N (λ r. c) some in
      let e = sum_same (λ r. A M m.laws i n (P r)) (λ r. D M m.laws i n (P (suc r))) N (λ r l. ap (λ x. cond (eqb x i) n 0) (m.path.meet r l)) in
      let g = sum_shift (λ r. D M m.laws i n (P r)) N in
      let h = sum_same (λ r. dep M m.laws i n (P r)) (λ r. D M m.laws i n (P r)) N (λ r l. dep_is M m.laws i n kin ne (P r)) in
      let z0 : D M m.laws i n (P 0) ≡ 0 = rw m.path.begin (none M m.laws i n kin) in
      let zN : D M m.laws i n (P N) ≡ 0 = rw m.path.finish (off M m.laws i n (M.floor.pole true) (λ q. ne (sym q))) in
      omega arith

  -- what enters and what leaves, before and after
  flows : through M (augmented n P N f) (λ e. true) false i + through M f (λ e. true) true i
      ≡ through M f (λ e. true) false i + through M (augmented n P N f) (λ e. true) true i + c
  unfolding All
  flows =
      let t = λ (e : ℕ). true in
      let a = load_walked M f P N n m.path m.least true i (set_of M true i t) N (omega arith) in
      let b = load_walked M f P N n m.path m.least false i (set_of M false i t) N (omega arith) in
      let p = sum_same (λ r. given M n true i (set_of M true i t) (P r) + taken M n false i (set_of M false i t) (P r)) (λ r. arr M m.laws i n (P r)) N
      (λ r l. arrives M m.laws i n (P r) (m.path.ok r (omega arith))) in
      let q = sum_same (λ r. given M n false i (set_of M false i t) (P r) + taken M n true i (set_of M true i t) (P r)) (λ r. dep M m.laws i n (P r)) N
      (λ r l. departs M m.laws i n (P r) (m.path.ok r (omega arith))) in
      let p2 = sum_both (λ r. given M n true i (set_of M true i t) (P r)) (λ r. taken M n false i (set_of M false i t) (P r)) N in
      let q2 = sum_both (λ r. given M n false i (set_of M false i t) (P r)) (λ r. taken M n true i (set_of M true i t) (P r)) N in
      omega (arith, around, load_set_of M true i f t, load_set_of M false i f t, load_set_of M true i (augmented n P N f) t, load_set_of M false i (augmented n P N f) t)

-- nothing enters the stock
stock_in : (M : Meaning) → Lawful M → (g : ℕ → ℕ) → through M g (λ e. true) true (M.floor.pole false) ≡ 0
unfolding through
stock_in M laws g =
    sum_none (λ e. cond (on M.floor true (M.floor.pole false) e && true) (g e) 0) M.floor.lanes
    (λ e l. ap (λ b. cond (b && true) (g e) 0) (ne_eqb (M.floor.end true e) (M.floor.pole false) (laws.rules.poles_clear false e l)))

pub move_balances : MoveBalances
unfolding c
move_balances M f P N n m bal = (
  (λ i kin a b.
      let z : cond (eqb (M.floor.pole false) i) n 0 ≡ 0 = ap (λ x. cond x n 0) (ne_eqb (M.floor.pole false) i (λ q. a (sym q))) in
      omega (arith, flows M f P N n m i kin b, bal i kin a b)),
  (let s : cond (eqb (M.floor.pole false) (M.floor.pole false)) n 0 ≡ n = ap (λ x. cond x n 0) (eq-eqb (M.floor.pole false) (M.floor.pole false) refl) in
      omega (arith, flows M f P N n m (M.floor.pole false) (m.laws.rules.pole_on false) m.laws.rules.poles_differ, stock_in M m.laws f, stock_in M m.laws (augmented n P N f))),
)
