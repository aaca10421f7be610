-- What a set of a station's lanes carries after a move.
use Rattle.std.proofs.Common.{◌≡◌, ℕ, zero, suc, ◌+◌, ◌-◌, ◌<◌, ◌≤◌, Bool, true, false, cond, eqb, sym, refl, ap, ◌∙◌, inl, inr, arith}
use Rattle.std.proofs.lemmas.Bool.{cases_Bool, cases_eq, both_ways, ne_eqb, eq-eqb}
use Rattle.polymatroid.specs.Sets.{has}
use Rattle.polymatroid.specs.Side.{load, plus, minus}
use Rattle.polymatroid.proofs.Side.{load_same, load_plus, load_minus}
use Rattle.floor.specs.Floor.{on, place, count, lane_at}
use Rattle.floor.specs.Meaning.{Meaning}
use Rattle.network.specs.Plans.{trays}
use Rattle.network.specs.States.{State, Pole, Plus, Minus, amount, Path, applied, augmented}
use Rattle.network.proofs.Sums.{part_at, given, taken}
use Rattle.polymatroid.specs.Kinds.{sum_to}
use Rattle.floor.proofs.Places.{place_below, lane_at_there, lane_at_place}
use Rattle.network.proofs.Paths.{touches, walked_fresh}

module _ (M : Meaning) (d : Bool) (i : ℕ) where
  -- the lane at a position is e just where the position is that of e
  at_place : (e p : ℕ) → e < M.floor.lanes → on M.floor d i e ≡ true → p < count M.floor d i → eqb (lane_at M.floor d i p) e ≡ eqb p (place M.floor d i e)
  at_place e p l o h =
      let a = lane_at_there M.floor d i p h in
      let b = lane_at_place M.floor d i e l o in
      elim (cases_eq p (place M.floor d i e)) [
        | inl q ↦ eq-eqb (lane_at M.floor d i p) e (ap (lane_at M.floor d i) q ∙ b) ∙ sym (eq-eqb p (place M.floor d i e) q)
        | inr q ↦
            ne_eqb (lane_at M.floor d i p) e (λ r. q (sym a.2 ∙ ap (place M.floor d i) r))
            ∙ sym (ne_eqb p (place M.floor d i e) q)
      ]

  off_place : (e p : ℕ) → on M.floor d i e ≡ false → p < count M.floor d i → eqb (lane_at M.floor d i p) e ≡ false
  off_place e p o h =
      let a = lane_at_there M.floor d i p h in
      ne_eqb (lane_at M.floor d i p) e (λ r. both_ways (on M.floor d i e) o (ap (on M.floor d i) (sym r) ∙ a.1))

  pub load_plus_lane : (g : ℕ → ℕ) (e n X : ℕ) → e < M.floor.lanes
      → load (trays M (plus g e n) d i) (count M.floor d i) X ≡ load (trays M g d i) (count M.floor d i) X + part_at M n d i X e
  unfolding plus
  load_plus_lane g e n X l =
      elim (cases_Bool (on M.floor d i e)) [
        | inl o ↦
            let a = load_plus (trays M g d i) (place M.floor d i e) n (count M.floor d i) X (place_below M.floor d i e l o) in
            let b = load_same (trays M (plus g e n) d i) (plus (trays M g d i) (place M.floor d i e) n) (count M.floor d i) X X
            (λ p h. ap (λ t. cond (has X p) (cond t (trays M g d i p + n) (trays M g d i p)) 0) (at_place e p l o h)) in
            grind arith
        | inr o ↦
            let b = load_same (trays M (plus g e n) d i) (trays M g d i) (count M.floor d i) X X
            (λ p h. ap (λ t. cond (has X p) (cond t (trays M g d i p + n) (trays M g d i p)) 0) (off_place e p o h)) in
            grind arith
      ]

  pub load_minus_lane : (g : ℕ → ℕ) (e n X : ℕ) → e < M.floor.lanes → n ≤ g e
      → load (trays M (minus g e n) d i) (count M.floor d i) X + part_at M n d i X e ≡ load (trays M g d i) (count M.floor d i) X
  unfolding minus
  load_minus_lane g e n X l c =
      elim (cases_Bool (on M.floor d i e)) [
        | inl o ↦
            let a = load_minus (trays M g d i) (place M.floor d i e) n (count M.floor d i) X (place_below M.floor d i e l o)
            (omega (arith, ap g (lane_at_place M.floor d i e l o))) in
            let b = load_same (trays M (minus g e n) d i) (minus (trays M g d i) (place M.floor d i e) n) (count M.floor d i) X X
            (λ p h. ap (λ t. cond (has X p) (cond t (trays M g d i p - n) (trays M g d i p)) 0) (at_place e p l o h)) in
            grind arith
        | inr o ↦
            let b = load_same (trays M (minus g e n) d i) (trays M g d i) (count M.floor d i) X X
            (λ p h. ap (λ t. cond (has X p) (cond t (trays M g d i p - n) (trays M g d i p)) 0) (off_place e p o h)) in
            grind arith
      ]

-- a - lane carries what the pair before it lets through
pub minus_carries : (M : Meaning) (f : ℕ → ℕ) (x : State) (g : ℕ) → amount M f x (Minus g) ≤ f g
minus_carries M f (Pole b) g = omega arith
minus_carries M f (Plus e) g = omega arith
minus_carries M f (Minus e) g = omega arith

module _ (M : Meaning) (f : ℕ → ℕ) (P : ℕ → State) (N n : ℕ) (path : Path M f P N) (least : (j : ℕ) → j < N → n ≤ amount M f (P j) (P (suc j))) where
  enough : (j e : ℕ) → j ≤ N → P j ≡ Minus e → n ≤ f e
  enough zero e l q = let b = path.begin in let z : ◌≡◌ {A = ℕ} 0 1 = cc in absurd (omega arith)
  enough (suc j) e l q = omega (arith, minus_carries M f (P j) e, rw q at (least j l))

  pub load_walked : (d : Bool) (i X j : ℕ) → j ≤ N
      → load (trays M (augmented n P j f) d i) (count M.floor d i) X + sum_to (λ r. taken M n d i X (P r)) j
      ≡ load (trays M f d i) (count M.floor d i) X + sum_to (λ r. given M n d i X (P r)) j
  unfolding augmented sum_to given taken touches
  load_walked d i X zero l = refl
  load_walked d i X (suc j) l = ways (P j) refl (load_walked d i X j (omega arith))
    where
      G : ℕ → ℕ
      G = augmented n P j f

      T : ℕ
      T = sum_to (λ r. taken M n d i X (P r)) j

      V : ℕ
      V = sum_to (λ r. given M n d i X (P r)) j

      ways : (x : State) → P j ≡ x
          → load (trays M G d i) (count M.floor d i) X + T ≡ load (trays M f d i) (count M.floor d i) X + V
          → load (trays M (applied n x G) d i) (count M.floor d i) X + (T + taken M n d i X x)
          ≡ load (trays M f d i) (count M.floor d i) X + (V + given M n d i X x)
      ways (Pole b) q ih = omega arith
      ways (Plus e) q ih = omega (arith, load_plus_lane M d i G e n X (rw q at (path.ok j (omega arith))))
      ways (Minus e) q ih =
          let l' : j ≤ N = omega arith in
          let t : touches (P j) e ≡ true = rw q (eq-eqb e e refl) in
          let c : n ≤ G e = omega (arith, enough j e l' q, walked_fresh M f P N path n j e l' t) in
          omega (arith, load_minus_lane M d i G e n X (rw q at (path.ok j l')) c)
