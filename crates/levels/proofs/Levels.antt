-- Levels rise when the relation changes by splicing, counted from the first state of the path or from the last,
-- and where a level stays, the lowest numbers before it do not fall.
use Rattle.std.proofs.Common.{◌≡◌, ℕ, zero, suc, ◌+◌, ◌-◌, ◌<◌, ◌≤◌, ◌⊎◌, ap, subst, inl, inr, arith}
use mathlib.Core.Path.{subst⁻¹}
use Rattle.levels.proofs.Walks.{join_walk, rest_walk, turned_walk}
use Rattle.levels.specs.Levels.{Walk, Level, Straight, Along, Splices, LevelsRiseIn, LevelsRiseBackIn, NumbersRiseIn}

pub levels_rise : (X : Type 0) → LevelsRiseIn X
levels_rise X R Q P N on splice zero y h = (0, omega arith, h)
levels_rise X R Q P N on splice (suc n) y h =
    let x : X = h.0 in
    let ih = levels_rise X R Q P N on splice n x h.1 in
    elim (splice x y h.2) [
      | inl r ↦ (suc ih.0, omega (arith, ih.1), (x, ih.2, r))
      | inr c ↦
          let i : ℕ = c.0 in
          let j : ℕ = c.1 in
          let short = (on j c.3).shortest (suc ih.0) (x, ih.2, c.4) in
          (suc i, omega (arith, ih.1, c.2), (P i, (on i (omega (arith, c.2, c.3))).walk, c.5))
    ]

-- a state that steps to y, with no walk longer than y's level allows
lower : {X : Type 0} (R : X → X → Type 0) (s x y : X) (a m : ℕ) → Level R s (suc a) y → R x y → Walk R s m x → m ≤ a → Level R s a x
lower R s x y a m l r w h =
    let e : m ≡ a = omega (arith, l.shortest (suc m) (x, w, r)) in
    record { walk = rw e at w; shortest = λ q v. omega (arith, l.shortest (suc q) (x, v, r)) }

pub numbers_rise : (X : Type 0) → NumbersRiseIn X
numbers_rise X num R Q P N on splice low a x y ly qy qx q =
    elim (splice x y q) [
      | inl r ↦ (x, lower R (P 0) x y a w.0 ly r w.2 w.1, r, omega arith)
      | inr c ↦ spliced c.0 c.1 c.2 c.3 c.4 c.5
    ]
  where
    w : (m : ℕ) × (m ≤ a) × Walk R (P 0) m x
    w = levels_rise X R Q P N on splice a x qx.walk

    -- the walk passes right here
    here : (i : ℕ) → i ≡ a → suc i ≤ N → R x (P (suc i)) → R (P i) y → (z : X) × Level R (P 0) a z × R z y × (num z ≤ num x)
    here i e l rx ry =
        let lx : Level R (P 0) i x =
        lower R (P 0) x (P (suc i)) i w.0 (on (suc i) l) rx w.2 (omega (arith, w.1)) in
        (P i, subst (λ b. Level R (P 0) b (P i)) e (on i (omega arith)), ry, low i x (omega arith) lx rx)

    spliced : (i j : ℕ) → i < j → j ≤ N → R x (P j) → R (P i) y → (z : X) × Level R (P 0) a z × R z y × (num z ≤ num x)
    spliced i j h l rx ry =
        let f1 = (on j l).shortest (suc w.0) (x, w.2, rx) in
        let f2 = ly.shortest (suc i) (P i, (on i (omega arith)).walk, ry) in
        let e : j ≡ suc i = omega (arith, w.1) in
        here i (omega (arith, w.1)) (omega arith) (rw e at rx) ry

-- ---- the same from the last state: the relations turned round, and the path read backwards

module _ {X : Type 0} (R Q : X → X → Type 0) (P : ℕ → X) (N : ℕ) where
  back : ℕ → X
  back i = P (N - i)

  straight_back : Straight R P N → Along R P N → Straight (λ x y. R y x) back N
  unfolding back
  straight_back on along i l = record {
    walk = turned_walk R (P (N - i)) (P (N - 0)) i (subst (Walk R (P (N - i)) i) (ap P (omega arith)) (rest_walk R P N along i (N - i) (omega arith)));
    shortest = λ k w.
        let rest : Walk R (P (N - i)) k (P N) = subst (Walk R (P (N - i)) k) (ap P (omega arith)) (turned_walk (λ x y. R y x) (P (N - 0)) (P (N - i)) k w) in
        omega (
          arith,
          (on N (omega arith)).shortest (N - i + k) (join_walk R (P 0) (P (N - i)) (P N) (N - i) k (on (N - i) (omega arith)).walk rest),
        );
  }

  splices_back : Splices R Q P N → Splices (λ x y. R y x) (λ x y. Q y x) back N
  unfolding back
  splices_back splice x y q =
      elim (splice y x q) [
        | inl r ↦ inl r
        | inr c ↦ by c.0 c.1 c.2 c.3 c.4 c.5
      ]
    where
      by : (i j : ℕ) → i < j → j ≤ N → R y (P j) → R (P i) x → R y x ⊎ ((i j : ℕ) × (i < j) × (j ≤ N) × R (P (N - j)) x × R y (P (N - i)))
      by i j l h ry rx =
          let ei : i ≡ N - (N - i) = omega arith in
          let ej : j ≡ N - (N - j) = omega arith in
          inr (N - j, N - i, omega arith, omega arith, subst (λ k. R (P k) x) ei rx, subst (λ k. R y (P k)) ej ry)

pub levels_rise_back : (X : Type 0) → LevelsRiseBackIn X
unfolding back
levels_rise_back X R Q P N on along splice n x w =
    let last : P (N - 0) ≡ P N = ap P (omega arith) in
    let a = levels_rise X (λ x y. R y x) (λ x y. Q y x) (back R Q P N) N (straight_back R Q P N on along) (splices_back R Q P N splice) n x
    (turned_walk Q x (P (N - 0)) n (subst⁻¹ (Walk Q x n) last w)) in
    (a.0, a.1, subst (Walk R x a.0) last (turned_walk (λ x y. R y x) (P (N - 0)) x a.0 a.2))
