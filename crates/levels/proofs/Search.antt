-- A search by levels finds shortest walks, though it gives each lane one label.
use Rattle.std.proofs.Common.{◌≡◌, ℕ, zero, suc, ◌+◌, ◌-◌, ◌<◌, ◌≤◌, sym, ap, ◌∙◌, subst, inl, inr, arith}
use mathlib.Core.Path.{subst⁻¹}
use Rattle.std.proofs.lemmas.Bool.{cases_lt}
use Rattle.levels.specs.Levels.{Walk, Level, Straight, Lowest}
use Rattle.levels.specs.Search.{Steps, Turning, Labels}

module _ {X : Type 0} (lane num : X → ℕ) (R T : X → X → Type 0) (start : X) (turning : Turning lane num R T start)
    (N : ℕ) (In : ℕ → X → Type 0) (name : X → X) (labels : Labels lane num R T start N In name) where
  abbrev pub S : X → X → Type 0
  S x y = Steps lane num R T start x y

  Labelled : ℕ → X → Type 0
  Labelled m y = (j : ℕ) × (z : X) × (j ≤ m) × In j z × (lane z ≡ lane y)

  -- a step from a labelled state leads to a labelled lane
  onward : (i m : ℕ) (x y : X) → m < N → In i x → S x y → suc i ≤ m → Labelled m y
  unfolding Labelled
  onward i m x y b l s h =
      elim s [
        | inl r ↦ let a = labels.all i x y (omega arith) l r in (a.0, a.1, omega (arith, a.2), a.3, a.4)
        | inr t ↦ (i, x, omega arith, l, turning.same x y t)
      ]

  -- each walk ends at a labelled lane
  reached : (m : ℕ) (y : X) → m < N → Walk S start m y → Labelled m y
  unfolding Labelled
  reached zero y b w = (0, start, omega arith, labels.root, ap lane w)
  reached (suc m) y b w =
      let x : X = w.0 in
      let a = reached m x (omega arith) w.1 in
      elim (turning.tell a.1 x) [
        | inl e ↦ onward a.0 (suc m) x y b (subst (In a.0) e a.3) w.2 (omega (arith, a.2))
        | inr e ↦
            elim w.2 [
              | inl r ↦ other a.0 a.1 x a.2 a.3 a.4 e r
              | inr t ↦ (a.0, a.1, omega (arith, a.2), a.3, a.4 ∙ turning.same x y t)
            ]
      ]
    where
      -- the lane has its label from the other state
      other : (j : ℕ) (z x : X) → j ≤ m → In j z → lane z ≡ lane x → (z ≡ x → ⊥) → R x y → Labelled (suc m) y
      other zero z x l i e ne r =
          let s = labels.top z i in
          absurd (ne (sym s ∙ turning.alone x (ap lane s ∙ e)))
      other (suc j) z x l i e ne r =
          onward j (suc m) (name z) y b (labels.up j z i) (turning.skip (name z) z x y (labels.by j z i) e ne r) (omega arith)

  -- a label's level is the length of a shortest walk
  walk_to : (i : ℕ) (y : X) → In i y → Walk S start i y
  walk_to zero y l = labels.top y l
  walk_to (suc i) y l = (name y, walk_to i (name y) (labels.up i y l), inl (labels.by i y l))

  pub level : (i : ℕ) (y : X) → i ≤ N → In i y → Level S start i y
  unfolding Labelled
  level i y b l = record {
    walk = walk_to i y l;
    shortest = λ m w.
        elim (cases_lt m N)
        [ inl h ↦ let a = reached m y h w in omega (arith, a.2, (labels.once a.0 i a.1 y a.3 l a.4).0) | inr h ↦ omega arith ];
  }

  -- and the label's name is the lowest before it
  pub lowest_name : (i : ℕ) (x y : X) → i < N → In (suc i) y → Level S start i x → S x y → num (name y) ≤ num x
  unfolding Labelled
  lowest_name i x y b l lx s =
      let a = reached i x b lx.walk in
      elim (turning.tell a.1 x) [
        | inl e ↦
            let h : In a.0 x = subst (In a.0) e a.3 in
            let q : a.0 ≡ i = omega (arith, a.2, lx.shortest a.0 (walk_to a.0 x h)) in
            let h' : In i x = subst (λ k. In k x) q h in
            elim s [
              | inl r ↦ labels.lowest i x y l h' r
              | inr t ↦ absurd (omega (arith, (labels.once i (suc i) x y h' l (turning.same x y t)).0))
            ]
        | inr e ↦
            elim s [
              | inl r ↦ absurd (other a.0 a.1 a.2 a.3 a.4 e r)
              | inr t ↦ absurd (omega (arith, a.2, (labels.once a.0 (suc i) a.1 y a.3 l (a.4 ∙ turning.same x y t)).0))
            ]
      ]
    where
      other : (j : ℕ) (z : X) → j ≤ i → In j z → lane z ≡ lane x → (z ≡ x → ⊥) → R x y → ⊥
      other zero z h k e ne r =
          let s = labels.top z k in
          ne (sym s ∙ turning.alone x (ap lane s ∙ e))
      other (suc j) z h k e ne r =
          let d = turning.skip (name z) z x y (labels.by j z k) e ne r in
          omega (arith, (level (suc i) y b l).shortest (suc j) (name z, walk_to j (name z) (labels.up j z k), d))

  -- the walk read back along the names
  module _ (P : ℕ → X) (end : In N (P N)) (names : (i : ℕ) → i < N → P i ≡ name (P (suc i))) where
    on_path : (k i : ℕ) → i + k ≡ N → In i (P i)
    on_path zero i e = let q : N ≡ i = omega arith in subst (λ j. In j (P j)) q end
    on_path (suc k) i e =
        subst⁻¹ (In i) (names i (omega arith)) (labels.up i (P (suc i)) (on_path k (suc i) (omega arith)))

    pub path_in : (i : ℕ) → i ≤ N → In i (P i)
    path_in i l = on_path (N - i) i (omega arith)

    begins : start ≡ P 0
    begins = labels.top (P 0) (path_in 0 (omega arith))

    pub path_straight : Straight S P N
    path_straight i l = subst (λ z. Level S z i (P i)) begins (level i (P i) l (path_in i l))

    pub path_lowest : Lowest num S P N
    path_lowest i x l lx s =
        subst⁻¹ (λ z. num z ≤ num x) (names i l) (lowest_name i x (P (suc i)) l (path_in (suc i) l) (subst⁻¹ (λ z. Level S z i x) begins lx) s)
