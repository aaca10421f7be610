-- What a labelling leaves: names that lie one level lower, and no more levels than lanes.
use Rattle.std.proofs.Common.{◌≡◌, ℕ, zero, suc, ◌-◌, ◌<◌, ◌≤◌, Bool, true, false, eqb, List, Some, None, Option, sym, refl, ap, ◌∙◌, subst, inl, inr, arith}
use Rattle.std.proofs.lemmas.Bool.{cases_lt, both_ways, eqb-true, eq-eqb}
use Rattle.polymatroid.specs.Finite.{first}
use Rattle.polymatroid.proofs.Finite.{first_passes, first_before}
use Rattle.levels.proofs.Counting.{pigeonhole_all}
use Rattle.network.specs.States.{State, Pole, Plus, Minus}
use Rattle.labelling.specs.Table.{Mark, Blank, Given, is_at, mark, name_of, table_up_to, label}
use Rattle.labelling.proofs.Scan.{AtLevel}
use Rattle.labelling.proofs.Levels.{good_tab}
use Rattle.labelling.proofs.Outcomes.{Right, label_right}
use Rattle.labels.specs.Labels.{came_out}
use Rattle.labels.specs.Paths.{level_of, Lies, Falls, EndedAt}

module _ (m : ℕ) (t : List Mark) (in_table : (y : ℕ) → 0 < level_of (mark t y) → y < m) (fall : Falls t) where
  -- a lane of each level below that of a lane
  descend : (n y : ℕ) → level_of (mark t y) ≡ n → (i : ℕ) → i < n → (x : ℕ) × (level_of (mark t x) ≡ suc i)
  descend zero y q i h = absurd (omega arith)
  descend (suc n) y q i h =
      elim (cases_lt i n) [
        | inl g ↦ by (λ e o. descend n e o i g) (name_of (mark t y)) (subst (λ j. Lies t j (name_of (mark t y))) (omega arith) (fall y (omega arith))) g
        | inr g ↦ (y, omega arith)
      ]
    where
      by : ((e : ℕ) → level_of (mark t e) ≡ n → (x : ℕ) × (level_of (mark t x) ≡ suc i)) → (z : State) → Lies t n z → i < n → (x : ℕ) × (level_of (mark t x) ≡ suc i)
      by below (Pole false) o g = absurd (omega arith)
      by below (Pole true) o g = absurd o
      by below (Plus e) o g = below e o.0
      by below (Minus e) o g = below e o.0

  lane : ℕ → ℕ
  lane i = first (λ x. eqb (level_of (mark t x)) (suc i)) m

  lane_is : (i x : ℕ) → level_of (mark t x) ≡ suc i → (lane i < m) × (level_of (mark t (lane i)) ≡ suc i)
  unfolding lane
  lane_is i x q =
      elim (cases_lt (lane i) m) [
        | inl h ↦ (h, eqb-true (level_of (mark t (lane i))) (suc i) (first_passes (λ x. eqb (level_of (mark t x)) (suc i)) m h))
        | inr h ↦
            let b = in_table x (omega arith) in
            absurd (both_ways (eqb (level_of (mark t x)) (suc i)) (first_before (λ x. eqb (level_of (mark t x)) (suc i)) m x (omega arith)) (eq-eqb (level_of (mark t x)) (suc i) q))
      ]

  few_levels : (y : ℕ) → level_of (mark t y) ≤ m
  few_levels y =
      pigeonhole_all lane (level_of (mark t y)) m (λ i h. (at i h).0)
      (λ i j h g q. let a = (at i (omega arith)).1 in let b = (at j g).1 in let c : level_of (mark t (lane i)) ≡ level_of (mark t (lane j)) = ap (λ x. level_of (mark t x)) q in omega arith)
    where
      at : (i : ℕ) → i < level_of (mark t y) → (lane i < m) × (level_of (mark t (lane i)) ≡ suc i)
      at i h = let d = descend (level_of (mark t y)) y refl i h in lane_is i d.0 d.1

module _ (r : State → State → Bool) (m : ℕ) where
  lies_at : (l i : ℕ) (z : State) → AtLevel (table_up_to r m l) i z → Lies (table_up_to r m l) i z
  lies_at l i (Pole false) s = s
  lies_at l i (Pole true) s = s
  lies_at l i (Plus e) s = (ap level_of s.1, (good_tab r m l).some e true s.0 i s.1)
  lies_at l i (Minus e) s = (ap level_of s.1, (good_tab r m l).some e false s.0 i s.1)

  in_table_up_to : (l y : ℕ) → 0 < level_of (mark (table_up_to r m l) y) → y < m
  in_table_up_to l y h =
      elim (cases_lt y m) [
        | inl g ↦ g
        | inr g ↦ let e : level_of (mark (table_up_to r m l) y) ≡ 0 = ap level_of ((good_tab r m l).off y g) in absurd (omega arith)
      ]

  falls_table : (l : ℕ) → Falls (table_up_to r m l)
  falls_table l y h = by (mark (table_up_to r m l) y) refl h
    where
      by : (p : Mark) → mark (table_up_to r m l) y ≡ p → 0 < level_of p → Lies (table_up_to r m l) (level_of p - 1) (name_of p)
      by Blank q h = absurd (omega arith)
      by (Given s z zero) q h = absurd (omega arith)
      by (Given s z (suc i)) q h = subst (λ j. Lies (table_up_to r m l) j z) (omega arith) (lies_at l i z ((good_tab r m l).up y s z i q))

  right : (o : Option (ℕ × ℕ)) (t : List Mark) → label r m ≡ came_out o t → Right r m (came_out o t)
  right o t e = subst (Right r m) e (label_right r m)

  -- each name lies one level lower
  pub label_falls : (o : Option (ℕ × ℕ)) (t : List Mark) → label r m ≡ came_out o t → Falls t
  label_falls None t e = let d = right None t e in subst Falls (sym d.1.is) (falls_table d.0)
  label_falls (Some p) t e = subst Falls (sym (right (Some p) t e).is) (falls_table p.0)

  level_is : (l : ℕ) (p : Mark) → is_at l p ≡ true → level_of p ≡ l
  level_is l Blank q = cc
  level_is l (Given s x k) q = eqb-true k l q

  -- the lane at which the labelling ends has a label of the level
  pub label_ended_at : (o : Option (ℕ × ℕ)) (t : List Mark) → label r m ≡ came_out o t → EndedAt m o t
  label_ended_at None t e = tt
  label_ended_at (Some p) t e =
      let d = right (Some p) t e in
      let q : level_of (mark t p.1) ≡ p.0 = ap (λ u. level_of (mark u p.1)) d.is ∙ level_is p.0 _ d.level in
      let below = subst (λ t. (y : ℕ) → 0 < level_of (mark t y) → y < m) (sym d.is) (in_table_up_to p.0) in
      (q, d.some, omega (arith, few_levels m t below (label_falls (Some p) t e) p.1), d.lane)
