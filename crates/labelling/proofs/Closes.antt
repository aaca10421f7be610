-- Where the rules find no path, their labels are closed, and the plan is a best one.
use Rattle.std.proofs.Common.{◌≡◌, ℕ, zero, suc, ◌*◌, ◌<◌, ◌≤◌, Bool, true, false, not, ◌&&◌, ◌||◌, eqb, ltb, ◌⊎◌, List, refl, ap, subst, inl, inr, arith}
use mathlib.Core.Path.{subst⁻¹}
use Rattle.std.proofs.lemmas.Bool.{cases_lt, both_ways, eqb-true, eq-eqb, lt-ltb, ltb-true, and_parts, and_from, or_cases, or_left, or_right, not-true}
use Rattle.polymatroid.specs.Finite.{first}
use Rattle.polymatroid.proofs.Finite.{first_passes, first_before}
use Rattle.floor.specs.Meaning.{Meaning, Lawful}
use Rattle.network.specs.States.{State, Pole, Plus, Minus, at, OnFloor, Residual, Open}
use Rattle.network.specs.Plans.{Fits, Balanced, FitsBy, total}
use Rattle.network.specs.Cuts.{capacity}
use Rattle.network.specs.Finished.{LabelledState, LabelledLane, Closed}
use Rattle.network.proofs.Finished.{finished_best}
use Rattle.labelling.specs.Rules.{full, ruled}
use Rattle.labelling.specs.Table.{Mark, Blank, Given, signed, mark, is_plus, is_minus, table_up_to, Finished, label}
use Rattle.labelling.proofs.Scan.{AtLevel}
use Rattle.labelling.specs.Near.{nears, near, plus_labelled, minus_labelled, unlabelled}
use Rattle.labelling.proofs.Rules.{full_some, some_full}
use Rattle.labelling.proofs.Outcomes.{Done, Right, label_right}
use Rattle.labelling.proofs.Finds.{T, good, sound, to_gives, from_gives, not_ended}

-- signs and labels
plus_at : (t : List Mark) (e : ℕ) → is_plus (mark t e) ≡ true → (i : ℕ) × AtLevel t i (Plus e)
plus_at t e h = by (mark t e) refl h
  where
    by : (p : Mark) → mark t e ≡ p → is_plus p ≡ true → (i : ℕ) × AtLevel t i (Plus e)
    by Blank o q = absurd (both_ways false refl q)
    by (Given true z k) o q = (k, (z, o))
    by (Given false z k) o q = absurd (both_ways false refl q)

minus_at : (t : List Mark) (e : ℕ) → is_minus (mark t e) ≡ true → (i : ℕ) × AtLevel t i (Minus e)
minus_at t e h = by (mark t e) refl h
  where
    by : (p : Mark) → mark t e ≡ p → is_minus p ≡ true → (i : ℕ) × AtLevel t i (Minus e)
    by Blank o q = absurd (both_ways false refl q)
    by (Given true z k) o q = absurd (both_ways false refl q)
    by (Given false z k) o q = (k, (z, o))

lab_sits : (t : List Mark) (x : State) → LabelledState (plus_labelled t) (minus_labelled t) x → (i : ℕ) × AtLevel t i x
lab_sits t (Pole false) h = (0, refl)
lab_sits t (Pole true) h = absurd h
lab_sits t (Plus e) h = plus_at t e h
lab_sits t (Minus e) h = minus_at t e h

sits_lab : (t : List Mark) (i : ℕ) (x : State) → AtLevel t i x → LabelledState (plus_labelled t) (minus_labelled t) x
sits_lab t i (Pole false) s = tt
sits_lab t i (Pole true) s = absurd s
sits_lab t i (Plus e) s = ap is_plus s.1
sits_lab t i (Minus e) s = ap is_minus s.1

marked : (t : List Mark) (e : ℕ) (s : Bool) (z : State) (k : ℕ) → mark t e ≡ Given s z k → (plus_labelled t e || minus_labelled t e) ≡ true
marked t e true z k q = or_left (plus_labelled t e) (minus_labelled t e) (ap is_plus q)
marked t e false z k q = or_right (plus_labelled t e) (minus_labelled t e) (ap is_minus q)

-- some lane makes a station near
some_lane : (M : Meaning) (f : ℕ → ℕ) (t : List Mark) (i e : ℕ) → e < M.floor.lanes → nears M f t i e ≡ true → near M f t i ≡ true
unfolding near
some_lane M f t i e l h =
    or_right (eqb (M.floor.pole false) i) (ltb (first (nears M f t i) M.floor.lanes) M.floor.lanes)
    (lt-ltb (first (nears M f t i) M.floor.lanes) M.floor.lanes
    (elim (cases_lt (first (nears M f t i) M.floor.lanes) M.floor.lanes) [
      | inl q ↦ q
      | inr q ↦ absurd (both_ways (nears M f t i e) (first_before (nears M f t i) M.floor.lanes e (omega arith)) h)
    ]))

stock_near : (M : Meaning) (f : ℕ → ℕ) (t : List Mark) → near M f t (M.floor.pole false) ≡ true
unfolding near
stock_near M f t =
    or_left (eqb (M.floor.pole false) (M.floor.pole false)) (ltb (first (nears M f t (M.floor.pole false)) M.floor.lanes) M.floor.lanes) (eq-eqb (M.floor.pole false) (M.floor.pole false) refl)

near_lane : (M : Meaning) (f : ℕ → ℕ) (t : List Mark) (i : ℕ) → near M f t i ≡ true → (M.floor.pole false ≡ i) ⊎ ((e : ℕ) × (e < M.floor.lanes) × (nears M f t i e ≡ true))
unfolding near
near_lane M f t i h =
    elim (or_cases (eqb (M.floor.pole false) i) (ltb (first (nears M f t i) M.floor.lanes) M.floor.lanes) h) [
      | inl q ↦ inl (eqb-true (M.floor.pole false) i q)
      | inr q ↦
          let l = ltb-true (first (nears M f t i) M.floor.lanes) M.floor.lanes q in
          inr (first (nears M f t i) M.floor.lanes, l, first_passes (nears M f t i) M.floor.lanes l)
    ]

module _ (M : Meaning) (laws : Lawful M) (f : ℕ → ℕ) (fits : Fits M f) (l : ℕ) (done : Done (ruled M f) M.floor.lanes l (T M laws f fits l)) where
  U : List Mark
  U = T M laws f fits l

  level_below : (i : ℕ) (x : State) → AtLevel U i x → i < l
  unfolding U T
  level_below i x s =
      elim (cases_lt i l) [
        | inl h ↦ h
        | inr h ↦ let o : i ≡ l = omega (arith, most i x s) in absurd (done.empty x (subst (λ j. AtLevel (table_up_to (ruled M f) M.floor.lanes l) j x) o s))
      ]
    where
      most : (i : ℕ) (x : State) → AtLevel (table_up_to (ruled M f) M.floor.lanes l) i x → i ≤ l
      most i (Pole false) s = omega arith
      most i (Pole true) s = absurd s
      most i (Plus e) s = (good M laws f fits l).most e true s.0 i s.1
      most i (Minus e) s = (good M laws f fits l).most e false s.0 i s.1

  given_lane : (e : ℕ) (s : Bool) (z : State) (k : ℕ) → mark U e ≡ Given s z k → (x : State) × LabelledState (plus_labelled U) (minus_labelled U) x × (OnFloor M (signed s e) → Residual M f x (signed s e))
  unfolding U
  given_lane e s z zero q = absurd (omega (arith, (good M laws f fits l).some e s z 0 q))
  given_lane e s z (suc i) q =
      let u = (good M laws f fits l).up e s z i q in
      (z, sits_lab U i z u, λ o. to_gives M laws f fits l i z (signed s e) u o ((good M laws f fits l).by e s z i q))

  given : (y : State) → OnFloor M y → LabelledState (plus_labelled U) (minus_labelled U) y → (y ≡ Pole false) ⊎ ((x : State) × LabelledState (plus_labelled U) (minus_labelled U) x × Residual M f x y)
  given (Pole false) o h = inl refl
  given (Pole true) o h = absurd h
  given (Plus e) o h =
      let s = plus_at U e h in
      let g = given_lane e true s.1.0 s.0 s.1.1 in
      inr (g.0, g.1, g.2 o)
  given (Minus e) o h =
      let s = minus_at U e h in
      let g = given_lane e false s.1.0 s.0 s.1.1 in
      inr (g.0, g.1, g.2 o)

  lane_labelled : (i : ℕ) (x : State) (g : ℕ) (b : Bool) → AtLevel U i x → g < M.floor.lanes → ruled M f x (signed b g) ≡ true → (plus_labelled U g || minus_labelled U g) ≡ true
  unfolding U
  lane_labelled i x g b s o h =
      let a = (good M laws f fits l).all i x g b (level_below i x s) o s h in
      marked U g a.0 a.1 a.2 a.4

  closed_at : (i : ℕ) (x y : State) → AtLevel U i x → Residual M f x y → LabelledLane (plus_labelled U) (minus_labelled U) y
  unfolding U
  closed_at i x (Pole false) s g = tt
  closed_at i x (Pole true) s g =
      let h = level_below i x s in
      not_ended M laws f fits l i (λ j u v. done.before j u (omega arith)) (omega arith) x s g
  closed_at i x (Plus c) s g = lane_labelled i x c true s g.ok_to (from_gives M laws f fits l i x (Plus c) s g)
  closed_at i x (Minus c) s g = lane_labelled i x c false s g.ok_to (from_gives M laws f fits l i x (Minus c) s g)

  near_if : (x : State) → OnFloor M x → LabelledState (plus_labelled U) (minus_labelled U) x → Open M f x → near M f U (at M true x) ≡ true
  near_if (Pole false) o h p = stock_near M f U
  near_if (Pole true) o h p = absurd p
  near_if (Plus e) o h p =
      some_lane M f U (M.floor.end true e) e o
      (or_right (is_minus (mark U e) && eqb (M.floor.end false e) (M.floor.end true e)) (is_plus (mark U e) && (not (full M f true e) && eqb (M.floor.end true e) (M.floor.end true e)))
      (and_from (is_plus (mark U e)) (not (full M f true e) && eqb (M.floor.end true e) (M.floor.end true e)) h
      (and_from (not (full M f true e)) (eqb (M.floor.end true e) (M.floor.end true e)) (some_full M laws f fits true e o p) (eq-eqb (M.floor.end true e) (M.floor.end true e) refl))))
  near_if (Minus e) o h p =
      some_lane M f U (M.floor.end false e) e o
      (or_left (is_minus (mark U e) && eqb (M.floor.end false e) (M.floor.end false e)) (is_plus (mark U e) && (not (full M f true e) && eqb (M.floor.end true e) (M.floor.end false e)))
      (and_from (is_minus (mark U e)) (eqb (M.floor.end false e) (M.floor.end false e)) h (eq-eqb (M.floor.end false e) (M.floor.end false e) refl)))

  near_only : (i : ℕ) → near M f U i ≡ true → (x : State) × OnFloor M x × LabelledState (plus_labelled U) (minus_labelled U) x × Open M f x × (at M true x ≡ i)
  unfolding U
  near_only i h =
      elim (near_lane M f U i h) [
        | inl q ↦ (Pole false, tt, tt, tt, q)
        | inr c ↦ by c.0 c.1 c.2
      ]
    where
      by : (e : ℕ) → e < M.floor.lanes → nears M f U i e ≡ true → (x : State) × OnFloor M x × LabelledState (plus_labelled U) (minus_labelled U) x × Open M f x × (at M true x ≡ i)
      by e o n =
          elim (or_cases (is_minus (mark U e) && eqb (M.floor.end false e) i) (is_plus (mark U e) && (not (full M f true e) && eqb (M.floor.end true e) i)) n) [
            | inl q ↦
                let a = and_parts (is_minus (mark U e)) (eqb (M.floor.end false e) i) q in
                let s = minus_at U e a.0 in
                (Minus e, o, a.0, (sound M laws f fits l s.0 (Minus e) s.1).1, eqb-true (M.floor.end false e) i a.1)
            | inr q ↦
                let a = and_parts (is_plus (mark U e)) (not (full M f true e) && eqb (M.floor.end true e) i) q in
                let b = and_parts (not (full M f true e)) (eqb (M.floor.end true e) i) a.1 in
                (Plus e, o, a.0, full_some M laws f fits true e o (not-true (full M f true e) b.0), eqb-true (M.floor.end true e) i b.1)
          ]

  closes : Closed M f (plus_labelled U) (minus_labelled U) (near M f U)
  closes = record {
    given = given;
    closed = λ x y h g. let s = lab_sits U x h in closed_at s.0 x y s.1 g;
    near_if = near_if;
    near_only = near_only;
  }

closes_at : (M : Meaning) (laws : Lawful M) (f : ℕ → ℕ) (fits : Fits M f) (l : ℕ) → Done (ruled M f) M.floor.lanes l (table_up_to (ruled M f) M.floor.lanes l)
    → Closed M f (plus_labelled (table_up_to (ruled M f) M.floor.lanes l)) (minus_labelled (table_up_to (ruled M f) M.floor.lanes l)) (near M f (table_up_to (ruled M f) M.floor.lanes l))
unfolding T U
closes_at M laws f fits l d = closes M laws f fits l d

-- where the rules find no path, their labels are closed ..
pub rules_close : (M : Meaning) (f : ℕ → ℕ) (t : List Mark) → Lawful M → Fits M f → label (ruled M f) M.floor.lanes ≡ Finished t
    → Closed M f (plus_labelled t) (minus_labelled t) (near M f t)
rules_close M f t laws fits q =
    let r : Right (ruled M f) M.floor.lanes (Finished t) = subst (Right (ruled M f) M.floor.lanes) q (label_right (ruled M f) M.floor.lanes) in
    at_table r.0 r.1.is r.1
  where
    at_table : (l : ℕ) → t ≡ table_up_to (ruled M f) M.floor.lanes l → Done (ruled M f) M.floor.lanes l t → Closed M f (plus_labelled t) (minus_labelled t) (near M f t)
    at_table l o d =
        subst⁻¹ (λ t. Closed M f (plus_labelled t) (minus_labelled t) (near M f t)) o (closes_at M laws f fits l (subst (Done (ruled M f) M.floor.lanes l) o d))

-- .. so the plan carries what the cut lets through, and no plan carries more
pub rules_best : (M : Meaning) (f : ℕ → ℕ) (t : List Mark) → Lawful M → Fits M f → Balanced M f → label (ruled M f) M.floor.lanes ≡ Finished t
    → (total M f ≡ capacity M (near M f t) (unlabelled t))
    × ((q : ℕ) (g : ℕ → ℕ) → Balanced M g → FitsBy M q g → total M g ≤ q * total M f)
rules_best M f t laws fits bal q =
    finished_best M f (plus_labelled t) (minus_labelled t) (near M f t) laws fits bal (rules_close M f t laws fits q)
