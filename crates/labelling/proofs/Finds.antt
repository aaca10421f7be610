-- A path that the rules find is what a search by levels finds.
use Rattle.std.proofs.Common.{◌≡◌, ℕ, zero, suc, ◌-◌, ◌<◌, ◌≤◌, Bool, true, false, List, sym, refl, ap, subst, inl, inr, arith}
use mathlib.Core.Path.{subst⁻¹}
use Rattle.std.proofs.lemmas.Bool.{cases_lt, both_ways}
use Rattle.floor.specs.Meaning.{Meaning, Lawful}
use Rattle.network.specs.States.{State, Pole, Plus, Minus, OnFloor, lane_number, holder, Residual}
use Rattle.network.specs.Plans.{Fits}
use Rattle.network.specs.Found.{LevelLabels, Found}
use Rattle.network.proofs.Found.{found}
use Rattle.labelling.specs.Rules.{ruled, Carries}
use Rattle.labelling.specs.Table.{Mark, Given, signed, mark, state_of, name_of, name, back, path, table_up_to, Ended, label}
use Rattle.labelling.proofs.Scan.{AtLevel, AtLevelOrEnd, none_mk, state_sits}
use Rattle.labelling.proofs.Levels.{Good, good_tab, sits_down}
use Rattle.labelling.proofs.Rules.{rules_give}
use Rattle.labelling.proofs.Outcomes.{Unended, Ran, Right, label_right}

-- two marks of one lane
one_level : (p : Mark) (s b : Bool) (z w : State) (i j : ℕ) → p ≡ Given s z i → p ≡ Given b w j → i ≡ j
one_level p s b z w i j a c = cc

one_sign : {A : Type 0} (p : Mark) (z w : State) (i j : ℕ) → p ≡ Given true z i → p ≡ Given false w j → A
one_sign p z w i j a c = let q : true ≡ false = cc in absurd (both_ways true q refl)

module _ (M : Meaning) (laws : Lawful M) (f : ℕ → ℕ) (fits : Fits M f) (l : ℕ) where
  unfoldable pub T : List Mark
  T = table_up_to (ruled M f) M.floor.lanes l

  pub good : Good (ruled M f) M.floor.lanes l T
  unfolding T
  good = good_tab (ruled M f) M.floor.lanes l

  pub lane_ok : (y : ℕ) (s : Bool) (z : State) (k : ℕ) → mark T y ≡ Given s z k → y < M.floor.lanes
  lane_ok y s z k q = elim (cases_lt y M.floor.lanes) [ inl h ↦ h | inr h ↦ none_mk (mark T y) s z k (good.off y (omega arith)) q ]

  -- a labelled state is on the floor, and a - lane carries trays
  pub sound : (i : ℕ) (x : State) → AtLevel T i x → OnFloor M x × Carries f x
  sound i (Pole false) s = (tt, tt)
  sound i (Pole true) s = absurd s
  sound zero (Plus e) s = absurd (omega (arith, good.some e true s.0 0 s.1))
  sound zero (Minus e) s = absurd (omega (arith, good.some e false s.0 0 s.1))
  sound (suc i) (Plus e) s = (lane_ok e true s.0 (suc i) s.1, tt)
  sound (suc i) (Minus e) s =
      let ih = sound i s.0 (good.up e false s.0 i s.1) in
      let o = lane_ok e false s.0 (suc i) s.1 in
      (o, ((rules_give M f laws fits s.0 (Minus e) ih.0 o ih.1).0 (good.by e false s.0 i s.1)).1)

  pub to_gives : (i : ℕ) (x y : State) → AtLevel T i x → OnFloor M y → ruled M f x y ≡ true → Residual M f x y
  to_gives i x y s o h = let a = sound i x s in ((rules_give M f laws fits x y a.0 o a.1).0 h).0

  pub from_gives : (i : ℕ) (x y : State) → AtLevel T i x → Residual M f x y → ruled M f x y ≡ true
  from_gives i x y s g = let a = sound i x s in (rules_give M f laws fits x y a.0 g.ok_to a.1).1 g

  no_pair : Residual M f (Pole false) (Pole true) → ⊥
  no_pair g = omega (arith, g.some)

  pub start_only : (x : State) → AtLevel T 0 x → x ≡ Pole false
  start_only (Pole false) s = refl
  start_only (Pole true) s = absurd s
  start_only (Plus e) s = absurd (omega (arith, good.some e true s.0 0 s.1))
  start_only (Minus e) s = absurd (omega (arith, good.some e false s.0 0 s.1))

  -- before the level of the path nothing ends a path
  pub not_ended : (i : ℕ) → ((j : ℕ) → 0 < j → j ≤ i → Unended (ruled M f) M.floor.lanes j) → i ≤ l → (x : State) → AtLevel T i x → Residual M f x (Pole true) → ⊥
  unfolding T
  not_ended zero b h x s g = no_pair (subst (λ x. Residual M f x (Pole true)) (start_only x s) g)
  not_ended (suc i) b h x s g =
      b (suc i) (omega arith) (omega arith) x (sits_down (ruled M f) M.floor.lanes l (suc i) x h s) (from_gives (suc i) x (Pole true) s g)

  module _ (e : ℕ) (ran : Ran (ruled M f) M.floor.lanes l e T) where
    to_end : (i : ℕ) (x : State) → AtLevel T i x → AtLevelOrEnd l T i x
    to_end i (Pole false) s = s
    to_end i (Pole true) s = absurd s
    to_end i (Plus a) s = s
    to_end i (Minus a) s = s

    from_end : (i : ℕ) (x y : State) → AtLevelOrEnd l T i x → Residual M f x y → AtLevel T i x
    from_end i (Pole false) y s g = s
    from_end i (Pole true) (Pole c) s g = absurd (omega (arith, g.some))
    from_end i (Pole true) (Plus c) s g = absurd (omega (arith, g.some))
    from_end i (Pole true) (Minus c) s g = absurd (omega (arith, g.some))
    from_end i (Plus a) y s g = s
    from_end i (Minus a) y s g = s

    last_sits : AtLevel T l (state_of e (mark T e)) × (lane_number (state_of e (mark T e)) ≡ e)
    unfolding T
    last_sits = state_sits (ruled M f) T l e ran.level

    name_plus : (g : ℕ) (s : Bool) (z : State) (k : ℕ) → mark T g ≡ Given s z k → name_of (mark T g) ≡ z
    name_plus g s z k q = ap name_of q

    up : (i : ℕ) (y : State) → AtLevelOrEnd l T (suc i) y → AtLevelOrEnd l T i (name e T y)
    unfolding name
    up i (Pole false) s = absurd (omega arith)
    up i (Pole true) s =
        let q : l ≡ i = omega arith in
        subst (λ j. AtLevelOrEnd l T j (state_of e (mark T e))) q (to_end l (state_of e (mark T e)) last_sits.0)
    up i (Plus g) s = subst⁻¹ (AtLevelOrEnd l T i) (name_plus g true s.0 (suc i) s.1) (to_end i s.0 (good.up g true s.0 i s.1))
    up i (Minus g) s = subst⁻¹ (AtLevelOrEnd l T i) (name_plus g false s.0 (suc i) s.1) (to_end i s.0 (good.up g false s.0 i s.1))

    by : (i : ℕ) (y : State) → AtLevelOrEnd l T (suc i) y → Residual M f (name e T y) y
    unfolding name T
    by i (Pole false) s = absurd (omega arith)
    by i (Pole true) s = to_gives l (state_of e (mark T e)) (Pole true) last_sits.0 tt ran.ends
    by i (Plus g) s =
        subst⁻¹ (λ x. Residual M f x (Plus g)) (name_plus g true s.0 (suc i) s.1)
        (to_gives i s.0 (Plus g) (good.up g true s.0 i s.1) (lane_ok g true s.0 (suc i) s.1) (good.by g true s.0 i s.1))
    by i (Minus g) s =
        subst⁻¹ (λ x. Residual M f x (Minus g)) (name_plus g false s.0 (suc i) s.1)
        (to_gives i s.0 (Minus g) (good.up g false s.0 i s.1) (lane_ok g false s.0 (suc i) s.1) (good.by g false s.0 i s.1))

    lowest : (i : ℕ) (x y : State) → AtLevelOrEnd l T (suc i) y → AtLevelOrEnd l T i x → Residual M f x y → lane_number (name e T y) ≤ lane_number x
    unfolding name T
    lowest i x (Pole false) s t g = absurd (omega arith)
    lowest i x (Pole true) s t g =
        let q : i ≡ l = omega arith in
        let sx = from_end i x (Pole true) t g in
        let h = ran.lowest x (subst (λ j. AtLevel T j x) q sx) (from_gives i x (Pole true) sx g) in
        omega (arith, h, last_sits.1)
    lowest i x (Plus c) s t g =
        let sx = from_end i x (Plus c) t g in
        subst⁻¹ (λ z. lane_number z ≤ lane_number x) (name_plus c true s.0 (suc i) s.1) (good.lowest c true s.0 i s.1 x true sx (from_gives i x (Plus c) sx g))
    lowest i x (Minus c) s t g =
        let sx = from_end i x (Minus c) t g in
        subst⁻¹ (λ z. lane_number z ≤ lane_number x) (name_plus c false s.0 (suc i) s.1) (good.lowest c false s.0 i s.1 x false sx (from_gives i x (Minus c) sx g))

    top : (x : State) → AtLevelOrEnd l T 0 x → Pole false ≡ x
    top (Pole false) s = refl
    top (Pole true) s = absurd (omega arith)
    top (Plus a) s = sym (start_only (Plus a) s)
    top (Minus a) s = sym (start_only (Minus a) s)

    once : (i j : ℕ) (x y : State) → AtLevelOrEnd l T i x → AtLevelOrEnd l T j y → holder x ≡ holder y → (i ≡ j) × (x ≡ y)
    once i j (Pole false) (Pole false) s t q = (omega arith, refl)
    once i j (Pole false) (Pole true) s t q = absurd (omega arith)
    once i j (Pole false) (Plus b) s t q = absurd (omega arith)
    once i j (Pole false) (Minus b) s t q = absurd (omega arith)
    once i j (Pole true) (Pole false) s t q = absurd (omega arith)
    once i j (Pole true) (Pole true) s t q = (omega arith, refl)
    once i j (Pole true) (Plus b) s t q = absurd (omega arith)
    once i j (Pole true) (Minus b) s t q = absurd (omega arith)
    once i j (Plus a) (Pole false) s t q = absurd (omega arith)
    once i j (Plus a) (Pole true) s t q = absurd (omega arith)
    once i j (Plus a) (Plus b) s t q =
        let o : b ≡ a = omega arith in
        (one_level (mark T a) true true s.0 t.0 i j s.1 (subst (λ b. mark T b ≡ Given true t.0 j) o t.1), ap Plus (sym o))
    once i j (Plus a) (Minus b) s t q =
        let o : b ≡ a = omega arith in
        one_sign (mark T a) s.0 t.0 i j s.1 (subst (λ b. mark T b ≡ Given false t.0 j) o t.1)
    once i j (Minus a) (Pole false) s t q = absurd (omega arith)
    once i j (Minus a) (Pole true) s t q = absurd (omega arith)
    once i j (Minus a) (Plus b) s t q =
        let o : b ≡ a = omega arith in
        one_sign (mark T a) t.0 s.0 j i (subst (λ b. mark T b ≡ Given true t.0 j) o t.1) s.1
    once i j (Minus a) (Minus b) s t q =
        let o : b ≡ a = omega arith in
        (one_level (mark T a) false false s.0 t.0 i j s.1 (subst (λ b. mark T b ≡ Given false t.0 j) o t.1), ap Minus (sym o))

    signed_end : (s : Bool) (g : ℕ) (z : State) (k : ℕ) → mark T g ≡ Given s z k → AtLevelOrEnd l T k (signed s g) × (holder (signed s g) ≡ suc (suc g))
    signed_end true g z k q = ((z, q), refl)
    signed_end false g z k q = ((z, q), refl)

    lane_all : (i : ℕ) (x : State) (g : ℕ) (b : Bool) → i < l → g < M.floor.lanes → AtLevel T i x → ruled M f x (signed b g) ≡ true
        → (j : ℕ) × (z : State) × (j ≤ suc i) × AtLevelOrEnd l T j z × (holder z ≡ suc (suc g))
    lane_all i x g b h o sx rx =
        let a = good.all i x g b h o sx rx in
        let c = signed_end a.0 g a.1 a.2 a.4 in
        (a.2, signed a.0 g, a.3, c.0, c.1)

    all : (i : ℕ) (x y : State) → suc i < suc l → AtLevelOrEnd l T i x → Residual M f x y → (j : ℕ) × (z : State) × (j ≤ suc i) × AtLevelOrEnd l T j z × (holder z ≡ holder y)
    all i x (Pole false) h s g = (0, Pole false, omega arith, refl, refl)
    all i x (Pole true) h s g = absurd (not_ended i (λ j u v. ran.before j u (omega arith)) (omega arith) x (from_end i x (Pole true) s g) g)
    all i x (Plus c) h s g =
        let sx = from_end i x (Plus c) s g in lane_all i x c true (omega arith) g.ok_to sx (from_gives i x (Plus c) sx g)
    all i x (Minus c) h s g =
        let sx = from_end i x (Minus c) s g in lane_all i x c false (omega arith) g.ok_to sx (from_gives i x (Minus c) sx g)

    labelled : LevelLabels M f (suc l) (AtLevelOrEnd l T) (name e T)
    labelled = record { root = refl; top = top; up = up; by = by; lowest = lowest; once = once; all = all }

labelled_at : (M : Meaning) (laws : Lawful M) (f : ℕ → ℕ) (fits : Fits M f) (l e : ℕ) → Ran (ruled M f) M.floor.lanes l e (table_up_to (ruled M f) M.floor.lanes l)
    → LevelLabels M f (suc l) (AtLevelOrEnd l (table_up_to (ruled M f) M.floor.lanes l)) (name e (table_up_to (ruled M f) M.floor.lanes l))
unfolding T
labelled_at M laws f fits l e r = labelled M laws f fits l e r

-- where the rules find a path, their labels are those of a search by levels ..
pub rules_label : (M : Meaning) (f : ℕ → ℕ) (l e : ℕ) (t : List Mark) → Lawful M → Fits M f → label (ruled M f) M.floor.lanes ≡ Ended l e t
    → LevelLabels M f (suc l) (AtLevelOrEnd l t) (name e t)
rules_label M f l e t laws fits q =
    let ran : Ran (ruled M f) M.floor.lanes l e t = subst (Right (ruled M f) M.floor.lanes) q (label_right (ruled M f) M.floor.lanes) in
    at_table ran.is ran
  where
    at_table : t ≡ table_up_to (ruled M f) M.floor.lanes l → Ran (ruled M f) M.floor.lanes l e t → LevelLabels M f (suc l) (AtLevelOrEnd l t) (name e t)
    at_table o ran =
        subst⁻¹ (λ t. LevelLabels M f (suc l) (AtLevelOrEnd l t) (name e t)) o
        (labelled_at M laws f fits l e (subst (Ran (ruled M f) M.floor.lanes l e) o ran))

-- .. so the path is a shortest one, of lowest lane numbers
pub rules_find : (M : Meaning) (f : ℕ → ℕ) (l e : ℕ) (t : List Mark) → Lawful M → Fits M f → label (ruled M f) M.floor.lanes ≡ Ended l e t
    → Found M f (path l e t) (suc l)
unfolding path back
rules_find M f l e t laws fits q =
    found M laws f fits (suc l) (AtLevelOrEnd l t) (name e t) (rules_label M f l e t laws fits q) (path l e t) (omega arith) end there names
  where
    end : path l e t (suc l) ≡ Pole true
    end = let o : suc l - suc l ≡ 0 = omega arith in ap (back e t) o

    there : AtLevelOrEnd l t (suc l) (path l e t (suc l))
    there = subst⁻¹ (AtLevelOrEnd l t (suc l)) end refl

    names : (i : ℕ) → i < suc l → path l e t i ≡ name e t (path l e t (suc i))
    names i h = let o : suc l - i ≡ suc (suc l - suc i) = omega arith in ap (back e t) o
