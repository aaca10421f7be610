-- What holds of the table level by level.
use Rattle.std.proofs.Common.{◌≡◌, ℕ, zero, suc, ◌<◌, ◌≤◌, Bool, true, false, ◌⊎◌, List, [], sym, refl, ◌∙◌, subst, inl, inr, arith}
use Rattle.std.proofs.lemmas.Bool.{cases_lt}
use Rattle.network.specs.States.{State, Pole, Plus, Minus, lane_number}
use Rattle.labelling.specs.Table.{Mark, Blank, Given, signed, mark, pass, table_up_to}
use Rattle.labelling.proofs.Scan.{AtLevel, none_mk, cases_mark, Passed, passed_suc, passed_zero}

-- what holds of a table with the levels up to l
pub record Good (r : State → State → Bool) (m l : ℕ) (t : List Mark) : Type 0 where
  pub off : (y : ℕ) → m ≤ y → mark t y ≡ Blank
  pub some : (y : ℕ) (s : Bool) (z : State) (k : ℕ) → mark t y ≡ Given s z k → 0 < k
  pub most : (y : ℕ) (s : Bool) (z : State) (k : ℕ) → mark t y ≡ Given s z k → k ≤ l
  pub by : (y : ℕ) (s : Bool) (z : State) (i : ℕ) → mark t y ≡ Given s z (suc i) → r z (signed s y) ≡ true
  pub up : (y : ℕ) (s : Bool) (z : State) (i : ℕ) → mark t y ≡ Given s z (suc i) → AtLevel t i z
  pub lowest : (y : ℕ) (s : Bool) (z : State) (i : ℕ) → mark t y ≡ Given s z (suc i) → (x : State) (b : Bool) → AtLevel t i x → r x (signed b y) ≡ true → lane_number z ≤ lane_number x
  pub all : (i : ℕ) (x : State) (y : ℕ) (b : Bool) → i < l → y < m → AtLevel t i x → r x (signed b y) ≡ true
      → (s : Bool) × (z : State) × (k : ℕ) × (k ≤ suc i) × (mark t y ≡ Given s z k)

module _ (r : State → State → Bool) (m : ℕ) where
  module _ (l : ℕ) (t u : List Mark) (g : Good r m l t) (p : Passed r m l t u) where
    lane_below : (v : List Mark) → ((y : ℕ) → m ≤ y → mark v y ≡ Blank) → (y : ℕ) (s : Bool) (z : State) (k : ℕ) → mark v y ≡ Given s z k → y < m
    lane_below v o y s z k q = elim (cases_lt y m) [ inl h ↦ h | inr h ↦ none_mk (mark v y) s z k (o y (omega arith)) q ]

    on : (y : ℕ) (s : Bool) (z : State) (k : ℕ) → mark t y ≡ Given s z k → mark u y ≡ Given s z k
    on y s z k q = p.keeps y s z k (lane_below t g.off y s z k q) q

    -- a label is an old one or a fresh one
    which : (y : ℕ) (s : Bool) (z : State) (k : ℕ) → mark u y ≡ Given s z k → (mark t y ≡ Given s z k) ⊎ ((y < m) × (mark t y ≡ Blank))
    which y s z k q =
        elim (cases_mark (mark t y)) [
          | inl o ↦ inr (lane_below u p.off y s z k q, o)
          | inr o ↦ inl (o.3 ∙ sym (on y o.0 o.1 o.2 o.3) ∙ q)
        ]

    back_at : (y : ℕ) (s : Bool) (z : State) (k : ℕ) → k ≤ l → mark u y ≡ Given s z k → mark t y ≡ Given s z k
    back_at y s z k h q =
        elim (which y s z k q) [
          | inl o ↦ o
          | inr o ↦ absurd (omega (arith, (p.fresh y s z k o.0 o.1 q).0))
        ]

    sits_on : (i : ℕ) (x : State) → AtLevel t i x → AtLevel u i x
    sits_on i (Pole false) s = s
    sits_on i (Pole true) s = s
    sits_on i (Plus e) s = (s.0, on e true s.0 i s.1)
    sits_on i (Minus e) s = (s.0, on e false s.0 i s.1)

    sits_back : (i : ℕ) (x : State) → i ≤ l → AtLevel u i x → AtLevel t i x
    sits_back i (Pole false) h s = s
    sits_back i (Pole true) h s = s
    sits_back i (Plus e) h s = (s.0, back_at e true s.0 i h s.1)
    sits_back i (Minus e) h s = (s.0, back_at e false s.0 i h s.1)

    next_most : (y : ℕ) (s : Bool) (z : State) (k : ℕ) → mark u y ≡ Given s z k → k ≤ suc l
    next_most y s z k q =
        elim (which y s z k q) [
          | inl o ↦ omega (arith, g.most y s z k o)
          | inr o ↦ omega (arith, (p.fresh y s z k o.0 o.1 q).0)
        ]

    next_up : (y : ℕ) (s : Bool) (z : State) (i : ℕ) → mark u y ≡ Given s z (suc i) → AtLevel u i z
    next_up y s z i q =
        elim (which y s z (suc i) q) [
          | inl o ↦ sits_on i z (g.up y s z i o)
          | inr o ↦
              let a = p.fresh y s z (suc i) o.0 o.1 q in
              sits_on i z (subst (λ j. AtLevel t j z) (omega (arith, a.0)) a.1)
        ]

    next_lowest : (y : ℕ) (s : Bool) (z : State) (i : ℕ) → mark u y ≡ Given s z (suc i) → (x : State) (b : Bool) → AtLevel u i x → r x (signed b y) ≡ true → lane_number z ≤ lane_number x
    next_lowest y s z i q x b sx rx =
        elim (which y s z (suc i) q) [
          | inl o ↦ g.lowest y s z i o x b (sits_back i x (omega (arith, g.most y s z (suc i) o)) sx) rx
          | inr o ↦
              let a = p.fresh y s z (suc i) o.0 o.1 q in
              let il : i ≡ l = omega (arith, a.0) in
              a.3 x b (subst (λ j. AtLevel t j x) il (sits_back i x (omega arith) sx)) rx
        ]

    next_all : (i : ℕ) (x : State) (y : ℕ) (b : Bool) → i < suc l → y < m → AtLevel u i x → r x (signed b y) ≡ true
        → (s : Bool) × (z : State) × (k : ℕ) × (k ≤ suc i) × (mark u y ≡ Given s z k)
    next_all i x y b h ym sx rx =
        elim (cases_lt i l) [
          | inl il ↦
              let a = g.all i x y b il ym (sits_back i x (omega arith) sx) rx in
              (a.0, a.1, a.2, a.3, on y a.0 a.1 a.2 a.4)
          | inr il ↦
              elim (cases_mark (mark u y)) [
                | inl o ↦
                    let e : i ≡ l = omega arith in
                    absurd (p.none y ym o x b (subst (λ j. AtLevel t j x) e (sits_back i x (omega arith) sx)) rx)
                | inr o ↦ (o.0, o.1, o.2, omega (arith, next_most y o.0 o.1 o.2 o.3), o.3)
              ]
        ]

    good_next : Good r m (suc l) u
    good_next = record {
      off = p.off;
      some = λ y s z k q.
          elim (which y s z k q) [
            | inl o ↦ g.some y s z k o
            | inr o ↦ omega (arith, (p.fresh y s z k o.0 o.1 q).0)
          ];
      most = next_most;
      by = λ y s z i q.
          elim (which y s z (suc i) q) [
            | inl o ↦ g.by y s z i o
            | inr o ↦ (p.fresh y s z (suc i) o.0 o.1 q).2
          ];
      up = next_up;
      lowest = next_lowest;
      all = next_all;
    }

  good_nil : Good r m 0 []
  unfolding mark
  good_nil = record {
    off = λ y h. refl;
    some = λ y s z k q. none_mk Blank s z k refl q;
    most = λ y s z k q. none_mk Blank s z k refl q;
    by = λ y s z i q. none_mk Blank s z (suc i) refl q;
    up = λ y s z i q. none_mk Blank s z (suc i) refl q;
    lowest = λ y s z i q. none_mk Blank s z (suc i) refl q;
    all = λ i x y b h. absurd (omega arith);
  }

  pub good_tab : (l : ℕ) → Good r m l (table_up_to r m l)
  unfolding table_up_to
  good_tab zero = good_nil
  good_tab (suc zero) = good_next 0 [] (pass r m 0 []) good_nil (passed_zero r m)
  good_tab (suc (suc l)) =
      good_next (suc l) (table_up_to r m (suc l)) (pass r m (suc l) (table_up_to r m (suc l))) (good_tab (suc l)) (passed_suc r m l (table_up_to r m (suc l)) (good_tab (suc l)).off)

  pub passed_tab : (l : ℕ) → Passed r m l (table_up_to r m l) (table_up_to r m (suc l))
  unfolding table_up_to
  passed_tab zero = passed_zero r m
  passed_tab (suc l) = passed_suc r m l (table_up_to r m (suc l)) (good_tab (suc l)).off

  -- a label of level j is in the table of level j, and stays
  pub sits_down : (l j : ℕ) (x : State) → j ≤ l → AtLevel (table_up_to r m l) j x → AtLevel (table_up_to r m j) j x
  sits_down zero j x h s = let e : 0 ≡ j = omega arith in subst (λ k. AtLevel (table_up_to r m k) j x) e s
  sits_down (suc l) j x h s =
      elim (cases_lt j (suc l)) [
        | inl q ↦ sits_down l j x (omega arith) (sits_back l (table_up_to r m l) (table_up_to r m (suc l)) (good_tab l) (passed_tab l) j x (omega arith) s)
        | inr q ↦ let e : suc l ≡ j = omega arith in subst (λ k. AtLevel (table_up_to r m k) j x) e s
      ]

  pub mark_up : (l j y : ℕ) (s : Bool) (z : State) (k : ℕ) → j ≤ l → mark (table_up_to r m j) y ≡ Given s z k → mark (table_up_to r m l) y ≡ Given s z k
  mark_up zero j y s z k h q = let e : j ≡ 0 = omega arith in subst (λ i. mark (table_up_to r m i) y ≡ Given s z k) e q
  mark_up (suc l) j y s z k h q =
      elim (cases_lt j (suc l)) [
        | inl o ↦ on l (table_up_to r m l) (table_up_to r m (suc l)) (good_tab l) (passed_tab l) y s z k (mark_up l j y s z k (omega arith) q)
        | inr o ↦ let e : j ≡ suc l = omega arith in subst (λ i. mark (table_up_to r m i) y ≡ Given s z k) e q
      ]
