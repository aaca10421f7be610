-- The path that the labelling finds is an augmenting path, none is shorter, and it is the first of its length.
use Rattle.std.proofs.Common.{◌≡◌, ℕ, zero, suc, ◌+◌, ◌-◌, ◌<◌, ◌≤◌, true, false, ◌⊎◌, List, sym, refl, ap, ◌∙◌, subst, inl, inr, arith}
use Rattle.std.proofs.lemmas.Bool.{cases_lt, cases_eq}
use Rattle.levels.specs.Levels.{Walk, Level}
use Rattle.floor.specs.Meaning.{Meaning, Lawful}
use Rattle.network.specs.States.{State, Pole, Plus, Minus, at, OnFloor, Turn, Step, lane_number, holder}
use Rattle.network.specs.Plans.{Fits}
use Rattle.network.specs.Found.{Found}
use Rattle.labelling.specs.Rules.{ruled}
use Rattle.labelling.specs.Table.{Mark, Ended, label, path}
use Rattle.labelling.specs.Augmenting.{Augmenting}
use Rattle.labelling.proofs.Finds.{rules_find}
use Rattle.labelling.proofs.Residual.{from_residual, no_start, no_end, residual_at}

-- two states of one lane: the same, or a turn
same_or_turn : (x y : State) → holder x ≡ holder y → (x ≡ y) ⊎ Turn x y
same_or_turn (Pole false) (Pole false) q = inl refl
same_or_turn (Pole false) (Pole true) q = absurd (omega arith)
same_or_turn (Pole true) (Pole false) q = absurd (omega arith)
same_or_turn (Pole true) (Pole true) q = inl refl
same_or_turn (Pole false) (Plus b) q = absurd (omega arith)
same_or_turn (Pole true) (Plus b) q = absurd (omega arith)
same_or_turn (Pole false) (Minus b) q = absurd (omega arith)
same_or_turn (Pole true) (Minus b) q = absurd (omega arith)
same_or_turn (Plus a) (Pole false) q = absurd (omega arith)
same_or_turn (Plus a) (Pole true) q = absurd (omega arith)
same_or_turn (Plus a) (Plus b) q = inl (ap Plus (omega arith))
same_or_turn (Plus a) (Minus b) q = inr (omega arith)
same_or_turn (Minus a) (Pole false) q = absurd (omega arith)
same_or_turn (Minus a) (Pole true) q = absurd (omega arith)
same_or_turn (Minus a) (Plus b) q = inr (omega arith)
same_or_turn (Minus a) (Minus b) q = inl (ap Minus (omega arith))

turn_meets : (M : Meaning) (x y : State) → Turn x y → at M true x ≡ at M false y
turn_meets M (Pole b) y t = absurd t
turn_meets M (Plus e) (Pole c) t = absurd t
turn_meets M (Plus e) (Plus g) t = absurd t
turn_meets M (Plus e) (Minus g) t = ap (M.floor.end true) t
turn_meets M (Minus e) (Pole c) t = absurd t
turn_meets M (Minus e) (Plus g) t = ap (M.floor.end false) t
turn_meets M (Minus e) (Minus g) t = absurd t

module _ (M : Meaning) (laws : Lawful M) (f : ℕ → ℕ) (fits : Fits M f) where
  module _ (P : ℕ → State) (l : ℕ) (found : Found M f P (suc l)) where
    distinct : (i j : ℕ) → i < j → j ≤ suc l → holder (P i) ≡ holder (P j) → ⊥
    distinct i j h k q =
        elim (same_or_turn (P i) (P j) q) [
          | inl e ↦ omega (arith, (found.straight j k).shortest i (subst (λ y. Walk (Step M f) (P 0) i y) e (found.straight i (omega arith)).walk))
          | inr t ↦
              let s : Step M f (P i) (P j) = record {
                ok_from = found.path.ok i (omega arith);
                ok_to = found.path.ok j k;
                meet = turn_meets M (P i) (P j) t;
                some = inr t;
              } in
              let o : j ≡ suc i = omega (arith, found.path.short i j h k s) in
              found.path.straight i (omega arith) (subst (λ j. Turn (P i) (P j)) o t)
        ]

    augments : Augmenting M f P l
    augments = from_residual M laws f fits P l (record {
      begin = found.path.begin;
      finish = found.path.finish;
      distinct = distinct;
      residual = λ i h. record {
        ok_from = found.path.ok i (omega arith);
        ok_to = found.path.ok (suc i) (omega arith);
        meet = found.path.meet i (omega arith);
        some = found.path.some i (omega arith);
        straight = found.path.straight i (omega arith);
      };
    })

  module _ (Q : ℕ → State) (k : ℕ) (aug : Augmenting M f Q k) where
    link : (i : ℕ) → i ≤ k → Step M f (Q i) (Q (suc i))
    link i h =
        let r = residual_at M laws f fits Q k aug i h in
        record { ok_from = r.ok_from; ok_to = r.ok_to; meet = r.meet; some = inl r.some }

    pub walk : (i : ℕ) → i ≤ suc k → Walk (Step M f) (Q 0) i (Q i)
    walk zero h = refl
    walk (suc i) h = (Q i, walk i (omega arith), link i (omega arith))

    -- a walk to a state of the row goes on to the end
    onward : (d i n : ℕ) → i + d ≡ suc k → (s : State) → Walk (Step M f) s n (Q i) → Walk (Step M f) s (n + d) (Q (suc k))
    onward zero i n e s w =
        let o : i ≡ suc k = omega arith in
        let u : n ≡ n + 0 = omega arith in
        subst (λ n. Walk (Step M f) s n (Q (suc k))) u (subst (λ i. Walk (Step M f) s n (Q i)) o w)
    onward (suc d) i n e s w =
        let u : suc n + d ≡ n + suc d = omega arith in
        subst (λ n. Walk (Step M f) s n (Q (suc k))) u (onward d (suc i) (suc n) (omega arith) s (Q i, w, link i (omega arith)))

    module _ (P : ℕ → State) (l : ℕ) (found : Found M f P (suc l)) where
      starts : Q 0 ≡ P 0
      starts = aug.begin ∙ sym found.path.begin

      ends : Q (suc k) ≡ P (suc l)
      ends = aug.finish ∙ sym found.path.finish

      no_shorter : l ≤ k
      no_shorter =
          let w : Walk (Step M f) (P 0) (suc k) (P (suc l)) =
          subst (λ y. Walk (Step M f) (P 0) (suc k) y) ends (subst (λ x. Walk (Step M f) x (suc k) (Q (suc k))) starts (walk (suc k) (omega arith))) in
          omega (arith, (found.straight (suc l) (omega arith)).shortest (suc k) w)

      level : k ≡ l → (i : ℕ) → i ≤ suc l → Level (Step M f) (P 0) i (Q i)
      level e i h = record {
        walk = subst (λ x. Walk (Step M f) x i (Q i)) starts (walk i (omega arith));
        shortest = λ n w.
            omega (
              arith,
              (found.straight (suc l) (omega arith)).shortest (n + (suc k - i))
                  (subst (λ y. Walk (Step M f) (P 0) (n + (suc k - i)) y) ends (onward (suc k - i) i n (omega arith) (P 0) w)),
            );
      }

      -- states of one number that step to one state are one
      one_state : (x y z : State) → OnFloor M x → (x ≡ Pole true → ⊥) → (y ≡ Pole true → ⊥) → at M true x ≡ at M false z → at M true y ≡ at M false z → lane_number x ≡ lane_number y
          → (x ≡ Pole false → y ≡ Pole false) → (y ≡ Pole false → x ≡ Pole false) → x ≡ y
      one_state (Pole true) y z o nx ny a b q u v = absurd (nx refl)
      one_state (Pole false) y z o nx ny a b q u v = sym (u refl)
      one_state (Plus e) (Pole true) z o nx ny a b q u v = absurd (ny refl)
      one_state (Plus e) (Pole false) z o nx ny a b q u v = v refl
      one_state (Plus e) (Plus g) z o nx ny a b q u v = ap Plus q
      one_state (Plus e) (Minus g) z o nx ny a b q u v = absurd (laws.rules.ends_differ true e o (a ∙ sym b ∙ ap (M.floor.end false) (sym q)))
      one_state (Minus e) (Pole true) z o nx ny a b q u v = absurd (ny refl)
      one_state (Minus e) (Pole false) z o nx ny a b q u v = v refl
      one_state (Minus e) (Plus g) z o nx ny a b q u v = absurd (laws.rules.ends_differ false e o (a ∙ sym b ∙ ap (M.floor.end true) (sym q)))
      one_state (Minus e) (Minus g) z o nx ny a b q u v = ap Minus q

-- where two rows are one behind i, the one that was found has the lower number at i, or they are one at i
first_at : (M : Meaning) (laws : Lawful M) (f : ℕ → ℕ) (fits : Fits M f) (Q : ℕ → State) (k : ℕ) (aug : Augmenting M f Q k)
    (P : ℕ → State) (l : ℕ) (found : Found M f P (suc l)) → k ≡ l → (i : ℕ) → i ≤ l → Q (suc i) ≡ P (suc i) → (Q i ≡ P i) ⊎ (lane_number (P i) < lane_number (Q i))
first_at M laws f fits Q k aug P l found e i h q =
    let s : Step M f (Q i) (P (suc i)) = subst (λ y. Step M f (Q i) y) q (link M laws f fits Q k aug i (omega arith)) in
    let low = found.lowest i (Q i) (omega arith) (level M laws f fits Q k aug P l found e i (omega arith)) s in
    elim (cases_eq (lane_number (Q i)) (lane_number (P i))) [
      | inl o ↦
          inl (one_state M laws f fits Q k aug P l found (Q i) (P i) (P (suc i)) (aug.ok i (omega arith)) (no_end M laws f fits Q k aug i (omega arith))
          (no_end M laws f fits P l pa i h) s.meet (found.path.meet i (omega arith)) o (to_start i h) (from_start i h))
      | inr o ↦ inr (omega arith)
    ]
  where
    pa : Augmenting M f P l
    pa = augments M laws f fits P l found

    to_start : (i : ℕ) → i ≤ l → Q i ≡ Pole false → P i ≡ Pole false
    to_start zero h q = found.path.begin
    to_start (suc i) h q = absurd (no_start M laws f fits Q k aug i (omega arith) q)

    from_start : (i : ℕ) → i ≤ l → P i ≡ Pole false → Q i ≡ Pole false
    from_start zero h q = aug.begin
    from_start (suc i) h q = absurd (no_start M laws f fits P l pa i (omega arith) q)

-- the path that the labelling finds is an augmenting path
pub path_augments : (M : Meaning) (f : ℕ → ℕ) (l e : ℕ) (t : List Mark) → Lawful M → Fits M f → label (ruled M f) M.floor.lanes ≡ Ended l e t
    → Augmenting M f (path l e t) l
path_augments M f l e t laws fits q = augments M laws f fits (path l e t) l (rules_find M f l e t laws fits q)

-- no augmenting path is shorter, and of those as long it is the first, compared from the despatch back
pub path_first : (M : Meaning) (f : ℕ → ℕ) (l e : ℕ) (t : List Mark) → Lawful M → Fits M f → label (ruled M f) M.floor.lanes ≡ Ended l e t
    → (Q : ℕ → State) (k : ℕ) → Augmenting M f Q k
    → (l ≤ k)
    × (k ≡ l → (i : ℕ) → i ≤ l → ((j : ℕ) → i < j → j ≤ l → Q j ≡ path l e t j)
    → (Q i ≡ path l e t i) ⊎ (lane_number (path l e t i) < lane_number (Q i)))
path_first M f l e t laws fits q Q k aug = (
  no_shorter M laws f fits Q k aug (path l e t) l (rules_find M f l e t laws fits q),
  λ kl i h same.
      first_at M laws f fits Q k aug (path l e t) l (rules_find M f l e t laws fits q) kl i h (next kl i h same),
)
  where
    next : k ≡ l → (i : ℕ) → i ≤ l → ((j : ℕ) → i < j → j ≤ l → Q j ≡ path l e t j) → Q (suc i) ≡ path l e t (suc i)
    next kl i h same =
        elim (cases_lt i l) [
          | inl o ↦ same (suc i) (omega arith) (omega arith)
          | inr o ↦
              let a : suc k ≡ suc i = omega arith in
              let b : suc l ≡ suc i = omega arith in
              sym (ap Q a) ∙ ends M laws f fits Q k aug (path l e t) l (rules_find M f l e t laws fits q) ∙ ap (path l e t) b
        ]
