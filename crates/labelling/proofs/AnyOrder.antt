-- In whatever order the three cases of a scan are tried, each lane gets the same label.
use Rattle.std.proofs.Common.{◌≡◌, ℕ, ◌<◌, Bool, true, false, not, ◌&&◌, eqb, ◌⊎◌, List, [], ◌∷◌, sym, refl, ap, ◌∙◌, subst, inl, inr, arith}
use Rattle.std.proofs.lemmas.Bool.Decides.{nat_tests}
use Rattle.std.proofs.lemmas.Bool.{cases_Bool, both_ways, eqb-true, eq-eqb, and_parts, and_from, not-true, not_from_false, ne_eqb, eqb-false}
use Rattle.floor.specs.Meaning.{Meaning, Lawful}
use Rattle.network.specs.States.{State, Pole, Plus, Minus, at}
use Rattle.labelling.specs.Rules.{full, ruled}
use Rattle.labelling.specs.Steps.{outcome}
use Rattle.labelling.specs.Cases.{Case, FullPlus, FullMinus, Opening, opens, taken, by_case, sign_by, is_plus_lane, is_minus_lane, ruled_by, Listed}
use Rattle.labelling.specs.Theorems.{AnyOrder}
use Rattle.labelling.proofs.Same.{label_same}

-- tests that imply each other are one
same_test : (a b : Bool) → (a ≡ true → b ≡ true) → (b ≡ true → a ≡ true) → a ≡ b
same_test true b h k = sym (h refl)
same_test false true h k = k refl
same_test false false h k = refl

module _ (M : Meaning) (f : ℕ → ℕ) where
  -- ---- the first case that gives a sign

  plus_from : (cs : List Case) (x : State) (g : ℕ) → is_plus_lane (sign_by M f cs x g) ≡ true → (c : Case) × (by_case M f c x (Plus g) ≡ true)
  unfolding sign_by
  plus_from [] x g h = absurd (both_ways false refl h)
  plus_from (c ∷ cs) x g h =
      elim (cases_Bool (by_case M f c x (Plus g))) [
        | inl a ↦ (c, a)
        | inr a ↦
            elim (cases_Bool (by_case M f c x (Minus g))) [
              | inl b ↦ let w = rw (a, b) at h in absurd (both_ways false refl w)
              | inr b ↦ plus_from cs x g (rw (a, b) at h)
            ]
      ]

  minus_from : (cs : List Case) (x : State) (g : ℕ) → is_minus_lane (sign_by M f cs x g) ≡ true → (c : Case) × (by_case M f c x (Minus g) ≡ true)
  unfolding sign_by
  minus_from [] x g h = absurd (both_ways false refl h)
  minus_from (c ∷ cs) x g h =
      elim (cases_Bool (by_case M f c x (Plus g))) [
        | inl a ↦ let w = rw a at h in absurd (both_ways false refl w)
        | inr a ↦
            elim (cases_Bool (by_case M f c x (Minus g))) [
              | inl b ↦ (c, b)
              | inr b ↦ minus_from cs x g (rw (a, b) at h)
            ]
      ]

  -- where some case of the list gives +, and none gives -
  plus_to : (cs : List Case) (x : State) (g : ℕ) (c : Case) → Listed c cs → by_case M f c x (Plus g) ≡ true
      → ((d : Case) → by_case M f d x (Minus g) ≡ true → ⊥) → is_plus_lane (sign_by M f cs x g) ≡ true
  unfolding sign_by
  plus_to [] x g c l h no_minus = absurd l
  plus_to (d ∷ cs) x g c l h no_minus =
      elim (cases_Bool (by_case M f d x (Plus g))) [
        | inl a ↦ rw a refl
        | inr a ↦
            elim (cases_Bool (by_case M f d x (Minus g))) [
              | inl b ↦ absurd (no_minus d b)
              | inr b ↦
                  elim l [
                    | inl e ↦ absurd (both_ways (by_case M f d x (Plus g)) a (subst (λ c. by_case M f c x (Plus g) ≡ true) e h))
                    | inr k ↦ rw (a, b) (plus_to cs x g c k h no_minus)
                  ]
            ]
      ]

  minus_to : (cs : List Case) (x : State) (g : ℕ) (c : Case) → Listed c cs → by_case M f c x (Minus g) ≡ true
      → ((d : Case) → by_case M f d x (Plus g) ≡ true → ⊥) → is_minus_lane (sign_by M f cs x g) ≡ true
  unfolding sign_by
  minus_to [] x g c l h no_plus = absurd l
  minus_to (d ∷ cs) x g c l h no_plus =
      elim (cases_Bool (by_case M f d x (Plus g))) [
        | inl a ↦ absurd (no_plus d a)
        | inr a ↦
            elim (cases_Bool (by_case M f d x (Minus g))) [
              | inl b ↦ rw (a, b) refl
              | inr b ↦
                  elim l [
                    | inl e ↦ absurd (both_ways (by_case M f d x (Minus g)) b (subst (λ c. by_case M f c x (Minus g) ≡ true) e h))
                    | inr k ↦ rw (a, b) (minus_to cs x g c k h no_plus)
                  ]
            ]
      ]

  -- ---- the two lanes meet, so no case gives one sign where another gives the other

  meets : (c : Case) (x y : State) → by_case M f c x y ≡ true → at M true x ≡ at M false y
  unfolding by_case
  meets FullPlus (Pole b) y h = absurd (both_ways false refl h)
  meets FullPlus (Plus e) (Pole b) h = absurd (both_ways false refl h)
  meets FullPlus (Plus e) (Plus g) h = absurd (both_ways false refl h)
  meets FullPlus (Plus e) (Minus g) h = grind (arith, nat_tests)
  meets FullPlus (Minus e) y h = absurd (both_ways false refl h)
  meets FullMinus (Pole b) y h = absurd (both_ways false refl h)
  meets FullMinus (Plus e) y h = absurd (both_ways false refl h)
  meets FullMinus (Minus e) (Pole b) h = absurd (both_ways false refl h)
  meets FullMinus (Minus e) (Plus g) h = grind (arith, nat_tests)
  meets FullMinus (Minus e) (Minus g) h = absurd (both_ways false refl h)
  meets Opening x y h =
      let a = and_parts (opens M f x) (eqb (at M true x) (at M false y) && taken M f y) h in
      eqb-true (at M true x) (at M false y) (and_parts (eqb (at M true x) (at M false y)) (taken M f y) a.1).0

  one_sign : Lawful M → (c d : Case) (x : State) (g : ℕ) → g < M.floor.lanes → by_case M f c x (Plus g) ≡ true → by_case M f d x (Minus g) ≡ true → ⊥
  one_sign laws c d x g l a b = laws.rules.ends_differ false g l (sym (meets c x (Plus g) a) ∙ meets d x (Minus g) b)

  -- ---- the rules are the three cases together

  to_case : (x y : State) → ruled M f x y ≡ true → (e g : ℕ) → (x ≡ Plus e) ⊎ (x ≡ Minus e) → (y ≡ Plus g) ⊎ (y ≡ Minus g) → (c : Case) × (by_case M f c x y ≡ true)
  unfolding ruled by_case
  to_case (Pole b) y h e g (inl p) q = absurd (let z : ◌≡◌ {A = ℕ} 0 1 = cc in omega arith)
  to_case (Pole b) y h e g (inr p) q = absurd (let z : ◌≡◌ {A = ℕ} 0 1 = cc in omega arith)
  to_case (Plus a) (Pole b) h e g p (inl q) = absurd (let z : ◌≡◌ {A = ℕ} 0 1 = cc in omega arith)
  to_case (Plus a) (Pole b) h e g p (inr q) = absurd (let z : ◌≡◌ {A = ℕ} 0 1 = cc in omega arith)
  to_case (Minus a) (Pole b) h e g p (inl q) = absurd (let z : ◌≡◌ {A = ℕ} 0 1 = cc in omega arith)
  to_case (Minus a) (Pole b) h e g p (inr q) = absurd (let z : ◌≡◌ {A = ℕ} 0 1 = cc in omega arith)
  to_case (Plus a) (Plus b) h e g p q = (Opening, grind (arith, nat_tests))
  to_case (Plus a) (Minus b) h e g p q =
      elim (cases_Bool (full M f true a)) [
        | inl y ↦ (FullPlus, grind (arith, nat_tests))
        | inr y ↦ (Opening, grind (arith, nat_tests))
      ]
  to_case (Minus a) (Plus b) h e g p q =
      elim (cases_Bool (full M f false b)) [
        | inl y ↦ (FullMinus, grind (arith, nat_tests))
        | inr y ↦ (Opening, grind (arith, nat_tests))
      ]
  to_case (Minus a) (Minus b) h e g p q = (Opening, grind (arith, nat_tests))

  plus_plus : (c : Case) (e g : ℕ) → by_case M f c (Plus e) (Plus g) ≡ true → ruled M f (Plus e) (Plus g) ≡ true
  unfolding ruled by_case
  plus_plus FullPlus e g h = absurd (both_ways false refl h)
  plus_plus FullMinus e g h = absurd (both_ways false refl h)
  plus_plus Opening e g h = grind (arith, nat_tests)

  plus_minus : (c : Case) (e g : ℕ) → (e ≡ g → ⊥) → by_case M f c (Plus e) (Minus g) ≡ true → ruled M f (Plus e) (Minus g) ≡ true
  unfolding ruled by_case
  plus_minus FullPlus e g ne h = let n = ne_eqb e g ne in grind (arith, nat_tests)
  plus_minus FullMinus e g ne h = absurd (both_ways false refl h)
  plus_minus Opening e g ne h = let n = ne_eqb e g ne in grind (arith, nat_tests)

  minus_plus : (c : Case) (e g : ℕ) → (e ≡ g → ⊥) → by_case M f c (Minus e) (Plus g) ≡ true → ruled M f (Minus e) (Plus g) ≡ true
  unfolding ruled by_case
  minus_plus FullPlus e g ne h = absurd (both_ways false refl h)
  minus_plus FullMinus e g ne h = let n = ne_eqb e g ne in grind (arith, nat_tests)
  minus_plus Opening e g ne h = let n = ne_eqb e g ne in grind (arith, nat_tests)

  minus_minus : (c : Case) (e g : ℕ) → by_case M f c (Minus e) (Minus g) ≡ true → ruled M f (Minus e) (Minus g) ≡ true
  unfolding ruled by_case
  minus_minus FullPlus e g h = absurd (both_ways false refl h)
  minus_minus FullMinus e g h = absurd (both_ways false refl h)
  minus_minus Opening e g h = grind (arith, nat_tests)

  -- a lane gives nothing to itself
  own_plus : (e g : ℕ) → e ≡ g → ruled M f (Plus e) (Minus g) ≡ true → ⊥
  unfolding ruled
  own_plus e g o h = let n = eq-eqb e g o in grind (arith, nat_tests)

  own_minus : (e g : ℕ) → e ≡ g → ruled M f (Minus e) (Plus g) ≡ true → ⊥
  unfolding ruled
  own_minus e g o h = let n = eq-eqb e g o in grind (arith, nat_tests)

  apart : Lawful M → (x y : State) (e g : ℕ) → g < M.floor.lanes → ruled M f x y ≡ true → (x ≡ Plus e) ⊎ (x ≡ Minus e) → (y ≡ Plus g) ⊎ (y ≡ Minus g) → not (eqb e g) ≡ true
  apart laws x y e g l h p q = not_from_false (eqb e g) (ne_eqb e g (λ o. by x y h o p q))
    where
      by : (x y : State) → ruled M f x y ≡ true → e ≡ g → (x ≡ Plus e) ⊎ (x ≡ Minus e) → (y ≡ Plus g) ⊎ (y ≡ Minus g) → ⊥
      by x y h o (inl p) (inl q) =
          let c = to_case x y h e g (inl p) (inl q) in
          laws.rules.ends_differ true g l (ap (M.floor.end true) (sym o) ∙ sym (ap (at M true) p) ∙ meets c.0 x y c.1 ∙ ap (at M false) q)
      by x y h o (inr p) (inr q) =
          let c = to_case x y h e g (inr p) (inr q) in
          laws.rules.ends_differ false g l (ap (M.floor.end false) (sym o) ∙ sym (ap (at M true) p) ∙ meets c.0 x y c.1 ∙ ap (at M false) q)
      by x y h o (inl p) (inr q) = own_plus e g o (subst (λ x. ruled M f x (Minus g) ≡ true) p (subst (λ y. ruled M f x y ≡ true) q h))
      by x y h o (inr p) (inl q) = own_minus e g o (subst (λ x. ruled M f x (Plus g) ≡ true) p (subst (λ y. ruled M f x y ≡ true) q h))

  module _ (laws : Lawful M) (cs : List Case) (hp : Listed FullPlus cs) (hm : Listed FullMinus cs) (ho : Listed Opening cs) where
    in_list : (c : Case) → Listed c cs
    in_list FullPlus = hp
    in_list FullMinus = hm
    in_list Opening = ho

    to_plus : (x : State) (e g : ℕ) → g < M.floor.lanes → (x ≡ Plus e) ⊎ (x ≡ Minus e) → ruled M f x (Plus g) ≡ true
        → (not (eqb e g) && is_plus_lane (sign_by M f cs x g)) ≡ true
    to_plus x e g l p h =
        let c = to_case x (Plus g) h e g p (inl refl) in
        and_from (not (eqb e g)) (is_plus_lane (sign_by M f cs x g)) (apart laws x (Plus g) e g l h p (inl refl))
        (plus_to cs x g c.0 (in_list c.0) c.1 (λ d b. one_sign laws c.0 d x g l c.1 b))

    to_minus : (x : State) (e g : ℕ) → g < M.floor.lanes → (x ≡ Plus e) ⊎ (x ≡ Minus e) → ruled M f x (Minus g) ≡ true
        → (not (eqb e g) && is_minus_lane (sign_by M f cs x g)) ≡ true
    to_minus x e g l p h =
        let c = to_case x (Minus g) h e g p (inr refl) in
        and_from (not (eqb e g)) (is_minus_lane (sign_by M f cs x g)) (apart laws x (Minus g) e g l h p (inr refl))
        (minus_to cs x g c.0 (in_list c.0) c.1 (λ d a. one_sign laws d c.0 x g l a c.1))

    differ : (e g : ℕ) (b : Bool) → (not (eqb e g) && b) ≡ true → (e ≡ g → ⊥) × (b ≡ true)
    differ e g b h = let a = and_parts (not (eqb e g)) b h in (eqb-false e g (not-true (eqb e g) a.0), a.1)

    plus_same : (x : State) (g : ℕ) → g < M.floor.lanes → ruled_by M f cs x (Plus g) ≡ ruled M f x (Plus g)
    unfolding ruled_by
    plus_same (Pole b) g l = refl
    plus_same (Plus e) g l =
        same_test (not (eqb e g) && is_plus_lane (sign_by M f cs (Plus e) g)) (ruled M f (Plus e) (Plus g))
        (λ h. let a = plus_from cs (Plus e) g (differ e g (is_plus_lane (sign_by M f cs (Plus e) g)) h).1 in plus_plus a.0 e g a.1)
        (to_plus (Plus e) e g l (inl refl))
    plus_same (Minus e) g l =
        same_test (not (eqb e g) && is_plus_lane (sign_by M f cs (Minus e) g)) (ruled M f (Minus e) (Plus g))
        (λ h. let d = differ e g (is_plus_lane (sign_by M f cs (Minus e) g)) h in let a = plus_from cs (Minus e) g d.1 in minus_plus a.0 e g d.0 a.1)
        (to_plus (Minus e) e g l (inr refl))

    minus_same : (x : State) (g : ℕ) → g < M.floor.lanes → ruled_by M f cs x (Minus g) ≡ ruled M f x (Minus g)
    unfolding ruled_by
    minus_same (Pole b) g l = refl
    minus_same (Plus e) g l =
        same_test (not (eqb e g) && is_minus_lane (sign_by M f cs (Plus e) g)) (ruled M f (Plus e) (Minus g))
        (λ h. let d = differ e g (is_minus_lane (sign_by M f cs (Plus e) g)) h in let a = minus_from cs (Plus e) g d.1 in plus_minus a.0 e g d.0 a.1)
        (to_minus (Plus e) e g l (inl refl))
    minus_same (Minus e) g l =
        same_test (not (eqb e g) && is_minus_lane (sign_by M f cs (Minus e) g)) (ruled M f (Minus e) (Minus g))
        (λ h. let a = minus_from cs (Minus e) g (differ e g (is_minus_lane (sign_by M f cs (Minus e) g)) h).1 in minus_minus a.0 e g a.1)
        (to_minus (Minus e) e g l (inr refl))

    end_same : (x : State) → ruled_by M f cs x (Pole true) ≡ ruled M f x (Pole true)
    unfolding ruled_by
    end_same (Pole b) = refl
    end_same (Plus e) = refl
    end_same (Minus e) = refl

pub any_order : AnyOrder
unfolding outcome
any_order M f cs laws hp hm ho =
    label_same (ruled_by M f cs) (ruled M f) M.floor.lanes (λ x y a. plus_same M f laws cs hp hm ho x y) (λ x y a. minus_same M f laws cs hp hm ho x y)
    (λ x a. end_same M f laws cs hp hm ho x)
