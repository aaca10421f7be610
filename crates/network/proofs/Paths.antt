-- What a path without detour is like: its lanes differ, and a move changes the trays of each once.
use Rattle.std.proofs.Common.{◌≡◌, ℕ, zero, suc, ◌+◌, ◌-◌, ◌<◌, ◌≤◌, Bool, true, false, cond, eqb, sym, refl, ap, ◌∙◌, subst, inl, inr, arith}
use Rattle.std.proofs.lemmas.Bool.Decides.{nat_tests}
use Rattle.std.proofs.lemmas.Bool.{cases_Bool, cases_eq, both_ways, eqb-true, ne_eqb}
use Rattle.polymatroid.specs.Side.{plus, minus}
use Rattle.floor.specs.Meaning.{Meaning}
use Rattle.network.specs.States.{State, Pole, Plus, Minus, at, amount, Turn, Step, Path, applied, augmented}

-- nothing steps to the start, and the end steps to nothing
pub into_start : (M : Meaning) (f : ℕ → ℕ) (x : State) → amount M f x (Pole false) ≡ 0
into_start M f (Pole b) = refl
into_start M f (Plus e) = refl
into_start M f (Minus e) = refl

pub out_of_end : (M : Meaning) (f : ℕ → ℕ) (y : State) → amount M f (Pole true) y ≡ 0
out_of_end M f (Pole b) = refl
out_of_end M f (Plus e) = refl
out_of_end M f (Minus e) = refl

-- the state is of lane e
unfoldable pub touches : State → ℕ → Bool
touches (Pole b) e = false
touches (Plus h) e = eqb e h
touches (Minus h) e = eqb e h

pub applied_other : (n : ℕ) (x : State) (f : ℕ → ℕ) (e : ℕ) → touches x e ≡ false → applied n x f e ≡ f e
unfolding touches plus minus
applied_other n (Pole b) f e t = refl
applied_other n (Plus h) f e t = grind (arith, nat_tests)
applied_other n (Minus h) f e t = grind (arith, nat_tests)

pub walked_other : (n : ℕ) (P : ℕ → State) (f : ℕ → ℕ) (j e : ℕ) → ((i : ℕ) → i < j → touches (P i) e ≡ false) → augmented n P j f e ≡ f e
unfolding augmented
walked_other n P f zero e t = refl
walked_other n P f (suc j) e t =
    applied_other n (P j) (augmented n P j f) e (t j (omega arith)) ∙ walked_other n P f j e (λ i l. t i (omega arith))

pub applied_same : (n : ℕ) (x : State) (g h : ℕ → ℕ) (e : ℕ) → g e ≡ h e → applied n x g e ≡ applied n x h e
unfolding plus minus
applied_same n (Pole b) g h e q = q
applied_same n (Plus a) g h e q = ap (λ y. cond (eqb e a) (y + n) y) q
applied_same n (Minus a) g h e q = ap (λ y. cond (eqb e a) (y - n) y) q

module _ (M : Meaning) (f : ℕ → ℕ) (P : ℕ → State) (N : ℕ) (path : Path M f P N) where
  pub step_at : (i : ℕ) → i < N → Step M f (P i) (P (suc i))
  step_at i l = record {
    ok_from = path.ok i (omega arith);
    ok_to = path.ok (suc i) l;
    meet = path.meet i l;
    some = inl (path.some i l);
  }

  -- no state comes twice
  pub states_differ : (i j : ℕ) → i < j → j ≤ N → P i ≡ P j → ⊥
  states_differ i zero l m e = omega arith
  states_differ zero (suc j) l m e =
      let q : P (suc j) ≡ Pole false = sym e ∙ path.begin in
      omega (arith, rw q at (path.some j m), into_start M f (P j))
  states_differ (suc i) (suc j) l m e =
      omega (arith, path.short i (suc j) (omega arith) m (subst (Step M f (P i)) e (step_at i (omega arith))))

  -- nor do the two signs of a lane
  turn_differ : (i j : ℕ) → i < j → j ≤ N → at M true (P i) ≡ at M false (P j) → Turn (P i) (P j) → ⊥
  turn_differ i j l m a t =
      let s = path.short i j l m
      (record { ok_from = path.ok i (omega arith); ok_to = path.ok j m; meet = a; some = inr t }) in
      let q : j ≡ suc i = omega arith in
      path.straight i (omega arith) (subst (λ k. Turn (P i) (P k)) q t)

  pub touch_once : (i j e : ℕ) → i < j → j ≤ N → touches (P i) e ≡ true → touches (P j) e ≡ false
  unfolding touches
  touch_once i j e l m t = ways (P i) (P j) refl refl t
    where
      same : (h g : ℕ) → eqb e h ≡ true → e ≡ g → h ≡ g
      same h g t r = sym (eqb-true e h t) ∙ r

      ways : (x y : State) → P i ≡ x → P j ≡ y → touches x e ≡ true → touches y e ≡ false
      ways (Pole b) y p q t = absurd (both_ways false refl t)
      ways (Plus h) (Pole b) p q t = refl
      ways (Plus h) (Plus g) p q t = ne_eqb e g (λ r. states_differ i j l m (p ∙ ap Plus (same h g t r) ∙ sym q))
      ways (Plus h) (Minus g) p q t =
          ne_eqb e g (λ r. let s = same h g t r in turn_differ i j l m (rw (p, q) (ap (M.floor.end true) s)) (rw (p, q) s))
      ways (Minus h) (Pole b) p q t = refl
      ways (Minus h) (Plus g) p q t =
          ne_eqb e g (λ r. let s = same h g t r in turn_differ i j l m (rw (p, q) (ap (M.floor.end false) s)) (rw (p, q) s))
      ways (Minus h) (Minus g) p q t = ne_eqb e g (λ r. states_differ i j l m (p ∙ ap Minus (same h g t r) ∙ sym q))

  -- a move finds each lane of the path with the trays that it had
  pub walked_fresh : (n j e : ℕ) → j ≤ N → touches (P j) e ≡ true → augmented n P j f e ≡ f e
  walked_fresh n j e l t =
      walked_other n P f j e
      (λ i m. elim (cases_Bool (touches (P i) e))
      [ inl y ↦ absurd (both_ways (touches (P j) e) (touch_once i j e m l y) t) | inr y ↦ y ])

  -- and changes it once
  pub walked_touched : (n j Mir e : ℕ) → j < Mir → Mir ≤ N → touches (P j) e ≡ true → augmented n P Mir f e ≡ applied n (P j) f e
  unfolding augmented
  walked_touched n j zero e l m t = absurd (omega arith)
  walked_touched n j (suc Mir) e l m t =
      elim (cases_eq j Mir) [
        | inl q ↦
            subst (λ Mir. applied n (P Mir) (augmented n P Mir f) e ≡ applied n (P j) f e) q
            (applied_same n (P j) (augmented n P j f) f e (walked_fresh n j e (omega arith) t))
        | inr q ↦
            applied_other n (P Mir) (augmented n P Mir f) e (touch_once j Mir e (omega arith) (omega arith) t)
            ∙ walked_touched n j Mir e (omega arith) (omega arith) t
      ]
