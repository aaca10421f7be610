-- The rules give a label where a pair of states lets an amount through, and nowhere else.
use Rattle.std.proofs.Common.{◌≡◌, ℕ, ◌<◌, Bool, true, false, cond, not, ◌&&◌, eqb, ltb, sym, refl, ap, ◌∙◌, subst, inl, inr, arith}
use mathlib.Core.Path.{subst⁻¹}
use Rattle.std.proofs.lemmas.Bool.{cases_Bool, both_ways, eq-eqb, ne_eqb, eqb-true, eqb-false, lt-ltb, ltb-true, and_parts, and_from, not_from_false, not-true}
use Rattle.floor.specs.Meaning.{Meaning, Lawful}
use Rattle.network.specs.States.{State, Pole, Plus, Minus, lane_room, lane_room_but, OnFloor, Residual}
use Rattle.network.specs.Plans.{Fits}
use Rattle.network.proofs.Rooms.{all_is, member_full, member_room, room_member, member_carries, room_less}
use Rattle.labelling.specs.Rules.{full, in_tight, ruled, Carries, RulesGive}

module _ (M : Meaning) (laws : Lawful M) (f : ℕ → ℕ) (fits : Fits M f) where
  -- a lane is full where its room is 0
  full_room : (d : Bool) (e : ℕ) → e < M.floor.lanes → full M f d e ≡ eqb (lane_room M f d e) 0
  unfolding full
  full_room d e l = ap (λ n. eqb n 0) (sym (all_is M laws f fits d (M.floor.end d e) (laws.rules.end_on d e l) e refl))

  pub full_zero : (d : Bool) (e : ℕ) → e < M.floor.lanes → full M f d e ≡ true → lane_room M f d e ≡ 0
  full_zero d e l q = eqb-true (lane_room M f d e) 0 (sym (full_room d e l) ∙ q)

  pub full_some : (d : Bool) (e : ℕ) → e < M.floor.lanes → full M f d e ≡ false → 0 < lane_room M f d e
  full_some d e l q = let h = eqb-false (lane_room M f d e) 0 (sym (full_room d e l) ∙ q) in omega arith

  pub some_full : (d : Bool) (e : ℕ) → e < M.floor.lanes → 0 < lane_room M f d e → not (full M f d e) ≡ true
  some_full d e l q =
      elim (cases_Bool (full M f d e))
      [ inl y ↦ absurd (omega (arith, full_zero d e l y)) | inr y ↦ not_from_false (full M f d e) y ]

  pub tight_room : (d : Bool) (e g : ℕ) → e < M.floor.lanes → M.floor.end d g ≡ M.floor.end d e → (e ≡ g → ⊥) → in_tight M f d e g ≡ true → 0 < lane_room_but M f d e g
  unfolding in_tight
  tight_room d e g l q ne h = member_room M laws f fits d (M.floor.end d e) (laws.rules.end_on d e l) e g l refl q ne h

  pub room_tight : (d : Bool) (e g : ℕ) → e < M.floor.lanes → full M f d e ≡ true → 0 < lane_room_but M f d e g → in_tight M f d e g ≡ true
  unfolding in_tight
  room_tight d e g l z h = room_member M laws f fits d (M.floor.end d e) (laws.rules.end_on d e l) e g l refl (full_zero d e l z) h

  tight_carries : (d : Bool) (e g : ℕ) → e < M.floor.lanes → g < M.floor.lanes → M.floor.end d g ≡ M.floor.end d e → (e ≡ g → ⊥) → full M f d e ≡ true → in_tight M f d e g ≡ true → 0 < f g
  unfolding in_tight
  tight_carries d e g l lg q ne z h = member_carries M laws f fits d (M.floor.end d e) (laws.rules.end_on d e l) e g l lg refl q ne (full_zero d e l z) h

  tight_full_too : (d : Bool) (e g : ℕ) → e < M.floor.lanes → g < M.floor.lanes → M.floor.end d g ≡ M.floor.end d e → full M f d e ≡ true → in_tight M f d e g ≡ true → full M f d g ≡ true
  unfolding in_tight
  tight_full_too d e g l lg q z h =
      full_room d g lg
      ∙ eq-eqb (lane_room M f d g) 0 (member_full M laws f fits d (M.floor.end d e) (laws.rules.end_on d e l) e l refl (full_zero d e l z) g q h)

  -- a + lane and a - lane of its side
  plus_minus : (e g : ℕ) → e < M.floor.lanes → g < M.floor.lanes → M.floor.end true g ≡ M.floor.end true e → (e ≡ g → ⊥)
      → cond (full M f true e) (in_tight M f true e g) (ltb 0 (f g)) ≡ true → (0 < f g) × (0 < lane_room_but M f true e g)
  plus_minus e g l lg q ne h =
      elim (cases_Bool (full M f true e)) [
        | inl y ↦
            let i : in_tight M f true e g ≡ true = subst (λ b. cond b (in_tight M f true e g) (ltb 0 (f g)) ≡ true) y h in
            (tight_carries true e g l lg q ne y i, tight_room true e g l q ne i)
        | inr y ↦
            let i : ltb 0 (f g) ≡ true = subst (λ b. cond b (in_tight M f true e g) (ltb 0 (f g)) ≡ true) y h in
            let c = full_some true e l y in
            (ltb-true 0 (f g) i, omega (arith, room_less M laws f fits true e g l q ne))
      ]

  minus_plus : (e g : ℕ) → e < M.floor.lanes → g < M.floor.lanes → M.floor.end false g ≡ M.floor.end false e → (e ≡ g → ⊥)
      → cond (full M f false g) (full M f false e && in_tight M f false g e) true ≡ true → 0 < lane_room_but M f false g e
  minus_plus e g l lg q ne h =
      elim (cases_Bool (full M f false g)) [
        | inl y ↦
            let i : (full M f false e && in_tight M f false g e) ≡ true = subst (λ b. cond b (full M f false e && in_tight M f false g e) true ≡ true) y h in
            tight_room false g e lg (sym q) (λ o. ne (sym o)) (and_parts (full M f false e) (in_tight M f false g e) i).1
        | inr y ↦
            let c = full_some false g lg y in
            omega (arith, room_less M laws f fits false g e lg (sym q) (λ o. ne (sym o)))
      ]

  gives_from : (x y : State) → OnFloor M x → OnFloor M y → Carries f x → ruled M f x y ≡ true → Residual M f x y × Carries f y
  unfolding ruled
  gives_from (Pole true) (Pole c) a b o h = absurd (both_ways false refl h)
  gives_from (Pole false) (Pole c) a b o h = absurd (both_ways false refl h)
  gives_from (Pole false) (Plus g) a b o h =
      let p = and_parts (eqb (M.floor.pole false) (M.floor.end false g)) (not (full M f false g)) h in
      (record { ok_from = a; ok_to = b; meet = eqb-true (M.floor.pole false) (M.floor.end false g) p.0; some = full_some false g b (not-true (full M f false g) p.1); straight = λ t. t }, tt)
  gives_from (Pole true) (Plus g) a b o h = absurd (both_ways false refl h)
  gives_from (Pole true) (Minus g) a b o h = absurd (both_ways false refl h)
  gives_from (Pole false) (Minus g) a b o h = absurd (both_ways false refl h)
  gives_from (Plus e) (Pole false) a b o h = absurd (both_ways false refl h)
  gives_from (Plus e) (Pole true) a b o h =
      let p = and_parts (eqb (M.floor.end true e) (M.floor.pole true)) (not (full M f true e)) h in
      (record { ok_from = a; ok_to = b; meet = eqb-true (M.floor.end true e) (M.floor.pole true) p.0; some = full_some true e a (not-true (full M f true e) p.1); straight = λ t. t }, tt)
  gives_from (Plus e) (Plus g) a b o h =
      let p = and_parts (eqb (M.floor.end true e) (M.floor.end false g)) (not (full M f true e) && not (full M f false g)) h in
      let q = and_parts (not (full M f true e)) (not (full M f false g)) p.1 in
      let u = full_some true e a (not-true (full M f true e) q.0) in
      let v = full_some false g b (not-true (full M f false g) q.1) in
      (record { ok_from = a; ok_to = b; meet = eqb-true (M.floor.end true e) (M.floor.end false g) p.0; some = omega arith; straight = λ t. t }, tt)
  gives_from (Plus e) (Minus g) a b o h =
      let p = and_parts (eqb (M.floor.end true e) (M.floor.end true g)) (not (eqb e g) && cond (full M f true e) (in_tight M f true e g) (ltb 0 (f g))) h in
      let q = and_parts (not (eqb e g)) (cond (full M f true e) (in_tight M f true e g) (ltb 0 (f g))) p.1 in
      let m = eqb-true (M.floor.end true e) (M.floor.end true g) p.0 in
      let ne = eqb-false e g (not-true (eqb e g) q.0) in
      let c = plus_minus e g a b (sym m) ne q.1 in
      (record { ok_from = a; ok_to = b; meet = m; some = omega (arith, c.0, c.1); straight = ne }, c.0)
  gives_from (Minus e) (Pole c) a b o h = absurd (both_ways false refl h)
  gives_from (Minus e) (Plus g) a b o h =
      let p = and_parts (eqb (M.floor.end false e) (M.floor.end false g)) (not (eqb e g) && cond (full M f false g) (full M f false e && in_tight M f false g e) true) h in
      let q = and_parts (not (eqb e g)) (cond (full M f false g) (full M f false e && in_tight M f false g e) true) p.1 in
      let m = eqb-true (M.floor.end false e) (M.floor.end false g) p.0 in
      let ne = eqb-false e g (not-true (eqb e g) q.0) in
      let c = minus_plus e g a b (sym m) ne q.1 in
      (record { ok_from = a; ok_to = b; meet = m; some = omega (arith, c, o); straight = ne }, tt)
  gives_from (Minus e) (Minus g) a b o h =
      let p = and_parts (eqb (M.floor.end false e) (M.floor.end true g)) (ltb 0 (f g)) h in
      let c = ltb-true 0 (f g) p.1 in
      (record { ok_from = a; ok_to = b; meet = eqb-true (M.floor.end false e) (M.floor.end true g) p.0; some = omega (arith, c, o); straight = λ t. t }, c)

  gives_to : (x y : State) → Residual M f x y → ruled M f x y ≡ true
  unfolding ruled
  gives_to (Pole true) (Pole c) r = absurd (omega (arith, r.some))
  gives_to (Pole false) (Pole c) r = absurd (omega (arith, r.some))
  gives_to (Pole false) (Plus g) r =
      and_from (eqb (M.floor.pole false) (M.floor.end false g)) (not (full M f false g)) (eq-eqb (M.floor.pole false) (M.floor.end false g) r.meet) (some_full false g r.ok_to r.some)
  gives_to (Pole true) (Plus g) r = absurd (omega (arith, r.some))
  gives_to (Pole true) (Minus g) r = absurd (omega (arith, r.some))
  gives_to (Pole false) (Minus g) r = absurd (omega (arith, r.some))
  gives_to (Plus e) (Pole false) r = absurd (omega (arith, r.some))
  gives_to (Plus e) (Pole true) r =
      and_from (eqb (M.floor.end true e) (M.floor.pole true)) (not (full M f true e)) (eq-eqb (M.floor.end true e) (M.floor.pole true) r.meet) (some_full true e r.ok_from r.some)
  gives_to (Plus e) (Plus g) r =
      and_from (eqb (M.floor.end true e) (M.floor.end false g)) (not (full M f true e) && not (full M f false g)) (eq-eqb (M.floor.end true e) (M.floor.end false g) r.meet)
      (and_from (not (full M f true e)) (not (full M f false g)) (some_full true e r.ok_from (omega (arith, r.some))) (some_full false g r.ok_to (omega (arith, r.some))))
  gives_to (Plus e) (Minus g) r =
      and_from (eqb (M.floor.end true e) (M.floor.end true g)) (not (eqb e g) && cond (full M f true e) (in_tight M f true e g) (ltb 0 (f g))) (eq-eqb (M.floor.end true e) (M.floor.end true g) r.meet)
      (and_from (not (eqb e g)) (cond (full M f true e) (in_tight M f true e g) (ltb 0 (f g))) (not_from_false (eqb e g) (ne_eqb e g r.straight))
      (elim (cases_Bool (full M f true e)) [
        | inl y ↦ subst⁻¹ (λ b. cond b (in_tight M f true e g) (ltb 0 (f g)) ≡ true) y (room_tight true e g r.ok_from y (omega (arith, r.some)))
        | inr y ↦ subst⁻¹ (λ b. cond b (in_tight M f true e g) (ltb 0 (f g)) ≡ true) y (lt-ltb 0 (f g) (omega (arith, r.some)))
      ]))
  gives_to (Minus e) (Pole c) r = absurd (omega (arith, r.some))
  gives_to (Minus e) (Plus g) r =
      and_from (eqb (M.floor.end false e) (M.floor.end false g)) (not (eqb e g) && cond (full M f false g) (full M f false e && in_tight M f false g e) true)
      (eq-eqb (M.floor.end false e) (M.floor.end false g) r.meet)
      (and_from (not (eqb e g)) (cond (full M f false g) (full M f false e && in_tight M f false g e) true) (not_from_false (eqb e g) (ne_eqb e g r.straight))
      (elim (cases_Bool (full M f false g)) [
        | inl y ↦
            let i = room_tight false g e r.ok_to y (omega (arith, r.some)) in
            subst⁻¹ (λ b. cond b (full M f false e && in_tight M f false g e) true ≡ true) y
            (and_from (full M f false e) (in_tight M f false g e) (tight_full_too false g e r.ok_to r.ok_from r.meet y i) i)
        | inr y ↦ subst⁻¹ (λ b. cond b (full M f false e && in_tight M f false g e) true ≡ true) y refl
      ]))
  gives_to (Minus e) (Minus g) r =
      and_from (eqb (M.floor.end false e) (M.floor.end true g)) (ltb 0 (f g)) (eq-eqb (M.floor.end false e) (M.floor.end true g) r.meet) (lt-ltb 0 (f g) (omega (arith, r.some)))

pub rules_give : RulesGive
rules_give M f laws fits x y a b o = (gives_from M laws f fits x y a b o, gives_to M laws f fits x y)
