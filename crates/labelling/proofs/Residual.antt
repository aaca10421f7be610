-- Augmenting paths, as the rules word them, are the paths of the residual relation through distinct lanes.
use Rattle.std.proofs.Common.{◌≡◌, ℕ, zero, suc, ◌<◌, ◌≤◌, Bool, true, false, sym, refl, ap, ◌∙◌, subst, inl, inr, arith}
use mathlib.Core.Path.{subst⁻¹}
use Rattle.std.proofs.lemmas.Bool.{cases_lt, cases_Bool}
use Rattle.floor.specs.Meaning.{Meaning, Lawful}
use Rattle.network.specs.States.{Residual, State, Pole, Plus, Minus, at, amount, lane_room, lane_room_but, OnFloor, holder}
use Rattle.network.specs.Plans.{Fits}
use Rattle.labelling.specs.Rules.{full, in_tight, Carries}
use Rattle.labelling.specs.Augmenting.{Augmenting, ResidualPath}
use Rattle.labelling.specs.Theorems.{AugmentingIsResidual}
use Rattle.network.proofs.Rooms.{room_less}
use Rattle.network.proofs.Found.{turn_holder}
use Rattle.labelling.proofs.Rules.{full_some, full_zero, tight_room, room_tight}

module _ (M : Meaning) (laws : Lawful M) (f : ℕ → ℕ) (fits : Fits M f) where
  -- what a pair that lets trays through says of its states
  carried : (x y : State) → 0 < amount M f x y → Carries f y
  carried x (Pole b) h = tt
  carried x (Plus g) h = tt
  carried (Pole false) (Minus g) h = absurd (omega arith)
  carried (Pole true) (Minus g) h = absurd (omega arith)
  carried (Plus e) (Minus g) h = omega arith
  carried (Minus e) (Minus g) h = omega arith

  follow : (e : ℕ) (y : State) → e < M.floor.lanes → 0 < amount M f (Plus e) y → full M f true e ≡ true → (g : ℕ) × (y ≡ Minus g) × (in_tight M f true e g ≡ true)
  follow e (Pole true) l h z = absurd (omega (arith, full_zero M laws f fits true e l z))
  follow e (Pole false) l h z = absurd (omega arith)
  follow e (Plus g) l h z = absurd (omega (arith, full_zero M laws f fits true e l z))
  follow e (Minus g) l h z = (g, refl, room_tight M laws f fits true e g l z (omega arith))

  precede : (e : ℕ) (x : State) → e < M.floor.lanes → 0 < amount M f x (Plus e) → full M f false e ≡ true → (g : ℕ) × (x ≡ Minus g) × (in_tight M f false e g ≡ true)
  precede e (Pole true) l h z = absurd (omega arith)
  precede e (Pole false) l h z = absurd (omega (arith, full_zero M laws f fits false e l z))
  precede e (Plus g) l h z = absurd (omega (arith, full_zero M laws f fits false e l z))
  precede e (Minus g) l h z = (g, refl, room_tight M laws f fits false e g l z (omega arith))

  -- a residual path is an augmenting path
  pub from_residual : (Q : ℕ → State) (k : ℕ) → ResidualPath M f Q k → Augmenting M f Q k
  from_residual Q k r = record {
    begin = r.begin;
    finish = r.finish;
    ok = λ i h. elim (cases_lt i (suc k)) [
      | inl l ↦ (r.residual i (omega arith)).ok_from
      | inr l ↦ let o : suc k ≡ i = omega arith in subst (λ j. OnFloor M (Q j)) o (r.residual k (omega arith)).ok_to
    ];
    distinct = r.distinct;
    meet = λ i h. (r.residual i h).meet;
    carries = carries_at;
    followed = λ i e h q z.
        follow e (Q (suc i)) (subst (OnFloor M) q (r.residual i h).ok_from) (subst (λ x. 0 < amount M f x (Q (suc i))) q (r.residual i h).some) z;
    preceded = λ i e h q z.
        precede e (Q i) (subst (OnFloor M) q (r.residual i h).ok_to) (subst (λ y. 0 < amount M f (Q i) y) q (r.residual i h).some) z;
  }
    where
      carries_at : (i : ℕ) → i ≤ suc k → Carries f (Q i)
      carries_at zero h = subst⁻¹ (Carries f) r.begin tt
      carries_at (suc i) h = carried (Q i) (Q (suc i)) (r.residual i (omega arith)).some

  module _ (Q : ℕ → State) (k : ℕ) (aug : Augmenting M f Q k) where
    open_in : (i e : ℕ) → i ≤ k → Q i ≡ Plus e → e < M.floor.lanes → ((g : ℕ) → Q (suc i) ≡ Minus g → ⊥) → 0 < lane_room M f true e
    open_in i e h q o n =
        elim (cases_Bool (full M f true e)) [
          | inl z ↦ let a = aug.followed i e h q z in absurd (n a.0 a.1)
          | inr z ↦ full_some M laws f fits true e o z
        ]

    open_out : (i e : ℕ) → i ≤ k → Q (suc i) ≡ Plus e → e < M.floor.lanes → ((g : ℕ) → Q i ≡ Minus g → ⊥) → 0 < lane_room M f false e
    open_out i e h q o n =
        elim (cases_Bool (full M f false e)) [
          | inl z ↦ let a = aug.preceded i e h q z in absurd (n a.0 a.1)
          | inr z ↦ full_some M laws f fits false e o z
        ]

    room_in : (i e g : ℕ) → i ≤ k → Q i ≡ Plus e → Q (suc i) ≡ Minus g → e < M.floor.lanes → M.floor.end true g ≡ M.floor.end true e → (e ≡ g → ⊥) → 0 < lane_room_but M f true e g
    room_in i e g h q r o m ne =
        elim (cases_Bool (full M f true e)) [
          | inl z ↦
              let a = aug.followed i e h q z in
              let same : a.0 ≡ g = minus_same a.0 g (sym a.1 ∙ r) in
              tight_room M laws f fits true e g o m ne (subst (λ g. in_tight M f true e g ≡ true) same a.2)
          | inr z ↦ omega (arith, full_some M laws f fits true e o z, room_less M laws f fits true e g o m ne)
        ]
      where
        minus_same : (a b : ℕ) → Minus a ≡ Minus b → a ≡ b
        minus_same a b e = cc

    room_out : (i e g : ℕ) → i ≤ k → Q (suc i) ≡ Plus e → Q i ≡ Minus g → e < M.floor.lanes → M.floor.end false g ≡ M.floor.end false e → (e ≡ g → ⊥) → 0 < lane_room_but M f false e g
    room_out i e g h q r o m ne =
        elim (cases_Bool (full M f false e)) [
          | inl z ↦
              let a = aug.preceded i e h q z in
              let same : a.0 ≡ g = minus_same a.0 g (sym a.1 ∙ r) in
              tight_room M laws f fits false e g o m ne (subst (λ g. in_tight M f false e g ≡ true) same a.2)
          | inr z ↦ omega (arith, full_some M laws f fits false e o z, room_less M laws f fits false e g o m ne)
        ]
      where
        minus_same : (a b : ℕ) → Minus a ≡ Minus b → a ≡ b
        minus_same a b e = cc

    not_minus : (x : State) (g : ℕ) → (b : Bool) → x ≡ Pole b → x ≡ Minus g → ⊥
    not_minus x g b p q = let z : ◌≡◌ {A = ℕ} 0 1 = cc in omega arith

    plus_minus : (x : State) (e g : ℕ) → x ≡ Plus e → x ≡ Minus g → ⊥
    plus_minus x e g p q = let z : ◌≡◌ {A = ℕ} 0 1 = cc in omega arith

    -- the start is only at the start, the end only at the end
    pub no_start : (i : ℕ) → i ≤ k → Q (suc i) ≡ Pole false → ⊥
    no_start i h q = aug.distinct 0 (suc i) (omega arith) (omega arith) (ap holder aug.begin ∙ sym (ap holder q))

    pub no_end : (i : ℕ) → i ≤ k → Q i ≡ Pole true → ⊥
    no_end i h q = aug.distinct i (suc k) (omega arith) (omega arith) (ap holder q ∙ sym (ap holder aug.finish))

    lets : (i : ℕ) → i ≤ k → (x y : State) → Q i ≡ x → Q (suc i) ≡ y → OnFloor M x → OnFloor M y → at M true x ≡ at M false y → Carries f x → Carries f y
        → (holder x ≡ holder y → ⊥) → 0 < amount M f x y
    lets i h (Pole true) y p q a b m c d ne = absurd (no_end i h p)
    lets i h (Pole false) (Pole false) p q a b m c d ne = absurd (ne refl)
    lets i h (Pole false) (Pole true) p q a b m c d ne = absurd (laws.rules.poles_differ m)
    lets i h (Pole false) (Plus g) p q a b m c d ne = open_out i g h q b (λ j r. not_minus (Q i) j false p r)
    lets i h (Pole false) (Minus g) p q a b m c d ne = absurd (laws.rules.poles_clear false g b (sym m))
    lets i h (Plus e) (Pole false) p q a b m c d ne = absurd (no_start i h q)
    lets i h (Plus e) (Pole true) p q a b m c d ne = open_in i e h p a (λ j r. not_minus (Q (suc i)) j true q r)
    lets i h (Plus e) (Plus g) p q a b m c d ne =
        omega (arith, open_in i e h p a (λ j r. plus_minus (Q (suc i)) g j q r), open_out i g h q b (λ j r. plus_minus (Q i) e j p r))
    lets i h (Plus e) (Minus g) p q a b m c d ne =
        omega (arith, d, room_in i e g h p q a (sym m) (λ o. ne (ap (λ x. suc (suc x)) o)))
    lets i h (Minus e) (Pole false) p q a b m c d ne = absurd (no_start i h q)
    lets i h (Minus e) (Pole true) p q a b m c d ne = absurd (laws.rules.poles_clear true e a m)
    lets i h (Minus e) (Plus g) p q a b m c d ne =
        omega (arith, c, room_out i g e h q p b m (λ o. ne (ap (λ x. suc (suc x)) (sym o))))
    lets i h (Minus e) (Minus g) p q a b m c d ne = omega (arith, c, d)

    pub residual_at : (i : ℕ) → i ≤ k → Residual M f (Q i) (Q (suc i))
    residual_at i h = record {
      ok_from = aug.ok i (omega arith);
      ok_to = aug.ok (suc i) (omega arith);
      meet = aug.meet i h;
      some = lets i h (Q i) (Q (suc i)) refl refl (aug.ok i (omega arith)) (aug.ok (suc i) (omega arith)) (aug.meet i h)
          (aug.carries i (omega arith)) (aug.carries (suc i) (omega arith)) (aug.distinct i (suc i) (omega arith) (omega arith));
      straight = λ t. aug.distinct i (suc i) (omega arith) (omega arith) (turn_holder (Q i) (Q (suc i)) t);
    }

pub augmenting_is_residual : AugmentingIsResidual
augmenting_is_residual M f Q k laws fits = (
  λ a. record { begin = a.begin; finish = a.finish; distinct = a.distinct; residual = residual_at M laws f fits Q k a },
  from_residual M laws f fits Q k,
)
