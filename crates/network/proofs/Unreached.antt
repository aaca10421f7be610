-- Where the labels are closed, no walk leads from the start to the end.
use Rattle.std.proofs.Common.{◌≡◌, ℕ, zero, suc, Bool, true, false, ◌||◌, refl, subst, inl, inr, arith}
use Rattle.std.proofs.lemmas.Bool.{or_cases}
use Rattle.levels.specs.Levels.{Walk}
use Rattle.floor.specs.Meaning.{Meaning, Lawful}
use Rattle.network.specs.States.{State, Pole, Plus, Minus, OnFloor, Turn, Step, holder, Residual}
use Rattle.network.specs.Plans.{Fits}
use Rattle.network.specs.Finished.{LabelledState, LabelledLane, Closed}
use Rattle.network.proofs.Found.{turn?, skip}
use Rattle.network.proofs.Closed.{step_labels}

module _ (M : Meaning) (laws : Lawful M) (f : ℕ → ℕ) (fits : Fits M f) (pl mi near : ℕ → Bool) (cl : Closed M f pl mi near) where
  -- from a lane whose label has the other sign: the turn is left out
  other : (z x y : State) → OnFloor M z → LabelledState pl mi z → (z ≡ Pole false → ⊥) → holder z ≡ holder x → (z ≡ x → ⊥) → Residual M f x y → LabelledLane pl mi y
  other z x y o l n e ne g =
      elim (cl.given z o l) [
        | inl q ↦ absurd (n q)
        | inr c ↦ step_labels M laws f fits pl mi near cl c.0 y c.1 (skip M laws f fits c.0 z x y c.2 e ne g)
      ]

  -- a turn leads to the same lane
  turned : (x y : State) → LabelledLane pl mi x → Turn x y → LabelledLane pl mi y
  turned (Pole b) y l t = absurd t
  turned (Plus e) (Pole c) l t = absurd t
  turned (Plus e) (Plus g) l t = absurd t
  turned (Plus e) (Minus g) l t = subst (λ e. (pl e || mi e) ≡ true) t l
  turned (Minus e) (Pole c) l t = absurd t
  turned (Minus e) (Plus g) l t = subst (λ e. (pl e || mi e) ≡ true) t l
  turned (Minus e) (Minus g) l t = absurd t

  onward : (x y : State) → LabelledLane pl mi x → Residual M f x y → LabelledLane pl mi y
  onward (Pole false) y l g = cl.closed (Pole false) y tt g
  onward (Pole true) y l g = absurd l
  onward (Plus e) y l g =
      elim (or_cases (pl e) (mi e) l) [
        | inl p ↦ cl.closed (Plus e) y p g
        | inr m ↦
            other (Minus e) (Plus e) y g.ok_from m (λ q. let z : ◌≡◌ {A = ℕ} 0 1 = cc in omega arith) refl
            (λ q. let z : ◌≡◌ {A = ℕ} 0 1 = cc in omega arith) g
      ]
  onward (Minus e) y l g =
      elim (or_cases (pl e) (mi e) l) [
        | inl p ↦
            other (Plus e) (Minus e) y g.ok_from p (λ q. let z : ◌≡◌ {A = ℕ} 0 1 = cc in omega arith) refl
            (λ q. let z : ◌≡◌ {A = ℕ} 0 1 = cc in omega arith) g
        | inr m ↦ cl.closed (Minus e) y m g
      ]

  stepped : (x y : State) → LabelledLane pl mi x → Step M f x y → LabelledLane pl mi y
  stepped x y l s =
      elim (turn? x y) [
        | inl t ↦ turned x y l t
        | inr t ↦
            elim s.some [
              | inl h ↦ onward x y l (record { ok_from = s.ok_from; ok_to = s.ok_to; meet = s.meet; some = h; straight = t })
              | inr h ↦ absurd (t h)
            ]
      ]

  reached : (n : ℕ) (y : State) → Walk (Step M f) (Pole false) n y → LabelledLane pl mi y
  reached zero y w = subst (LabelledLane pl mi) w tt
  reached (suc n) y w = stepped w.0 y (reached n w.0 w.1) w.2

  pub no_walk : (n : ℕ) → Walk (Step M f) (Pole false) n (Pole true) → ⊥
  no_walk n w = reached n (Pole true) w
