-- A step that a move brings about comes from two steps into and out of the path: at departures by the mirror image, and between
-- arrivals and departures.
use Rattle.std.proofs.Common.{◌≡◌, ℕ, zero, suc, ◌-◌, ◌<◌, ◌≤◌, true, false, ◌⊎◌, sym, refl, ap, ◌∙◌, subst, inl, inr, arith}
use mathlib.Core.Path.{subst⁻¹}
use Rattle.std.proofs.lemmas.Bool.{cases_lt, cases_eq}
use Rattle.floor.specs.Meaning.{Meaning}
use Rattle.network.specs.States.{State, Pole, Plus, Minus, at, lane_room, amount, OnFloor, Step, augmented, Open, Free}
use Rattle.network.specs.Moves.{Moving, Spliced, StepsSplice}
use Rattle.network.proofs.Arrivals.{order}
use Rattle.network.proofs.Mirror.{mirror, mirrored, back, at_mirror, all_mirror, amount_mirror, step_back}
use Rattle.network.proofs.Moves.{moving_mirror, walked_mirror}
use Rattle.network.proofs.SpliceIn.{more_plus, free_after, open_before, step_in, step_out, OpenPair, opened, turn_step, in_in}

-- ---- the mirror image

spliced_back : (M : Meaning) (f : ℕ → ℕ) (P : ℕ → State) (N : ℕ) (x y : State)
    → Spliced (mirror M) f (back P N) N (mirrored y) (mirrored x) → Spliced M f P N x y
spliced_back M f P N x y c = (
  N - c.1,
  N - c.0,
  omega (arith, c.2, c.3),
  omega arith,
  step_back M f x (P (N - c.0)) c.5,
  step_back M f (P (N - c.1)) y c.4,
)

free_back : (M : Meaning) (f : ℕ → ℕ) (x : State) → Free (mirror M) f (mirrored x) → Open M f x
free_back M f (Pole false) h = tt
free_back M f (Pole true) h = h
free_back M f (Plus e) h = omega (arith, all_mirror M f false e)
free_back M f (Minus e) h = h

open_back : (M : Meaning) (f : ℕ → ℕ) (x : State) → Open (mirror M) f (mirrored x) → Free M f x
open_back M f (Pole false) h = h
open_back M f (Pole true) h = tt
open_back M f (Plus e) h = omega (arith, all_mirror M f true e)
open_back M f (Minus e) h = h

module _ (M : Meaning) (f : ℕ → ℕ) (P : ℕ → State) (N n : ℕ) (m : Moving M f P N n) where
  c : Moving (mirror M) f (back P N) N n
  c = moving_mirror M f P N n m

  -- a full departure g that comes to have room is stepped to by the open pair
  opened_out : (g : ℕ) → g < M.floor.lanes → lane_room M f false g ≡ 0 → 0 < lane_room M (augmented n P N f) false g
      → (r : ℕ) × (r < N) × (at M true (P r) ≡ M.floor.end false g) × Open M f (P r) × Free M f (P (suc r)) × Step M f (P r) (Plus g)
  unfolding OpenPair
  opened_out g lg z h =
      let k : ℕ = M.floor.end false g in
      let a = opened (mirror M) f (back P N) N n c k (m.laws.rules.end_on false g lg) g lg refl (all_mirror M f true g ∙ z)
      (omega (arith, all_mirror M (augmented n P N f) true g, ap (λ w. lane_room (mirror M) w true g) (walked_mirror M f P N n m))) in
      let r : ℕ = a.0 in
      let q : ℕ = N - suc r in
      let l = a.1 in
      let s : N - r ≡ suc q = omega arith in (
        q,
        omega arith,
        m.path.meet q (omega arith) ∙ sym (ap (λ j. at M false (P j)) s) ∙ sym (at_mirror M true (P (N - r))) ∙ a.2,
        free_back M f (P q) a.4,
        subst (λ j. Free M f (P j)) s (open_back M f (P (N - r)) a.3),
        step_back M f (P q) (Plus g) a.5,
      )

  out_out : (e g : ℕ) → e < M.floor.lanes → g < M.floor.lanes → M.floor.end false e ≡ M.floor.end false g → (e ≡ g → ⊥)
      → amount M f (Minus e) (Plus g) ≡ 0 → 0 < amount M (augmented n P N f) (Minus e) (Plus g) → Spliced M f P N (Minus e) (Plus g)
  out_out e g le lg q ne z h =
      spliced_back M f P N (Minus e) (Plus g)
      (in_in (mirror M) f (back P N) N n c (M.floor.end false g) (m.laws.rules.end_on false g lg) g e lg le refl q (λ r. ne (sym r))
      (amount_mirror M f (Minus e) (Plus g) ∙ z)
      (omega (
        arith,
        amount_mirror M (augmented n P N f) (Minus e) (Plus g),
        ap (λ w. amount (mirror M) w (Plus g) (Minus e)) (walked_mirror M f P N n m),
      )))

  -- an arrival and a departure, both by + lanes
  in_out : (e g : ℕ) → e < M.floor.lanes → g < M.floor.lanes → M.floor.end true e ≡ M.floor.end false g
      → amount M f (Plus e) (Plus g) ≡ 0 → 0 < amount M (augmented n P N f) (Plus e) (Plus g) → Spliced M f P N (Plus e) (Plus g)
  unfolding OpenPair
  in_out e g le lg q z h =
      elim (cases_lt 0 (lane_room M f true e)) [
        | inl oe ↦
            let b = opened_out g lg (omega arith) (omega arith) in
            let r : ℕ = b.0 in (
              r,
              suc r,
              omega arith,
              b.1,
              step_in M f P N n m (Plus e) (suc r) b.1 le (q ∙ sym b.2 ∙ m.path.meet r b.1) oe b.4,
              b.5,
            )
        | inr ze ↦
            let a = opened M f P N n m (M.floor.end true e) (m.laws.rules.end_on true e le) e le refl (omega arith) (omega arith) in
            let r : ℕ = a.0 in
            elim (cases_lt 0 (lane_room M f false g)) [
              | inl og ↦ (r, suc r, omega arith, a.1, a.5, step_out M f P N n m r (Plus g) (omega (arith, a.1)) lg (a.2 ∙ q) a.3 og)
              | inr zg ↦ both r a.1 a.2 a.3 a.4 a.5 (opened_out g lg (omega arith) (omega arith))
            ]
      ]
    where
      both : (r : ℕ) → r < N → at M true (P r) ≡ M.floor.end true e → Open M f (P r) → Free M f (P (suc r)) → Step M f (Plus e) (P (suc r))
          → (s : ℕ) × (s < N) × (at M true (P s) ≡ M.floor.end false g) × Open M f (P s) × Free M f (P (suc s)) × Step M f (P s) (Plus g)
          → Spliced M f P N (Plus e) (Plus g)
      both r lr hr or fr sr b =
          let s : ℕ = b.0 in
          let l : s ≤ r =
          elim (cases_lt r s) [
            | inl d ↦
                absurd (order M m.laws f m.fits P N m.path (M.floor.end true e) (m.laws.rules.end_on true e le) r s d b.1 hr (b.2 ∙ sym q) or b.4)
            | inr d ↦ d
          ] in
          (s, suc r, omega arith, lr, sr, b.5)

  -- two - lanes
  void : (e g : ℕ) → e < M.floor.lanes → g < M.floor.lanes → M.floor.end false e ≡ M.floor.end true g
      → amount M f (Minus e) (Minus g) ≡ 0 → 0 < amount M (augmented n P N f) (Minus e) (Minus g) → Spliced M f P N (Minus e) (Minus g)
  void e g le lg q z h =
      elim (cases_lt 0 (f g)) [
        | inl fg ↦
            let b = before e (omega arith) in
            let r : ℕ = b.0 in (
              r,
              suc r,
              omega arith,
              b.1,
              turn_to (suc r) b.2,
              step_out M f P N n m r (Minus g) (omega (arith, b.1)) lg (leaves r b.1 b.2 ∙ q) (open_before M f P N n m r e b.1 b.2) fg,
            )
        | inr fg ↦
            let a = more_plus M f P N n m g (omega arith) in
            let i : ℕ = a.0 in
            elim (cases_lt 0 (f e)) [
              | inl fe ↦ (
                i,
                suc i,
                omega arith,
                a.1,
                step_in M f P N n m (Minus e) (suc i) a.1 le (q ∙ sym (ap (at M true) a.2) ∙ m.path.meet i a.1) fe
                    (free_after M f P N n m i g a.1 a.2),
                turn_from i a.2,
              )
              | inr fe ↦ two i a.1 a.2 (before e (omega arith))
            ]
      ]
    where
      kin : M.floor.end true g < M.floor.stations
      kin = m.laws.rules.end_on true g lg

      turn_to : (j : ℕ) → P j ≡ Plus e → Step M f (Minus e) (P j)
      turn_to j a = subst⁻¹ (Step M f (Minus e)) a (record { ok_from = le; ok_to = le; meet = refl; some = inr refl })

      turn_from : (i : ℕ) → P i ≡ Plus g → Step M f (P i) (Minus g)
      turn_from i a = turn_step M f P N n m (M.floor.end true g) kin i g lg a

      leaves : (r : ℕ) → r < N → P (suc r) ≡ Plus e → at M true (P r) ≡ M.floor.end false e
      leaves r l a = m.path.meet r l ∙ ap (at M false) a

      before : (e : ℕ) → f e < augmented n P N f e → (r : ℕ) × (r < N) × (P (suc r) ≡ Plus e)
      before e h = let a = more_plus M f P N n m e h in back_one a.0 e a.1 a.2
        where
          back_one : (j e : ℕ) → j < N → P j ≡ Plus e → (r : ℕ) × (r < N) × (P (suc r) ≡ Plus e)
          back_one zero e l a = let b = m.path.begin in let z : ◌≡◌ {A = ℕ} 0 1 = cc in absurd (omega arith)
          back_one (suc j) e l a = (j, omega arith, a)

      two : (i : ℕ) → i < N → P i ≡ Plus g → (r : ℕ) × (r < N) × (P (suc r) ≡ Plus e) → Spliced M f P N (Minus e) (Minus g)
      two i li a b =
          let r : ℕ = b.0 in
          let l : i ≤ r =
          elim (cases_lt r i) [
            | inl d ↦
                absurd (order M m.laws f m.fits P N m.path (M.floor.end true g) kin r i d li (leaves r b.1 b.2 ∙ q)
                (ap (at M true) a) (open_before M f P N n m r e b.1 b.2) (free_after M f P N n m i g li a))
            | inr d ↦ d
          ] in
          (i, suc r, omega arith, b.1, turn_to (suc r) b.2, turn_from i a)

  -- nothing new at the start, nor at the end
  start_out : (g : ℕ) → g < M.floor.lanes → M.floor.pole false ≡ M.floor.end false g → lane_room M f false g ≡ 0 → 0 < lane_room M (augmented n P N f) false g → ⊥
  start_out g lg q z h =
      let a = opened_out g lg z h in
      at_start a.0 a.1 a.2 a.4 a.5
    where
      at_start : (r : ℕ) → r < N → at M true (P r) ≡ M.floor.end false g → Free M f (P (suc r)) → Step M f (P r) (Plus g) → ⊥
      at_start zero l t o s =
          elim (subst (λ x. Step M f x (Plus g)) m.path.begin s).some [ inl w ↦ omega arith | inr w ↦ w ]
      at_start (suc r) l t o s =
          order M m.laws f m.fits P N m.path (M.floor.pole false) (m.laws.rules.pole_on false) 0 (suc r) (omega arith) l
          (ap (at M true) m.path.begin) (t ∙ sym q) (subst⁻¹ (Open M f) m.path.begin tt) o

end_in : (M : Meaning) (f : ℕ → ℕ) (P : ℕ → State) (N n : ℕ) → Moving M f P N n
    → (e : ℕ) → e < M.floor.lanes → M.floor.end true e ≡ M.floor.pole true → lane_room M f true e ≡ 0 → 0 < lane_room M (augmented n P N f) true e → ⊥
end_in M f P N n m e le q z h =
    start_out (mirror M) f (back P N) N n (moving_mirror M f P N n m) e le (sym q) (all_mirror M f false e ∙ z)
    (omega (arith, all_mirror M (augmented n P N f) false e, ap (λ w. lane_room (mirror M) w false e) (walked_mirror M f P N n m)))

pub steps_splice : StepsSplice
steps_splice M f P N n m x y s =
    elim s.some [
      | inr t ↦ inl (record { ok_from = s.ok_from; ok_to = s.ok_to; meet = s.meet; some = inr t })
      | inl h ↦
          elim (cases_lt 0 (amount M f x y)) [
            | inl a ↦ inl (record { ok_from = s.ok_from; ok_to = s.ok_to; meet = s.meet; some = inl a })
            | inr a ↦ by x y s.ok_from s.ok_to s.meet (omega arith) h
          ]
    ]
  where
    f' : ℕ → ℕ
    f' = augmented n P N f

    same : (e g : ℕ) → e < M.floor.lanes → g < M.floor.lanes → M.floor.end true e ≡ M.floor.end true g → e ≡ g → Step M f (Plus e) (Minus g)
    same e g le lg q r = record { ok_from = le; ok_to = lg; meet = q; some = inr r }

    by : (x y : State) → OnFloor M x → OnFloor M y → at M true x ≡ at M false y → amount M f x y ≡ 0 → 0 < amount M f' x y
        → Step M f x y ⊎ Spliced M f P N x y
    by (Pole b) (Pole d) le lg q z h = absurd (omega arith)
    by (Pole false) (Plus g) le lg q z h = absurd (start_out M f P N n m g lg q z h)
    by (Pole true) (Plus g) le lg q z h = absurd (omega arith)
    by (Pole b) (Minus g) le lg q z h = absurd (omega arith)
    by (Plus e) (Pole false) le lg q z h = absurd (omega arith)
    by (Plus e) (Pole true) le lg q z h = absurd (end_in M f P N n m e le q z h)
    by (Plus e) (Plus g) le lg q z h = inr (in_out M f P N n m e g le lg q z h)
    by (Plus e) (Minus g) le lg q z h =
        elim (cases_eq e g) [
          | inl r ↦ inl (same e g le lg q r)
          | inr r ↦ inr (in_in M f P N n m (M.floor.end true g) (m.laws.rules.end_on true g lg) e g le lg q refl r z h)
        ]
    by (Minus e) (Pole d) le lg q z h = absurd (omega arith)
    by (Minus e) (Plus g) le lg q z h =
        elim (cases_eq e g) [
          | inl r ↦ inl (record { ok_from = le; ok_to = lg; meet = q; some = inr r })
          | inr r ↦ inr (out_out M f P N n m e g le lg q r z h)
        ]
    by (Minus e) (Minus g) le lg q z h = inr (void M f P N n m e g le lg q z h)
