-- A table that changes as it is scanned has the labels of the rules.
use Rattle.std.proofs.Common.{◌≡◌, ℕ, zero, suc, ◌<◌, ◌≤◌, Bool, true, false, cond, ◌⊎◌, List, sym, refl, ap, ◌∙◌, subst, inl, inr, arith}
use Rattle.std.proofs.lemmas.Bool.{ne_eqb}
use Rattle.network.specs.States.{State}
use Rattle.labelling.specs.Table.{Mark, Blank, Given, mark, is_at, state_of, give, scanned, listed}
use Rattle.labelling.specs.Sweep.{scan, swept, SweepsAgree}
use Rattle.labelling.proofs.Scan.{cases_mark, Told, told, kept, listed_is}

module _ (r : State → State → Bool) (l : ℕ) (t : List Mark) where
  fresh_level : (y n : ℕ) (p : Mark) → Told r t l y n p → is_at l p ≡ false
  unfolding Told
  fresh_level y n Blank h = refl
  fresh_level y n (Given s z k) h = ne_eqb k l (λ o. omega (arith, h.0))

  -- a lane's label while the level is scanned: as it was, or not of the level
  agree : (n y : ℕ) → (scanned r t l n y ≡ mark t y) ⊎ ((is_at l (scanned r t l n y) ≡ false) × (is_at l (mark t y) ≡ false))
  agree n y =
      elim (cases_mark (mark t y)) [
        | inl q ↦ inr (fresh_level y n (scanned r t l n y) (told r t l y n q), ap (is_at l) q)
        | inr q ↦ inl (kept r t l y n q.0 q.1 q.2 q.3 ∙ sym q.3)
      ]

  module _ (m : ℕ) where
    -- lane e with the mark p in the changing table v
    scan_same : (e : ℕ) (v : List Mark) (p : Mark) (y : ℕ) → y < m → (w : Mark) → mark v y ≡ w → (b : Bool)
        → mark (cond b (listed (λ y. give r (state_of e p) (suc l) y (mark v y)) m 0) v) y ≡ cond b (give r (state_of e p) (suc l) y w) w
    scan_same e v p y h w q true = listed_is r (λ y. give r (state_of e p) (suc l) y (mark v y)) m y h ∙ ap (give r (state_of e p) (suc l) y) q
    scan_same e v p y h w q false = q

    scan_none : (e : ℕ) (v : List Mark) (p q : Mark) (y : ℕ) (w : Mark) → mark v y ≡ w → is_at l p ≡ false → is_at l q ≡ false
        → mark (cond (is_at l p) (listed (λ y. give r (state_of e p) (suc l) y (mark v y)) m 0) v) y ≡ cond (is_at l q) (give r (state_of e q) (suc l) y w) w
    scan_none e v p q y w o a b =
        ap (λ c. mark (cond c (listed (λ y. give r (state_of e p) (suc l) y (mark v y)) m 0) v) y) a ∙ o
        ∙ sym (ap (λ c. cond c (give r (state_of e q) (suc l) y w) w) b)

    scan_step : (e : ℕ) (v : List Mark) → mark v e ≡ scanned r t l e e → (y : ℕ) → y < m → mark v y ≡ scanned r t l e y
        → mark (scan r m l e v) y ≡ cond (is_at l (mark t e)) (give r (state_of e (mark t e)) (suc l) y (scanned r t l e y)) (scanned r t l e y)
    scan_step e v a y h b =
        elim (agree e e) [
          | inl q ↦
              subst (λ p. mark (scan r m l e v) y ≡ cond (is_at l p) (give r (state_of e p) (suc l) y (scanned r t l e y)) (scanned r t l e y)) (a ∙ q)
              (scan_same e v (mark v e) y h (scanned r t l e y) b (is_at l (mark v e)))
          | inr q ↦ scan_none e v (mark v e) (mark t e) y (scanned r t l e y) b (ap (is_at l) a ∙ q.0) q.1
        ]

    sweep : (n : ℕ) → n ≤ m → (y : ℕ) → y < m → mark (swept r m l n t) y ≡ scanned r t l n y
    unfolding swept scanned
    sweep zero g y h = refl
    sweep (suc e) g y h =
        scan_step e (swept r m l e t) (sweep e (omega arith) e (omega arith)) y h (sweep e (omega arith) y h)

pub sweeps_agree : SweepsAgree
sweeps_agree r m l t n g y h = sweep r l t m n g y h
