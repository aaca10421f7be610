-- Tests that agree on the lanes of the floor lead to one labelling.
use Rattle.std.proofs.Common.{◌≡◌, ℕ, zero, suc, ◌+◌, ◌<◌, ◌≤◌, Bool, true, false, cond, ◌&&◌, ltb, List, [], ◌∷◌, refl, ap, ◌∙◌, ap₂, arith}
use Rattle.polymatroid.specs.Finite.{first}
use Rattle.network.specs.States.{State, Pole, Plus, Minus}
use Rattle.labelling.specs.Table.{Mark, Blank, Given, mark, is_at, state_of, give, scanned, listed, pass, table_up_to, ending_lane, lane_of_level, Ended, Finished, label_from, label}

listed_same : (g h : ℕ → Mark) (n k : ℕ) → ((i : ℕ) → k ≤ i → i < k + n → g i ≡ h i) → listed g n k ≡ listed h n k
unfolding listed
listed_same g h zero k e = refl
listed_same g h (suc n) k e = ap₂ (λ a b. a ∷ b) (e k (omega arith) (omega arith)) (listed_same g h n (suc k) (λ i a b. e i (omega arith) (omega arith)))

-- tests that agree below n have one first number that passes
first_same : (s t : ℕ → Bool) (n : ℕ) → ((i : ℕ) → i < n → s i ≡ t i) → first s n ≡ first t n
unfolding first
first_same s t zero e = refl
first_same s t (suc n) e =
    ap₂ (λ k b. cond (ltb k n) k (cond b n (suc n))) (first_same s t n (λ i l. e i (omega arith))) (e n (omega arith))

-- a state with one of the first m lanes, or without a lane
abbrev pub Among : ℕ → State → Type 0
Among m (Pole b) = Unit {0}
Among m (Plus e) = e < m
Among m (Minus e) = e < m

state_among : (m e : ℕ) (p : Mark) → e < m → Among m (state_of e p)
state_among m e Blank l = tt
state_among m e (Given true x k) l = l
state_among m e (Given false x k) l = l

module _ (r s : State → State → Bool) (m : ℕ) (plus : (x : State) (y : ℕ) → Among m x → y < m → r x (Plus y) ≡ s x (Plus y))
    (minus : (x : State) (y : ℕ) → Among m x → y < m → r x (Minus y) ≡ s x (Minus y))
    (end : (x : State) → Among m x → r x (Pole true) ≡ s x (Pole true)) where
  give_same : (x : State) (l y : ℕ) → Among m x → y < m → (p : Mark) → give r x l y p ≡ give s x l y p
  give_same x l y a h Blank =
      ap₂ (λ a b. cond a (Given true x l) (cond b (Given false x l) Blank)) (plus x y a h) (minus x y a h)
  give_same x l y a h (Given b z k) = refl

  scanned_same : (t : List Mark) (l n y : ℕ) → n ≤ m → y < m → scanned r t l n y ≡ scanned s t l n y
  unfolding scanned
  scanned_same t l zero y b h = refl
  scanned_same t l (suc e) y b h =
      let ih = scanned_same t l e y (omega arith) h in
      ap₂ (cond (is_at l (mark t e))) (give_same (state_of e (mark t e)) (suc l) y (state_among m e (mark t e) (omega arith)) h (scanned r t l e y) ∙ ap (give s (state_of e (mark t e)) (suc l) y) ih) ih

  pass_same : (l : ℕ) (t : List Mark) → pass r m l t ≡ pass s m l t
  unfolding pass
  pass_same zero t =
      listed_same (λ y. give r (Pole false) 1 y (mark t y)) (λ y. give s (Pole false) 1 y (mark t y)) m 0 (λ y a b. give_same (Pole false) 1 y tt (omega arith) (mark t y))
  pass_same (suc l) t = listed_same (scanned r t (suc l) m) (scanned s t (suc l) m) m 0 (λ y a b. scanned_same t (suc l) m y (omega arith) (omega arith))

  ender_same : (l : ℕ) (t : List Mark) → ending_lane r m l t ≡ ending_lane s m l t
  unfolding ending_lane
  ender_same l t =
      first_same (λ e. is_at l (mark t e) && r (state_of e (mark t e)) (Pole true)) (λ e. is_at l (mark t e) && s (state_of e (mark t e)) (Pole true)) m
      (λ e h. ap (λ b. is_at l (mark t e) && b) (end (state_of e (mark t e)) (state_among m e (mark t e) h)))

  go_same : (n l : ℕ) (t : List Mark) → label_from r m n l t ≡ label_from s m n l t
  unfolding label_from
  go_same zero l t = refl
  go_same (suc n) l t =
      ap₂ (λ a o. cond (ltb a m) (Ended l a t) (cond (ltb (lane_of_level m l t) m) o (Finished t))) (ender_same l t)
      (go_same n (suc l) (pass r m l t) ∙ ap (label_from s m n (suc l)) (pass_same l t))

  pub label_same : label r m ≡ label s m
  unfolding label table_up_to
  label_same = go_same (suc m) 1 (pass r m 0 []) ∙ ap (label_from s m (suc m) 1) (pass_same 0 [])
