-- Searches over the numbers below a bound.
use Rattle.std.proofs.Common.{◌≡◌, ℕ, zero, suc, ◌<◌, ◌≤◌, min, Bool, true, false, cond, ◌⊎◌, refl, inl, inr, arith}
use Rattle.std.proofs.lemmas.Bool.Decides.{nat_tests}
use Rattle.std.proofs.lemmas.Bool.{cases_lt}
use Rattle.polymatroid.specs.Finite.{first, least}

module _ (t : ℕ → Bool) where
  pub first_le : (n : ℕ) → first t n ≤ n
  unfolding first
  first_le zero = omega arith
  first_le (suc n) = let h = first_le n in grind (arith, nat_tests)

  pub first_passes : (n : ℕ) → first t n < n → t (first t n) ≡ true
  unfolding first
  first_passes zero h = absurd (omega arith)
  first_passes (suc n) h = let i = first_passes n in grind (arith, nat_tests)

  pub first_before : (n i : ℕ) → i < first t n → t i ≡ false
  unfolding first
  first_before zero i h = absurd (omega arith)
  first_before (suc n) i h = let j = first_before n i in let l = first_le n in grind (arith, nat_tests)

module _ (t : ℕ → Bool) (v : ℕ → ℕ) (d : ℕ) where
  pub least_le : (n i : ℕ) → i < n → t i ≡ true → least t v d n ≤ v i
  unfolding least
  least_le zero i h p = absurd (omega arith)
  least_le (suc n) i h p =
      let ih = least_le n i in
      let e : (i < n) ⊎ (i ≡ n) = split in
      grind arith
    where
      split : (i < n) ⊎ (i ≡ n)
      split = elim (cases_lt i n) [ inl l ↦ inl l | inr l ↦ inr (omega arith) ]

  -- the least is attained
  pub least_at : (n : ℕ) → (least t v d n ≡ d) ⊎ ((i : ℕ) × (i < n) × (t i ≡ true) × (least t v d n ≡ v i))
  unfolding least
  least_at zero = inl refl
  least_at (suc n) = by (t n) refl (least_at n)
    where
      L : ℕ
      L = least t v d n

      by : (b : Bool) → t n ≡ b → (L ≡ d) ⊎ ((i : ℕ) × (i < n) × (t i ≡ true) × (L ≡ v i))
          → (cond b (min (v n) L) L ≡ d) ⊎ ((i : ℕ) × (i < suc n) × (t i ≡ true) × (cond b (min (v n) L) L ≡ v i))
      by true p ih =
          elim (cases_lt (v n) L) [
            | inl l ↦ inr (n, omega arith, p, omega arith)
            | inr l ↦
                elim ih [
                  | inl e ↦ inl (omega arith)
                  | inr q ↦ inr (q.0, omega arith, q.2, omega arith)
                ]
          ]
      by false p ih = elim ih [ inl e ↦ inl e | inr q ↦ inr (q.0, omega arith, q.2, q.3) ]

-- tests that agree below n have one least value
pub least_same : (s t : ℕ → Bool) (v : ℕ → ℕ) (d n : ℕ) → ((i : ℕ) → i < n → s i ≡ t i) → least s v d n ≡ least t v d n
unfolding least
least_same s t v d zero e = refl
least_same s t v d (suc n) e =
    let ih = least_same s t v d n (λ i l. e i (omega arith)) in
    let h = e n (omega arith) in
    grind arith

pub least_same_values : (t : ℕ → Bool) (v w : ℕ → ℕ) (d n : ℕ) → ((i : ℕ) → i < n → v i ≡ w i) → least t v d n ≡ least t w d n
unfolding least
least_same_values t v w d zero e = refl
least_same_values t v w d (suc n) e =
    let ih = least_same_values t v w d n (λ i l. e i (omega arith)) in
    let h = e n (omega arith) in
    grind arith
