-- What a path lets through, pair by pair: the least amount of its pairs, and the first pair that has it.
use Rattle.std.proofs.Common.{◌≡◌, ℕ, suc, ◌<◌, ◌≤◌, true, eqb, sym, refl, inl, inr, arith}
use Rattle.std.proofs.lemmas.Bool.{cases_lt, both_ways, eqb-true, eq-eqb}
use Rattle.polymatroid.specs.Finite.{first, least}
use Rattle.polymatroid.proofs.Finite.{first_passes, first_before, least_le, least_at}
use Rattle.floor.specs.Meaning.{Meaning, Lawful}
use Rattle.network.specs.States.{State, amount}
use Rattle.network.specs.Plans.{Fits}
use Rattle.network.specs.Stages.{Stage}
use Rattle.network.specs.Found.{Found}

-- the least of what the N pairs of a path let through
unfoldable pub lets : Meaning → (ℕ → ℕ) → (ℕ → State) → ℕ → ℕ
lets M f P N = least (λ q. true) (λ q. amount M f (P q) (P (suc q))) (amount M f (P 0) (P 1)) N

-- the first pair that lets no more through
unfoldable pub tightest : Meaning → (ℕ → ℕ) → (ℕ → State) → ℕ → ℕ
tightest M f P N = first (λ q. eqb (amount M f (P q) (P (suc q))) (lets M f P N)) N

module _ (M : Meaning) (f : ℕ → ℕ) (P : ℕ → State) (N : ℕ) where
  pub lets_le : (q : ℕ) → q < N → lets M f P N ≤ amount M f (P q) (P (suc q))
  unfolding lets
  lets_le q h = least_le (λ q. true) (λ q. amount M f (P q) (P (suc q))) (amount M f (P 0) (P 1)) N q h refl

  pub lets_at : 0 < N → (q : ℕ) × (q < N) × (lets M f P N ≡ amount M f (P q) (P (suc q)))
  unfolding lets
  lets_at h =
      elim (least_at (λ q. true) (λ q. amount M f (P q) (P (suc q))) (amount M f (P 0) (P 1)) N) [
        | inl e ↦ (0, h, e)
        | inr e ↦ (e.0, e.1, e.3)
      ]

  tightest_below : 0 < N → tightest M f P N < N
  unfolding tightest
  tightest_below h =
      elim (cases_lt (first (λ q. eqb (amount M f (P q) (P (suc q))) (lets M f P N)) N) N) [
        | inl l ↦ l
        | inr l ↦ absurd (no_such (lets_at h).0 (lets_at h).1 (lets_at h).2 l)
      ]
    where
      no_such : (q : ℕ) → q < N → lets M f P N ≡ amount M f (P q) (P (suc q)) → N ≤ first (λ q. eqb (amount M f (P q) (P (suc q))) (lets M f P N)) N → ⊥
      no_such q a e l =
          both_ways (eqb (amount M f (P q) (P (suc q))) (lets M f P N))
          (first_before (λ q. eqb (amount M f (P q) (P (suc q))) (lets M f P N)) N q (omega arith))
          (eq-eqb (amount M f (P q) (P (suc q))) (lets M f P N) (sym e))

  tightest_at : tightest M f P N < N → amount M f (P (tightest M f P N)) (P (suc (tightest M f P N))) ≡ lets M f P N
  unfolding tightest
  tightest_at l =
      eqb-true (amount M f (P (tightest M f P N)) (P (suc (tightest M f P N)))) (lets M f P N)
      (first_passes (λ q. eqb (amount M f (P q) (P (suc q))) (lets M f P N)) N l)

  pub stage : Lawful M → Fits M f → 0 < N → Found M f P N → Stage M f P N (lets M f P N) (tightest M f P N)
  stage laws fits h found = record {
    moving = record { laws = laws; fits = fits; path = found.path; least = lets_le };
    straight = found.straight;
    lowest = found.lowest;
    index = tightest_below h;
    critical = tightest_at (tightest_below h);
  }

  pub lets_some : 0 < N → Found M f P N → 0 < lets M f P N
  lets_some h found = by (lets_at h).0 (lets_at h).1 (lets_at h).2
    where
      by : (q : ℕ) → q < N → lets M f P N ≡ amount M f (P q) (P (suc q)) → 0 < lets M f P N
      by q a e = omega (arith, e, found.path.some q a)
