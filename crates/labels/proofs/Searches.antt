-- The first number that passes a test, as a search finds it.
use Rattle.std.proofs.Common.{◌≡◌, ℕ, ◌<◌, ◌≤◌, Bool, true, false, cond, ltb, List, length, Some, None, Option, MatchOption, MatchBool, sym, ap, ◌∙◌, inl, inr, arith}
use Rattle.std.proofs.lemmas.Bool.{both_ways, cases_lt, cases_order, lt-ltb, le-ltb}
use Rattle.polymatroid.specs.Finite.{first}
use Rattle.polymatroid.proofs.Finite.{first_passes, first_before}
use Rattle.std.specs.List.{HoldsAt, AllWithin}
use Rattle.labelling.specs.Table.{mark, is_at, lane_of_level}
use Rattle.labels.specs.declared.Label.{Label}
use Rattle.labels.specs.Labels.{mark_of, marks, found}
use Rattle.labels.proofs.Marks.{mark_at}

module _ (t : ℕ → Bool) (n : ℕ) where
  -- a number that passes, with none before it that does
  first_is : (e : ℕ) → e < n → t e ≡ true → ((k : ℕ) → k < e → t k ≡ false) → first t n ≡ e
  first_is e h p q =
      elim (cases_order (first t n) e) [
        | inl o ↦ o
        | inr o ↦
            elim o [
              | inl l ↦ absurd (both_ways (t (first t n)) (q (first t n) l) (first_passes t n (omega arith)))
              | inr l ↦ absurd (both_ways (t e) (first_before t n e l) p)
            ]
      ]

  -- there is none where none passes
  first_none : ((k : ℕ) → k < n → t k ≡ false) → n ≤ first t n
  first_none q =
      elim (cases_lt (first t n) n) [
        | inl l ↦ absurd (both_ways (t (first t n)) (q (first t n) l) (first_passes t n l))
        | inr l ↦ l
      ]

  -- what `find` over the numbers below n finds
  pub found_first : (r : Option ℕ) → MatchOption r ((k : ℕ) → 0 ≤ k → k < n → t k ≡ false) (λ e. (0 ≤ e) × (e < n) × (t e ≡ true) × ((k : ℕ) → 0 ≤ k → k < e → t k ≡ false)) → r ≡ found n (first t n)
  found_first None q = sym (ap (λ b. cond b (Some (first t n)) None) (le-ltb (first t n) n (first_none (λ k h. q k (omega arith) h))))
  found_first (Some e) q = sym (ap (found n) (first_is e q.1 q.2 (λ k h. q.3 k (omega arith) h)) ∙ ap (λ b. cond b (Some e) None) (lt-ltb e n q.1))

  -- there is one below n, where the first that passes is
  pub some_below : (e : ℕ) → e < n → t e ≡ true → ((k : ℕ) → k < e → t k ≡ false) → true ≡ ltb (first t n) n
  some_below e h p q = sym (ap (λ e. ltb e n) (first_is e h p q) ∙ lt-ltb e n h)

  -- there is none below n, where none passes
  pub none_below : ((k : ℕ) → k < n → t k ≡ false) → false ≡ ltb (first t n) n
  none_below q = sym (le-ltb (first t n) n (first_none q))

  -- what `any` over the numbers below n answers
  pub any_first : (b : Bool) → MatchBool b ((e : ℕ) × (e < n) × (t e ≡ true)) ((k : ℕ) → k < n → t k ≡ false) → b ≡ ltb (first t n) n
  any_first true q =
      elim (cases_lt (first t n) n) [
        | inl l ↦ sym (lt-ltb (first t n) n l)
        | inr l ↦ absurd (both_ways (t q.0) (first_before t n q.0 (omega arith)) q.2)
      ]
  any_first false q = none_below q

-- what `any` over the labels answers, where it looks for a lane of the level
pub any_of_level : (l m : ℕ) (t : List (Option Label)) (b : Bool) → length t ≡ m
    → MatchBool b ((k : ℕ) × (k < length t) × HoldsAt (λ o. is_at l (mark_of o) ≡ true) t k) (AllWithin (λ o. is_at l (mark_of o) ≡ false) t 0 (length t))
    → b ≡ ltb (lane_of_level m l (marks t)) m
unfolding lane_of_level
any_of_level l m t true e q = any_first (λ k. is_at l (mark (marks t) k)) m true (q.0, omega arith, ap (is_at l) (mark_at t q.0) ∙ q.2 None)
any_of_level l m t false e q = any_first (λ k. is_at l (mark (marks t) k)) m false (λ k h. ap (is_at l) (mark_at t k) ∙ q k None (omega arith) (omega arith))
