-- How a labelling comes out.
use Rattle.std.proofs.Common.{◌≡◌, ℕ, zero, suc, ◌+◌, ◌<◌, ◌≤◌, Bool, true, false, cond, ◌&&◌, ltb, List, sym, refl, ap, ◌∙◌, subst, inl, inr, arith}
use mathlib.Core.Path.{subst⁻¹}
use Rattle.std.proofs.lemmas.Bool.{cases_lt, both_ways, eqb-true, ltb-true, ltb-false, and_parts, and_from}
use Rattle.polymatroid.proofs.Finite.{first_passes, first_before}
use Rattle.levels.proofs.Counting.{pigeonhole_all}
use Rattle.network.specs.States.{State, Pole, lane_number}
use Rattle.labelling.specs.Table.{Mark, Given, mark, is_at, state_of, pass, table_up_to, ending_lane, lane_of_level, Outcome, Ended, Finished, label_from, label}
use Rattle.labelling.proofs.Scan.{AtLevel, cases_mark, lane_of}
use Rattle.labelling.proofs.Levels.{good_tab, mark_up}

-- no label of level j ends a path
abbrev pub Unended : (State → State → Bool) → ℕ → ℕ → Type 0
Unended r m j = (x : State) → AtLevel (table_up_to r m j) j x → r x (Pole true) ≡ true → ⊥

pub record Ran (r : State → State → Bool) (m l e : ℕ) (t : List Mark) : Type 0 where
  pub is : t ≡ table_up_to r m l
  pub some : 0 < l
  pub lane : e < m
  pub level : is_at l (mark (table_up_to r m l) e) ≡ true
  pub ends : r (state_of e (mark (table_up_to r m l) e)) (Pole true) ≡ true
  pub lowest : (x : State) → AtLevel (table_up_to r m l) l x → r x (Pole true) ≡ true → e ≤ lane_number x
  pub before : (j : ℕ) → 0 < j → j < l → Unended r m j

pub record Done (r : State → State → Bool) (m l : ℕ) (t : List Mark) : Type 0 where
  pub is : t ≡ table_up_to r m l
  pub some : 0 < l
  pub empty : (x : State) → AtLevel (table_up_to r m l) l x → ⊥
  pub before : (j : ℕ) → 0 < j → j ≤ l → Unended r m j

abbrev pub Right : (State → State → Bool) → ℕ → Outcome → Type 0
Right r m (Ended l e t) = Ran r m l e t
Right r m (Finished t) = (l : ℕ) × Done r m l t

module _ (r : State → State → Bool) (m : ℕ) where
  test : ℕ → ℕ → Bool
  test l e = is_at l (mark (table_up_to r m l) e) && r (state_of e (mark (table_up_to r m l) e)) (Pole true)

  below : (l k : ℕ) (x : State) → AtLevel (table_up_to r m l) (suc k) x → lane_number x < m
  below l k x s =
      elim (cases_lt (lane_number x) m) [
        | inl h ↦ h
        | inr h ↦
            absurd (both_ways (is_at (suc k) (mark (table_up_to r m l) (lane_number x))) (ap (is_at (suc k)) ((good_tab r m l).off (lane_number x) (omega arith)))
            (lane_of r (table_up_to r m l) k x s).0)
      ]

  test_true : (k : ℕ) (x : State) → AtLevel (table_up_to r m (suc k)) (suc k) x → r x (Pole true) ≡ true → test (suc k) (lane_number x) ≡ true
  unfolding test
  test_true k x s h =
      let o = lane_of r (table_up_to r m (suc k)) k x s in
      and_from (is_at (suc k) (mark (table_up_to r m (suc k)) (lane_number x))) (r (state_of (lane_number x) (mark (table_up_to r m (suc k)) (lane_number x))) (Pole true)) o.0
      (subst⁻¹ (λ x. r x (Pole true) ≡ true) o.1 h)

  ender_lowest : (k : ℕ) (x : State) → AtLevel (table_up_to r m (suc k)) (suc k) x → r x (Pole true) ≡ true → ending_lane r m (suc k) (table_up_to r m (suc k)) ≤ lane_number x
  unfolding ending_lane test
  ender_lowest k x s h =
      elim (cases_lt (lane_number x) (ending_lane r m (suc k) (table_up_to r m (suc k)))) [
        | inl q ↦ absurd (both_ways (test (suc k) (lane_number x)) (first_before (test (suc k)) m (lane_number x) q) (test_true k x s h))
        | inr q ↦ omega arith
      ]

  ender_passes : (l : ℕ) → ending_lane r m l (table_up_to r m l) < m → test l (ending_lane r m l (table_up_to r m l)) ≡ true
  unfolding ending_lane test
  ender_passes l h = first_passes (test l) m h

  some_empty : (k : ℕ) → m ≤ lane_of_level m (suc k) (table_up_to r m (suc k)) → (x : State) → AtLevel (table_up_to r m (suc k)) (suc k) x → ⊥
  unfolding lane_of_level
  some_empty k h x s =
      let b = below (suc k) k x s in
      both_ways (is_at (suc k) (mark (table_up_to r m (suc k)) (lane_number x)))
      (first_before (λ e. is_at (suc k) (mark (table_up_to r m (suc k)) e)) m (lane_number x) (omega arith)) (lane_of r (table_up_to r m (suc k)) k x s).0

  -- a lane of each level
  Lanes : ℕ → Type 0
  Lanes l = (j : ℕ) → j < l → (lane_of_level m (suc j) (table_up_to r m (suc j)) < m)

  at_some : (j : ℕ) → lane_of_level m (suc j) (table_up_to r m (suc j)) < m → is_at (suc j) (mark (table_up_to r m (suc j)) (lane_of_level m (suc j) (table_up_to r m (suc j)))) ≡ true
  unfolding lane_of_level
  at_some j h = first_passes (λ e. is_at (suc j) (mark (table_up_to r m (suc j)) e)) m h

  -- a lane has one level
  apart : (i j y : ℕ) → i < j → is_at (suc i) (mark (table_up_to r m (suc i)) y) ≡ true → is_at (suc j) (mark (table_up_to r m (suc j)) y) ≡ true → ⊥
  apart i j y h a b =
      elim (cases_mark (mark (table_up_to r m (suc i)) y)) [
        | inl o ↦ both_ways (is_at (suc i) (mark (table_up_to r m (suc i)) y)) (ap (is_at (suc i)) o) a
        | inr o ↦ by o.0 o.1 o.2 o.3
      ]
    where
      by : (s : Bool) (z : State) (k : ℕ) → mark (table_up_to r m (suc i)) y ≡ Given s z k → ⊥
      by s z k q =
          let p = mark_up r m (suc j) (suc i) y s z k (omega arith) q in
          let u = eqb-true k (suc i) (sym (ap (is_at (suc i)) q) ∙ a) in
          let v = eqb-true k (suc j) (sym (ap (is_at (suc j)) p) ∙ b) in
          omega arith

  few : (l : ℕ) → Lanes l → l ≤ m
  unfolding Lanes
  few l h = pigeonhole_all (λ j. lane_of_level m (suc j) (table_up_to r m (suc j))) l m h differ
    where
      differ : (i j : ℕ) → i < j → j < l → lane_of_level m (suc i) (table_up_to r m (suc i)) ≡ lane_of_level m (suc j) (table_up_to r m (suc j)) → ⊥
      differ i j a b q =
          apart i j (lane_of_level m (suc j) (table_up_to r m (suc j))) a
          (subst (λ y. is_at (suc i) (mark (table_up_to r m (suc i)) y) ≡ true) q (at_some i (h i (omega arith)))) (at_some j (h j b))

  ended : (k : ℕ) → ((j : ℕ) → 0 < j → j < suc k → Unended r m j) → ending_lane r m (suc k) (table_up_to r m (suc k)) < m
      → Ran r m (suc k) (ending_lane r m (suc k) (table_up_to r m (suc k))) (table_up_to r m (suc k))
  unfolding test
  ended k b p =
      let a = and_parts (is_at (suc k) (mark (table_up_to r m (suc k)) (ending_lane r m (suc k) (table_up_to r m (suc k)))))
      (r (state_of (ending_lane r m (suc k) (table_up_to r m (suc k))) (mark (table_up_to r m (suc k)) (ending_lane r m (suc k) (table_up_to r m (suc k))))) (Pole true))
      (ender_passes (suc k) p) in
      record { is = refl; some = omega arith; lane = p; level = a.0; ends = a.1; lowest = ender_lowest k; before = b }

  unended : (k : ℕ) → ((j : ℕ) → 0 < j → j < suc k → Unended r m j) → m ≤ ending_lane r m (suc k) (table_up_to r m (suc k))
      → (j : ℕ) → 0 < j → j < suc (suc k) → Unended r m j
  unended k b p j g i =
      elim (cases_lt j (suc k)) [
        | inl q ↦ b j g q
        | inr q ↦
            let o : suc k ≡ j = omega arith in
            subst (Unended r m) o (λ x s v. let c = ender_lowest k x s v in let d = below (suc k) k x s in omega arith)
      ]

  lanes_more : (k : ℕ) → Lanes k → lane_of_level m (suc k) (table_up_to r m (suc k)) < m → Lanes (suc k)
  unfolding Lanes
  lanes_more k h p j i =
      elim (cases_lt j k) [
        | inl q ↦ h j q
        | inr q ↦ let o : k ≡ j = omega arith in subst (λ j. lane_of_level m (suc j) (table_up_to r m (suc j)) < m) o p
      ]

  ran_step : (n k : ℕ) → Lanes k → ((j : ℕ) → 0 < j → j < suc k → Unended r m j)
      → (Lanes (suc k) → ((j : ℕ) → 0 < j → j < suc (suc k) → Unended r m j) → Right r m (label_from r m n (suc (suc k)) (pass r m (suc k) (table_up_to r m (suc k)))))
      → (a c : Bool) → ltb (ending_lane r m (suc k) (table_up_to r m (suc k))) m ≡ a → ltb (lane_of_level m (suc k) (table_up_to r m (suc k))) m ≡ c
      → Right r m (cond a (Ended (suc k) (ending_lane r m (suc k) (table_up_to r m (suc k))) (table_up_to r m (suc k)))
      (cond c (label_from r m n (suc (suc k)) (pass r m (suc k) (table_up_to r m (suc k)))) (Finished (table_up_to r m (suc k)))))
  ran_step n k h b rest true c p q = ended k b (ltb-true (ending_lane r m (suc k) (table_up_to r m (suc k))) m p)
  ran_step n k h b rest false true p q =
      rest (lanes_more k h (ltb-true (lane_of_level m (suc k) (table_up_to r m (suc k))) m q)) (unended k b (ltb-false (ending_lane r m (suc k) (table_up_to r m (suc k))) m p))
  ran_step n k h b rest false false p q = (
    suc k,
    record {
      is = refl;
      some = omega arith;
      empty = some_empty k (ltb-false (lane_of_level m (suc k) (table_up_to r m (suc k))) m q);
      before = λ j g i. unended k b (ltb-false (ending_lane r m (suc k) (table_up_to r m (suc k))) m p) j g (omega arith);
    },
  )

  ran : (n k : ℕ) → n + k ≡ suc m → Lanes k → ((j : ℕ) → 0 < j → j < suc k → Unended r m j) → Right r m (label_from r m n (suc k) (table_up_to r m (suc k)))
  unfolding label_from table_up_to
  ran zero k e h b = absurd (omega (arith, few k h))
  ran (suc n) k e h b =
      ran_step n k h b (ran n (suc k) (omega arith)) (ltb (ending_lane r m (suc k) (table_up_to r m (suc k))) m) (ltb (lane_of_level m (suc k) (table_up_to r m (suc k))) m) refl refl

  pub label_right : Right r m (label r m)
  unfolding label Lanes
  label_right = ran (suc m) 0 (omega arith) (λ j h. absurd (omega arith)) (λ j g i. absurd (omega arith))
