-- A path as a list of signed lanes and as a function on places are one.
use Rattle.std.proofs.Common.{◌≡◌, ℕ, zero, suc, ◌<◌, ◌≤◌, true, false, List, [], ◌∷◌, length, get_or, sym, refl, ap, ◌∙◌, ap₂, inl, inr, arith}
use mathlib.Core.Path.{subst⁻¹}
use Rattle.std.proofs.lemmas.Bool.{cases_lt}
use Rattle.polymatroid.specs.Finite.{least}
use Rattle.polymatroid.proofs.Finite.{least_same_values}
use Rattle.floor.specs.Meaning.{Meaning}
use Rattle.network.specs.States.{State, Pole, OnFloor, at, applied, augmented, holder}
use Rattle.labelling.specs.Rules.{Carries}
use Rattle.labelling.specs.Augmenting.{Augmenting, along}
use Rattle.labelling.specs.Amount.{term, least_term}
use Rattle.labelling.specs.Steps.{row, shifted}

pub row_length : (P : ℕ → State) (l : ℕ) → length (row P l) ≡ l
unfolding row
row_length P zero = refl
row_length P (suc l) = omega (arith, row_length (λ i. P (suc i)) l)

pub row_at : (P : ℕ → State) (l i : ℕ) (d : State) → i < l → get_or (row P l) i d ≡ P (suc i)
unfolding row
row_at P zero i d h = absurd (omega arith)
row_at P (suc l) zero d h = refl
row_at P (suc l) (suc i) d h = row_at (λ i. P (suc i)) l i d (omega arith)

row_past : (P : ℕ → State) (l i : ℕ) (d : State) → l ≤ i → get_or (row P l) i d ≡ d
unfolding row
row_past P zero i d h = refl
row_past P (suc l) zero d h = absurd (omega arith)
row_past P (suc l) (suc i) d h = row_past (λ i. P (suc i)) l i d (omega arith)

-- the row of a path, with start and end, is the path
pub along_row : (P : ℕ → State) (l : ℕ) → P 0 ≡ Pole false → P (suc l) ≡ Pole true → (i : ℕ) → i ≤ suc l → along (row P l) i ≡ P i
unfolding along
along_row P l b f zero h = sym b
along_row P l b f (suc i) h =
    elim (cases_lt i l) [
      | inl k ↦ row_at P l i (Pole true) k
      | inr k ↦ row_past P l i (Pole true) k ∙ sym f ∙ ap P (omega arith)
    ]

-- what paths that are one at each place have in common
module _ (P Q : ℕ → State) (l : ℕ) (same : (i : ℕ) → i ≤ suc l → Q i ≡ P i) where
  pub augmenting_same : (M : Meaning) (f : ℕ → ℕ) → Augmenting M f P l → Augmenting M f Q l
  augmenting_same M f a = record {
    begin = same 0 (omega arith) ∙ a.begin;
    finish = same (suc l) (omega arith) ∙ a.finish;
    ok = λ i h. subst⁻¹ (OnFloor M) (same i h) (a.ok i h);
    distinct = λ i j h k q.
        a.distinct i j h k (ap holder (sym (same i (omega arith))) ∙ q ∙ ap holder (same j k));
    meet = λ i h. ap (at M true) (same i (omega arith)) ∙ a.meet i h ∙ ap (at M false) (sym (same (suc i) (omega arith)));
    carries = λ i h. subst⁻¹ (Carries f) (same i h) (a.carries i h);
    followed = λ i e h q z.
        let r = a.followed i e h (sym (same i (omega arith)) ∙ q) z in
        (r.0, same (suc i) (omega arith) ∙ r.1, r.2);
    preceded = λ i e h q z.
        let r = a.preceded i e h (sym (same (suc i) (omega arith)) ∙ q) z in
        (r.0, same i (omega arith) ∙ r.1, r.2);
  }

  pub least_term_same : (M : Meaning) (f : ℕ → ℕ) → 0 < l → least_term M f Q l ≡ least_term M f P l
  unfolding least_term
  least_term_same M f h =
      let at_term : (q : ℕ) → q < l → term M f (Q q) (Q (suc q)) (Q (suc (suc q))) ≡ term M f (P q) (P (suc q)) (P (suc (suc q))) =
      λ q k.
      ap (λ x. term M f x (Q (suc q)) (Q (suc (suc q)))) (same q (omega arith))
      ∙ ap₂ (λ y z. term M f (P q) y z) (same (suc q) (omega arith)) (same (suc (suc q)) (omega arith)) in
      least_same_values (λ q. true) (λ q. term M f (Q q) (Q (suc q)) (Q (suc (suc q)))) (λ q. term M f (P q) (P (suc q)) (P (suc (suc q))))
      (term M f (Q 0) (Q 1) (Q 2)) l at_term
      ∙ ap (λ d. least (λ q. true) (λ q. term M f (P q) (P (suc q)) (P (suc (suc q)))) d l) (at_term 0 h)

  pub walked_same : (n : ℕ) (f : ℕ → ℕ) (N : ℕ) → N ≤ suc (suc l) → augmented n Q N f ≡ augmented n P N f
  unfolding augmented
  walked_same n f zero h = refl
  walked_same n f (suc N) h = ap₂ (applied n) (same N (omega arith)) (walked_same n f N (omega arith))

-- the first state can be taken first
walked_front : (n : ℕ) (P : ℕ → State) (N : ℕ) (f : ℕ → ℕ) → augmented n P (suc N) f ≡ augmented n (λ i. P (suc i)) N (applied n (P 0) f)
unfolding augmented
walked_front n P zero f = refl
walked_front n P (suc N) f = ap (applied n (P (suc N))) (walked_front n P N f)

shifted_list : (n : ℕ) (p : List State) (f : ℕ → ℕ) → shifted n p f ≡ augmented n (λ i. get_or p i (Pole true)) (length p) f
unfolding shifted augmented
shifted_list n [] f = refl
shifted_list n (x ∷ p) f =
    let one : length (x ∷ p) ≡ suc (length p) = omega arith in
    shifted_list n p (applied n x f) ∙ sym (walked_front n (λ i. get_or (x ∷ p) i (Pole true)) (length p) f)
    ∙ ap (λ k. augmented n (λ i. get_or (x ∷ p) i (Pole true)) k f) (sym one)

pub shifted_walked : (n : ℕ) (p : List State) (f : ℕ → ℕ) → shifted n p f ≡ augmented n (along p) (suc (length p)) f
unfolding along
shifted_walked n p f = shifted_list n p f ∙ sym (walked_front n (along p) (length p) f)
