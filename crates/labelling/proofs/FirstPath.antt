-- A step finds the first shortest augmenting path, or there is none.
use Rattle.std.proofs.Common.{◌≡◌, ℕ, zero, suc, ◌<◌, ◌≤◌, true, false, ◌⊎◌, List, length, sym, ap, ◌∙◌, subst, inl, inr, arith}
use mathlib.Core.Path.{subst⁻¹}
use Rattle.std.proofs.lemmas.Bool.{cases_eq}
use Rattle.std.proofs.lemmas.List.{ext_get_or}
use Rattle.levels.specs.Levels.{Walk}
use Rattle.floor.specs.Meaning.{Meaning, Lawful}
use Rattle.network.specs.States.{State, Pole, Step, lane_number}
use Rattle.network.specs.Plans.{Fits}
use Rattle.network.proofs.Unreached.{no_walk}
use Rattle.labelling.specs.Rules.{ruled}
use Rattle.labelling.specs.Table.{Mark, Ended, Finished, label, path}
use Rattle.labelling.specs.Augmenting.{Augmenting, along, Augments, Before}
use Rattle.labelling.specs.Steps.{row}
use Rattle.labelling.specs.Near.{near, plus_labelled, minus_labelled}
use Rattle.labelling.specs.Theorems.{FirstShortest, NoPath, FirstShortestPath}
use Rattle.labelling.proofs.Closes.{rules_close}
use Rattle.labelling.proofs.Augmenting.{path_augments, path_first, walk}
use Rattle.labelling.proofs.Rows.{row_length, augmenting_same}
use Rattle.labelling.proofs.Made.{step_ended, step_finished, same_path}

module _ (M : Meaning) (laws : Lawful M) (f : ℕ → ℕ) (fits : Fits M f) (l e : ℕ) (t : List Mark)
    (q : label (ruled M f) M.floor.lanes ≡ Ended l e t) where
  p : List State
  p = row (path l e t) l

  augments : Augments M f (row (path l e t) l)
  augments =
      subst⁻¹ (Augmenting M f (along (row (path l e t) l))) (row_length (path l e t) l)
      (augmenting_same (path l e t) (along (row (path l e t) l)) l (same_path M laws f fits l e t q) M f (path_augments M f l e t laws fits q))

  module _ (c : List State) (aug : Augments M f c) where
    no_shorter : length (row (path l e t) l) ≤ length c
    no_shorter = omega (arith, row_length (path l e t) l, (path_first M f l e t laws fits q (along c) (length c) aug).0)

    -- the place from the end at which the two first differ
    differ : length c ≡ l → (i : ℕ) → i ≤ l → ((j : ℕ) → i < j → j ≤ l → along c j ≡ path l e t j)
        → ((j : ℕ) → 0 < j → j ≤ l → along c j ≡ path l e t j)
        ⊎ ((k : ℕ) × (k < l) × ((j : ℕ) → suc k < j → j ≤ l → along c j ≡ path l e t j) × (lane_number (path l e t (suc k)) < lane_number (along c (suc k))))
    differ o zero h same = inl same
    differ o (suc i) h same =
        elim ((path_first M f l e t laws fits q (along c) (length c) aug).1 o (suc i) h same) [
          | inl r ↦ differ o i (omega arith) (λ j a b. at j a b r)
          | inr r ↦ inr (i, h, same, r)
        ]
      where
        at : (j : ℕ) → i < j → j ≤ l → along c (suc i) ≡ path l e t (suc i) → along c j ≡ path l e t j
        at j a b r = elim (cases_eq j (suc i)) [ inl s ↦ ap (along c) s ∙ r ∙ ap (path l e t) (sym s) | inr s ↦ same j (omega arith) b ]

    comes_after : length c ≡ length (row (path l e t) l) → (c ≡ row (path l e t) l → ⊥) → Before (row (path l e t) l) c
    unfolding along
    comes_after o ne =
        elim (differ (o ∙ row_length (path l e t) l) l (omega arith) (λ j a b. absurd (omega arith))) [
          | inl same ↦
              absurd (ne (ext_get_or (Pole true) c (row (path l e t) l) o
              (λ k h. same (suc k) (omega arith) (omega (arith, o, row_length (path l e t) l))
              ∙ sym (same_path M laws f fits l e t q (suc k) (omega (arith, o, row_length (path l e t) l))))))
          | inr r ↦ at r.0 r.1 r.2 r.3
        ]
      where
        at : (k : ℕ) → k < l → ((j : ℕ) → suc k < j → j ≤ l → along c j ≡ path l e t j) → lane_number (path l e t (suc k)) < lane_number (along c (suc k))
            → Before (row (path l e t) l) c
        at k h same low = (
          k,
          omega (arith, row_length (path l e t) l),
          λ j a b.
              same_path M laws f fits l e t q (suc j) (omega (arith, row_length (path l e t) l))
              ∙ sym (same (suc j) (omega arith) (omega (arith, row_length (path l e t) l))),
          omega (arith, ap lane_number (same_path M laws f fits l e t q (suc k) (omega arith)), low),
        )

  first_shortest : FirstShortest M f (row (path l e t) l)
  first_shortest = record { augments = augments; shortest = no_shorter; first = λ c a o ne. comes_after c a o ne }

-- no label is left to give: there is no path
none_left : (M : Meaning) → Lawful M → (f : ℕ → ℕ) → Fits M f → (t : List Mark) → label (ruled M f) M.floor.lanes ≡ Finished t → NoPath M f
none_left M laws f fits t q c aug =
    no_walk M laws f fits (plus_labelled t) (minus_labelled t) (near M f t) (rules_close M f t laws fits q) (suc (length c))
    (subst (Walk (Step M f) (Pole false) (suc (length c))) aug.finish
    (subst (λ x. Walk (Step M f) x (suc (length c)) (along c (suc (length c)))) aug.begin
    (walk M laws f fits (along c) (length c) aug (suc (length c)) (omega arith))))

pub first_shortest_path : FirstShortestPath
first_shortest_path M f laws ok = (
  λ v h.
      let r = step_ended M f v h in
      subst⁻¹ (λ v. FirstShortest M f v.lanes) r.4 (first_shortest M laws f ok.within r.0 r.1 r.2 r.3),
  λ h. let r = step_finished M f h in none_left M laws f ok.within r.0 r.1,
)
