-- A table that changes lane by lane, each lane by itself.
use Rattle.std.proofs.Common.{◌≡◌, ℕ, zero, suc, ◌+◌, ◌<◌, ◌≤◌, List, [], ◌∷◌, length, get_or, set, None, Option, refl, ap, ◌∙◌, arith}
use Rattle.std.proofs.lemmas.List.{length-map}
use Rattle.std.proofs.lemmas.Grind.{common_steps}
use Rattle.labelling.specs.Table.{Mark, mark, listed}
use Rattle.labels.specs.declared.Label.{Label}
use Rattle.labels.specs.Labels.{mark_of, marks}
use Rattle.labels.proofs.Marks.{mark_at}

-- a table is the list of its marks
pub listed_from : (h : ℕ → Mark) (n k : ℕ) (u : List Mark) → length u ≡ n → ((i : ℕ) → i < n → mark u i ≡ h (k + i)) → u ≡ listed h n k
unfolding listed mark
listed_from h zero k [] e q = refl
listed_from h zero k (w ∷ u) e q = absurd (omega arith)
listed_from h (suc n) k [] e q = absurd (omega arith)
listed_from h (suc n) k (w ∷ u) e q =
    let a : w ≡ h k = q 0 (omega arith) ∙ ap h (omega arith) in
    let b : u ≡ listed h n (suc k) = listed_from h n (suc k) u (omega arith) (λ i l. q (suc i) (omega arith) ∙ ap h (omega arith)) in
    cc

-- the same of the lanes from 0 on
pub listed_all : (h : ℕ → Mark) (n : ℕ) (u : List Mark) → length u ≡ n → ((i : ℕ) → i < n → mark u i ≡ h i) → u ≡ listed h n 0
listed_all h n u e q = listed_from h n 0 u e (λ i l. q i l ∙ ap h (omega arith))

-- the lanes below y are changed by f, the others are as they were
abbrev pub Part : (ℕ → Mark → Mark) → List (Option Label) → List (Option Label) → ℕ → Type 0
Part f t u y = record {
  changed : (k : ℕ) → k < y → mark (marks u) k ≡ f k (mark (marks t) k);
  others : (k : ℕ) → y ≤ k → mark (marks u) k ≡ mark (marks t) k;
}

module _ (f : ℕ → Mark → Mark) (t : List (Option Label)) where
  -- one lane more
  pub part_more : (u v : List (Option Label)) (y : ℕ) (o : Option Label) → y < length u → v ≡ set u y o → mark_of o ≡ f y (mark_of (get_or u y None)) → Part f t u y → Part f t v (y + 1)
  part_more u v y o h e q p = record {
    changed = λ k l. grind (arith, common_steps, mark_at, p.changed k, p.others k);
    others = λ k l. grind (arith, common_steps, mark_at, p.others k);
  }

  -- all lanes
  pub part_all : (u : List (Option Label)) (n y : ℕ) → length u ≡ n → n ≤ y → Part f t u y → marks u ≡ listed (λ k. f k (mark (marks t) k)) n 0
  part_all u n y e h p = listed_all (λ k. f k (mark (marks t) k)) n (marks u) (length-map u mark_of ∙ e) (λ k l. p.changed k (omega arith))
