-- Tests of lists of numbers, from what holds of the numbers one by one.
use Rattle.std.proofs.Common.{◌≡◌, ℕ, zero, suc, ◌+◌, ◌*◌, ◌/◌, ◌^◌, ◌<◌, ◌≤◌, Bool, true, false, cond, eqb, ltb, leb, List, [], ◌∷◌, length, get_or, refl, sym, ap, ◌∙◌, ◌&&◌, inl, inr, arith}
use Rattle.std.proofs.Math.Numerals.{one-add}
use Rattle.std.proofs.lemmas.List.FromFn.{length-map-range_with_len, get_or-map-range_with_len}
use Rattle.std.proofs.lemmas.Bool.Decides.{nat_tests}
use Rattle.std.proofs.lemmas.Bool.{both_ways, cases_Bool, eq-eqb, ne_eqb, eqb-true, leb-true, ltb-true}
use Rattle.std.specs.List.{list_all, range_with_len}
use Rattle.polymatroid.specs.Tables.{every}
use Rattle.polymatroid.proofs.Tables.{every_at}
use Rattle.floor.specs.Numbers.{top_cap}
use Rattle.plantformat.specs.Bytes.{word, long, listed}
use Rattle.plantformat.specs.Rules.{all_of, all_at_most, all_below, parents_keep}
use Rattle.plantformat.specs.Judge.{longs, parents_at, bounds_at, members_at}
use Rattle.limits.specs.Checks.{TableOf, table_cap}
use Rattle.limits.proofs.Ranges.{every_front, every_from_range}

-- one number that fails is enough
pub every_fails : (n : ℕ) (t : ℕ → Bool) (i : ℕ) → i < n → t i ≡ false → every n t ≡ false
every_fails n t i l h =
    elim (cases_Bool (every n t)) [
      | inl e ↦ absurd (both_ways (t i) h (every_at n t e i l))
      | inr e ↦ e
    ]

-- ---- all of a list, from its elements

module _ (t : ℕ → Bool) where
  all_of_at : (xs : List ℕ) → all_of t xs ≡ true → (i : ℕ) → i < length xs → t (get_or xs i 0) ≡ true
  all_of_at [] e i l = absurd (omega arith)
  all_of_at (x ∷ xs) e zero l = grind arith
  all_of_at (x ∷ xs) e (suc i) l = all_of_at xs (grind arith) i (omega arith)

module _ (top : ℕ) (xs : List ℕ) where
  pub at_most_at : all_at_most top xs ≡ true → (i : ℕ) → i < length xs → get_or xs i 0 ≤ top
  unfolding all_at_most
  at_most_at e i l = leb-true (get_or xs i 0) top (all_of_at (λ x. leb x top) xs e i l)

  pub below_at : all_below top xs ≡ true → (i : ℕ) → i < length xs → get_or xs i 0 < top
  unfolding all_below
  below_at e i l = ltb-true (get_or xs i 0) top (all_of_at (λ x. ltb x top) xs e i l)

-- ---- the numbers of a body

pub length_longs : (b : List ℕ) → length (longs b) ≡ length b / 4
length_longs b = length-map-range_with_len (λ i. long b (4 * i)) 0 (length b / 4)

pub longs_at : (b : List ℕ) (i : ℕ) → 4 * i + 4 ≤ length b → get_or (longs b) i 0 ≡ long b (4 * i)
longs_at b i l = get_or-map-range_with_len (λ i. long b (4 * i)) 0 (length b / 4) i i 0 (omega arith) (omega arith)

-- ---- groups

listed_at : (n : ℕ) (f : ℕ → ℕ) (i : ℕ) → i < n → get_or (listed n f) i 0 ≡ f i
listed_at n f i l = get_or-map-range_with_len f 0 n i i 0 l (omega arith)

module _ (b : List ℕ) where
  pub length_parents : (g : ℕ) → length (parents_at g b) ≡ g
  length_parents g = length-map-range_with_len (λ j. word b (6 * j)) 0 g

  pub length_bounds : (g : ℕ) → length (bounds_at g b) ≡ g
  length_bounds g = length-map-range_with_len (λ j. long b (6 * j + 2)) 0 g

  pub length_members : (k g : ℕ) → length (members_at k g b) ≡ k
  length_members k g = length-map-range_with_len (λ p. word b (6 * g + 2 * p)) 0 k

  pub parents_is : (g j : ℕ) → j < g → get_or (parents_at g b) j 0 ≡ word b (6 * j)
  parents_is g j l = listed_at g (λ j. word b (6 * j)) j l

  pub bounds_is : (g j : ℕ) → j < g → get_or (bounds_at g b) j 0 ≡ long b (6 * j + 2)
  bounds_is g j l = listed_at g (λ j. long b (6 * j + 2)) j l

  pub members_is : (k g p : ℕ) → p < k → get_or (members_at k g b) p 0 ≡ word b (6 * g + 2 * p)
  members_is k g p l = listed_at k (λ p. word b (6 * g + 2 * p)) p l

module _ (parents : List ℕ) where
  abbrev parent_keeps : ℕ → Bool
  parent_keeps j = cond (eqb j 0) (eqb (get_or parents j 0) 0) (ltb (get_or parents j 0) j)

  pub parents_keep_at : parents_keep parents ≡ true → 0 < length parents
      → (get_or parents 0 0 ≡ 0) × ((j : ℕ) → 0 < j → j < length parents → get_or parents j 0 < j)
  unfolding parents_keep
  parents_keep_at e some =
      let at = every_at (length parents) parent_keeps e in
      (eqb-true (get_or parents 0 0) 0 (at 0 some), λ j p l. let h = at j l in grind (arith, nat_tests))

-- numbers that are listed twice pass alike
every_same : (n : ℕ) (t u : ℕ → Bool) → ((i : ℕ) → i < n → t i ≡ u i) → every n t ≡ every n u
unfolding every
every_same zero t u h = refl
every_same (suc n) t u h = (λ i. every_same n t u (λ j l. h j (omega arith)) i && h n (omega arith) i)

-- the parent of group 0, then the others
module _ (b : List ℕ) (g m : ℕ) (some : g ≡ suc m) where
  parents_tested : parents_keep (parents_at g b) ≡ (eqb (word b 0) 0 && list_all (λ j. ltb (word b (6 * j)) j) (range_with_len 1 m))
  unfolding parents_keep
  parents_tested =
      let ps = parents_at g b in
      let long : length ps ≡ suc m = length_parents b g ∙ some in
      let root : get_or ps 0 0 ≡ word b 0 = parents_is b g 0 (omega arith) in
      let lower : (i : ℕ) → i < m → parent_keeps ps (suc i) ≡ ltb (word b (6 * (1 + i))) (1 + i) =
      λ i l.
      let step : parent_keeps ps (suc i) ≡ ltb (get_or ps (suc i) 0) (suc i) = grind (arith, nat_tests) in
      let is : get_or ps (suc i) 0 ≡ word b (6 * suc i) = parents_is b g (suc i) (omega arith) in
      step ∙ (λ k. ltb (is k) (suc i)) ∙ ap (λ n. ltb (word b (6 * n)) n) (sym (one-add i)) in
      ap (λ n. every n (parent_keeps ps)) long
      ∙ every_front m (parent_keeps ps)
      ∙ (λ i. eqb (root i) 0 && every_same m (λ i. parent_keeps ps (suc i)) (λ i. ltb (word b (6 * (1 + i))) (1 + i)) lower i)
      ∙ ap (λ x. eqb (word b 0) 0 && x) (sym (every_from_range m 1 (λ j. ltb (word b (6 * j)) j)))

  pub root_keeps : word b 0 ≡ 0 → list_all (λ j. ltb (word b (6 * j)) j) (range_with_len 1 m) ≡ parents_keep (parents_at g b)
  root_keeps e = let t = eq-eqb (word b 0) 0 e in sym (parents_tested ∙ ap (λ x. x && list_all (λ j. ltb (word b (6 * j)) j) (range_with_len 1 m)) t)

  pub root_fails : (word b 0 ≡ 0 → ⊥) → eqb (word b 0) 0 ≡ parents_keep (parents_at g b)
  root_fails ne =
      let f = ne_eqb (word b 0) 0 ne in
      f ∙ sym (parents_tested ∙ ap (λ x. x && list_all (λ j. ltb (word b (6 * j)) j) (range_with_len 1 m)) f)

-- ---- tables

-- the caps of a table are low
pub table_low : {k : ℕ} {b : List ℕ} → TableOf k b → (X : ℕ) → X < 2 ^ k → table_cap b X ≤ top_cap
table_low {k} {b} t X l = let n = length_longs b in let w = t.whole in at_most_at top_cap (longs b) t.low X (omega arith)
