-- The sweep over groups from the highest down, one group at a time, over a list with what has reached each.
use Rattle.std.proofs.Common.{◌≡◌, ℕ, zero, suc, ◌+◌, ◌-◌, ◌*◌, ◌<◌, ◌≤◌, min, cond, eqb, List, length, get_or, set, sym, refl, ap, ◌∙◌, suc-mul, arith}
use Rattle.std.proofs.lemmas.Bool.Decides.{nat_tests}
use Rattle.polymatroid.specs.Kinds.{Groups, Ordered, own, grouped}
use Rattle.polymatroid.specs.More.{reached, swept}
use Rattle.polymatroid.proofs.More.{sweep_agrees}
use Rattle.floor.specs.Numbers.{top_cap}
use Rattle.plantformat.specs.Bytes.{word}
use Rattle.plantformat.specs.Judge.{parents_at, bounds_at}
use Rattle.limits.specs.Checks.{GroupsOf, groups_in}
use Rattle.limits.proofs.Checked.{length_parents, length_bounds, parents_is, parents_keep_at, at_most_at}
use Rattle.limits.proofs.CapSums.{added_at}

-- ---- the groups in the bytes

module _ {g k : ℕ} {b : List ℕ} (groups : GroupsOf g k b) where
  pub parent_lower : (j : ℕ) → 0 < j → j < g → word b (6 * j) < j
  parent_lower j p l =
      let n = length_parents b g in
      let some = groups.some in
      let h = (parents_keep_at (parents_at g b) groups.parents (omega arith)).1 j p (omega arith) in
      omega (arith, parents_is b g j l)

  pub bound_low : (j : ℕ) → j < g → get_or (bounds_at g b) j 0 ≤ top_cap
  bound_low j l = let n = length_bounds b g in at_most_at top_cap (bounds_at g b) groups.bounds j (omega arith)

  pub in_order : (ws : List ℕ) → Ordered (groups_in g b ws)
  in_order ws =
      let n = length_parents b g in
      let some = groups.some in
      let h = parents_keep_at (parents_at g b) groups.parents (omega arith) in
      record { some = omega arith; root = h.0; lower = h.1 }

-- ---- the sweep

module _ (G : Groups) (k X : ℕ) where
  pub reached_first : (i : ℕ) → reached G k X 0 i ≡ own G k i X
  unfolding reached
  reached_first i = refl

  -- a group passes what has reached it to its parent
  pub reached_more : (n i : ℕ)
      → reached G k X (suc n) i
      ≡ reached G k X n i + cond (eqb (G.parent (G.count - suc n)) i) (min (reached G k X n (G.count - suc n)) (G.bound (G.count - suc n))) 0
  unfolding reached
  reached_more n i = refl

  -- no group can be reached by more than its own and every bound
  pub reached_low : (t m : ℕ) → ((i : ℕ) → own G k i X ≤ t) → ((j : ℕ) → j < G.count → G.bound j ≤ m)
      → (n : ℕ) → n ≤ G.count → (i : ℕ) → reached G k X n i ≤ t + n * m
  unfolding reached
  reached_low t m own_low bound_low zero l i = omega (arith, own_low i)
  reached_low t m own_low bound_low (suc n) l i =
      let ih = reached_low t m own_low bound_low n (omega arith) i in
      let b = bound_low (G.count - suc n) (omega arith) in
      let more : suc n * m ≡ n * m + m = suc-mul n m in
      grind (arith, nat_tests)

  pub passed_up : (n j p v : ℕ) (xs : List ℕ) → ((i : ℕ) → i < 16 → get_or xs i 0 ≡ reached G k X n i)
      → G.count - suc n ≡ j → j < 16 → p < length xs → G.parent j ≡ p → v ≡ min (get_or xs j 0) (G.bound j)
      → (i : ℕ) → i < 16 → get_or (set xs p (get_or xs p 0 + v)) i 0 ≡ reached G k X (suc n) i
  passed_up n j p v xs so_far at l on parent passed i m =
      let here = added_at xs p v on i in
      let more = reached_more n i in
      let there : cond (eqb (G.parent (G.count - suc n)) i) (min (reached G k X n (G.count - suc n)) (G.bound (G.count - suc n))) 0 ≡ cond (eqb p i) v 0 =
      ap (λ c. cond (eqb (G.parent c) i) (min (reached G k X n c) (G.bound c)) 0) at
      ∙ ap (λ q. cond (eqb q i) (min (reached G k X n j) (G.bound j)) 0) parent
      ∙ ap (λ x. cond (eqb p i) x 0) (ap (λ y. min y (G.bound j)) (sym (so_far j l)) ∙ sym passed) in
      omega (arith, here, so_far i m, more, there)

  -- what the root lets through is the cap
  pub swept_is : Ordered G → (n v : ℕ) → n ≡ G.count - 1 → v ≡ min (reached G k X n 0) (G.bound 0) → v ≡ grouped G k X
  unfolding swept
  swept_is o n v e h = h ∙ ap (λ m. min (reached G k X m 0) (G.bound 0)) e ∙ sweep_agrees G k X o
