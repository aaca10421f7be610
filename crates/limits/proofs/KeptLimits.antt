-- What a limit that keeps the rules says of its bytes, and that it gives the empty set cap 0.
use Rattle.std.proofs.Common.{◌≡◌, ℕ, zero, suc, ◌^◌, ◌<◌, ◌≤◌, true, List, length, get_or, Some, sym, refl, ap, ◌∙◌, arith}
use denote.Ref.{Bor}
use Rattle.std.proofs.lemmas.Bool.{eqb-true, leb-true}
use Rattle.polymatroid.specs.Side.{load}
use Rattle.polymatroid.specs.Tables.{broken}
use Rattle.polymatroid.specs.Kinds.{size, firsts, graded, grouped, Ordered}
use Rattle.polymatroid.proofs.Codes.{has_none}
use Rattle.polymatroid.proofs.Tables.{named}
use Rattle.polymatroid.proofs.Groups.{groups_keep}
use Rattle.floor.specs.Numbers.{top_cap}
use Rattle.plantformat.specs.Numbers.{top_lane, most_groups}
use Rattle.plantformat.specs.Records.{table, groups, grades, grouping, cap_by}
use Rattle.plantformat.specs.Rules.{limit_keeps, all_at_most, all_below, parents_keep}
use Rattle.plantformat.specs.Judge.{longs, parents_at, bounds_at, members_at}
use Rattle.limits.specs.declared.Limit.{Limit}
use Rattle.limits.specs.declared.Limit.TheVariants.{Table, Groups, Grades}
use Rattle.limits.specs.Told.{told, positions}
use Rattle.limits.specs.Checks.{GroupsOf}
use Rattle.limits.proofs.Checked.{length_parents, length_members, parents_keep_at}

-- a set that is not empty has a position
some_position : (k X : ℕ) → X < 2 ^ k → (X ≡ 0 → ⊥) → 1 ≤ k
some_position zero X l ne = absurd (ne (omega arith))
some_position (suc k) X l ne = omega arith

module _ (k s : ℕ) (b : List ℕ) where
  pub table_kept : limit_keeps k (table s (longs b)) ≡ true → (length (longs b) ≡ 2 ^ k) × (broken k (λ X. get_or (longs b) X 0) ≡ 0)
  unfolding limit_keeps
  table_kept e = (eqb-true (length (longs b)) (2 ^ k) (grind arith), eqb-true (broken k (λ X. get_or (longs b) X 0)) 0 (grind arith))

  pub grades_kept : limit_keeps k (grades s (longs b)) ≡ true → (length (longs b) ≡ k) × (all_at_most top_lane (longs b) ≡ true)
  unfolding limit_keeps
  grades_kept e = (eqb-true (length (longs b)) k (grind arith), grind arith)

-- ---- groups

-- the parts of the rule, over any lists
module _ (k s : ℕ) (ps bs ms : List ℕ) (e : limit_keeps k (groups s ps bs ms) ≡ true) where
  some_groups : 1 ≤ length ps
  unfolding limit_keeps
  some_groups = leb-true 1 (length ps) (grind arith)

  few_groups : length ps ≤ most_groups
  unfolding limit_keeps
  few_groups = leb-true (length ps) most_groups (grind arith)

  all_positions : length ms ≡ k
  unfolding limit_keeps
  all_positions = eqb-true (length ms) k (grind arith)

  parents_kept : parents_keep ps ≡ true
  unfolding limit_keeps
  parents_kept = grind arith

  bounds_kept : all_at_most top_cap bs ≡ true
  unfolding limit_keeps
  bounds_kept = grind arith

  members_kept : all_below (length ps) ms ≡ true
  unfolding limit_keeps
  members_kept = grind arith

  -- the empty set
  pub groups_none : (w : ℕ → ℕ) → grouped (grouping ps bs ms w) k 0 ≡ 0
  groups_none w =
      let h = parents_keep_at ps parents_kept some_groups in
      let ordered : Ordered (grouping ps bs ms w) = record { some = some_groups; root = h.0; lower = h.1 } in
      (groups_keep (grouping ps bs ms w) k ordered).0.none

module _ (k s g : ℕ) (b : List ℕ)
    (e : limit_keeps k (groups s (parents_at g b) (bounds_at g b) (members_at (positions g b) g b)) ≡ true) where
  pub all_grouped : positions g b ≡ k
  all_grouped = sym (length_members b (positions g b) g) ∙ all_positions k s _ _ _ e

  groups_kept : 1 ≤ k → k ≤ 8 → GroupsOf g k b
  groups_kept pos narrow =
      let n = length_parents b g in
      let all = all_grouped in
      let some = some_groups k s (parents_at g b) (bounds_at g b) (members_at (positions g b) g b) e in
      let few = few_groups k s (parents_at g b) (bounds_at g b) (members_at (positions g b) g b) e in
      record {
        narrow = narrow;
        some = omega arith;
        few = omega arith;
        whole = omega arith;
        parents = parents_kept k s _ _ _ e;
        bounds = bounds_kept k s _ _ _ e;
        members =
            ap (λ n. all_below n (members_at k g b)) (sym n) ∙ ap (λ k'. all_below (length (parents_at g b)) (members_at k' g b)) (sym all)
            ∙ members_kept k s _ _ _ e;
      }

-- the same of a limit that holds groups, where there is a set that is not empty
pub groups_held : (k X : ℕ) (l : Limit) {s g : ℕ} {numbers : Bor (List ℕ)} → l ≡ Groups s g numbers → limit_keeps k (told l) ≡ true
    → X < 2 ^ k → (X ≡ 0 → ⊥) → k ≤ 8 → GroupsOf g k numbers.now
groups_held k X l {s} {g} {numbers} is keeps on some narrow =
    groups_kept k s g numbers.now (ap (λ l. limit_keeps k (told l)) (sym is) ∙ keeps) (some_position k X on some) narrow

-- ---- the empty set

size_empty : (k : ℕ) → size k 0 ≡ 0
unfolding size load
size_empty zero = refl
size_empty (suc k) = let ih = size_empty k in let h = has_none k in grind arith

pub none_is_0 : (k : ℕ) (w : ℕ → ℕ) (l : Limit) → limit_keeps k (told l) ≡ true → cap_by k w (Some (told l)) 0 ≡ 0
unfolding graded firsts
none_is_0 k w (Table side caps) e = ((named k (λ X. get_or (longs caps.now) X 0)).kept (table_kept k side caps.now e).1).none
none_is_0 k w (Groups side count numbers) e = groups_none k side _ _ _ e w
none_is_0 k w (Grades side steps) e = ap (firsts (λ j. get_or (longs steps.now) j 0)) (size_empty k)
