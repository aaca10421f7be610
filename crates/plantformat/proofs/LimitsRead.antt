-- A limit is read just where the body is the limit's and the limit keeps its rules.
use Rattle.std.proofs.Common.{◌≡◌, ℕ, ◌+◌, ◌*◌, ◌^◌, ◌≤◌, true, not, ◌&&◌, ◌||◌, eqb, ltb, leb, List, length, get_or, drop, Ok, Result, sym, refl, ap, ◌∙◌, subst, arith}
use Rattle.std.proofs.lemmas.Bool.{ltb-false, le-ltb, eqb-true, eq-eqb, leb-true, le-leb, and_parts, and_from, or_parts, or_from}
use Rattle.std.proofs.lemmas.Bool.Decides.{nat_tests}
use Rattle.std.proofs.lemmas.List.{length-drop}
use Rattle.polymatroid.specs.Tables.{rises, bows, broken}
use Rattle.floor.specs.Numbers.{top_cap}
use Rattle.plantformat.specs.Numbers.{top_lane, most_groups}
use Rattle.plantformat.specs.declared.Kind.{Kind}
use Rattle.plantformat.specs.declared.Kind.TheVariants as kind
use Rattle.plant.specs.declared.refusals.Law.TheVariants.{Empty, Grows, Bends}
use Rattle.plantformat.specs.declared.FloorFault.{FloorFault}
use Rattle.plantformat.specs.Bytes.{word, long}
use Rattle.plantformat.specs.Records.{Limit, table, groups, grades, side_of}
use Rattle.plantformat.specs.Rules.{parents_keep, all_below, all_at_most, steps_fall, limit_keeps}
use Rattle.plantformat.specs.Encoding.{limit_kind, LimitBody, TableBody, GroupsBody, GradesBody}
use Rattle.plantformat.specs.Judge.{unless, size_fault, range_fault, law_fault, longs, table_read, groups_read, grades_read, parents_at, bounds_at, members_at}
use Rattle.plantformat.proofs.Verdicts.{unless_ok, unless_not_ok, unless_passed, unless_not_passed, ok_same}
use Rattle.plantformat.proofs.Bodies.{length_listed, longs_count, longs_at, longs_are, groups_body, parents_are, bounds_are, members_are}

-- m is a limit of a kind for side s, the body b is its body, and it keeps the rules of a side of k lanes
pub record LimitRead (n : Kind) (k s : ℕ) (b : List ℕ) (m : Limit) : Type 0 where
  pub kind : n ≡ limit_kind m
  pub side : side_of m ≡ s
  pub body : LimitBody m b
  pub keeps : limit_keeps k m ≡ true

unbroken : (k : ℕ) (cap : ℕ → ℕ) → cap 0 ≡ 0 → rises k cap ≡ true → bows k cap ≡ true → broken k cap ≡ 0
unfolding broken
unbroken k cap a b c = grind (arith, nat_tests)

broken_not : (k : ℕ) (cap : ℕ → ℕ) → broken k cap ≡ 0 → (cap 0 ≡ 0) × (rises k cap ≡ true) × (bows k cap ≡ true)
unfolding broken
broken_not k cap e = (grind (arith, nat_tests), grind (arith, nat_tests), grind (arith, nat_tests))

-- ---- tables

-- the tests of a table with the numbers xs, in n bytes
table_tests : ℕ → ℕ → ℕ → ℕ → List ℕ → Result Limit FloorFault
table_tests k at s n xs =
    unless (not (eqb n (4 * 2 ^ k))) (size_fault at)
    (unless (not (all_at_most top_cap xs)) (range_fault at)
    (unless (not (eqb (get_or xs 0 0) 0)) (law_fault at Empty)
    (unless (not (rises k (λ X. get_or xs X 0))) (law_fault at Grows)
    (unless (not (bows k (λ X. get_or xs X 0))) (law_fault at Bends) (Ok (table s xs))))))

pub table_ok : (k at s : ℕ) (b : List ℕ) {m : Limit} → 2 ≤ length b → word b 0 ≡ s → table_read k at s (drop 2 b) ≡ Ok m
    → LimitRead kind.Table k s b m
unfolding limit_keeps
table_ok k at s b {m} low es e =
    let p₀ = unless_not_ok (eqb (length (drop 2 b)) (4 * 2 ^ k)) _ _ e in
    let p₁ = unless_not_ok (all_at_most top_cap (longs (drop 2 b))) _ _ p₀.1 in
    let p₂ = unless_not_ok (eqb (get_or (longs (drop 2 b)) 0 0) 0) _ _ p₁.1 in
    let p₃ = unless_not_ok (rises k (λ X. get_or (longs (drop 2 b)) X 0)) _ _ p₂.1 in
    let p₄ = unless_not_ok (bows k (λ X. get_or (longs (drop 2 b)) X 0)) _ _ p₃.1 in
    let l = length-drop 2 b in
    let n = eqb-true _ _ p₀.0 in
    let size : length b ≡ 2 + 4 * 2 ^ k = omega arith in
    let c = longs_count b (2 ^ k) size in
    let r : LimitRead kind.Table k s b (table s (longs (drop 2 b))) =
    record {
      kind = refl;
      side = refl;
      body = record { size = omega arith; side = es; caps_at = λ X h. longs_at b (2 ^ k) size X (omega arith) };
      keeps = and_from _ _ (eq-eqb _ _ c) (and_from _ _ p₁.0 (eq-eqb _ _ (unbroken k (λ X. get_or (longs (drop 2 b)) X 0)
          (eqb-true _ _ p₂.0) p₃.0 p₄.0)));
    } in
    subst (LimitRead kind.Table k s b) (ok_same {E = FloorFault} p₄.1) r

pub table_at : (k at s : ℕ) (caps b : List ℕ) → TableBody s caps b → limit_keeps k (table s caps) ≡ true
    → table_read k at s (drop 2 b) ≡ Ok (table s caps)
unfolding limit_keeps table_tests
table_at k at s caps b r e =
    let p₀ = and_parts _ _ e in
    let p₁ = and_parts _ _ p₀.1 in
    let p₂ = broken_not k (λ X. get_or caps X 0) (eqb-true _ _ p₁.1) in
    let l = length-drop 2 b in
    let n = eqb-true (length caps) (2 ^ k) p₀.0 in
    let h = r.size in
    let same : longs (drop 2 b) ≡ caps = longs_are b (length caps) r.size caps refl r.caps_at in
    ap (table_tests k at s (length (drop 2 b))) same
    ∙ unless_not_passed _ _ _ (eq-eqb (length (drop 2 b)) (4 * 2 ^ k) (omega arith))
    ∙ unless_not_passed _ _ _ p₁.0
    ∙ unless_not_passed _ _ _ (eq-eqb _ _ p₂.0)
    ∙ unless_not_passed _ _ _ p₂.1
    ∙ unless_not_passed _ _ _ p₂.2

-- ---- groups

-- the tests of g groups with these numbers, in n bytes
groups_tests : ℕ → ℕ → ℕ → ℕ → ℕ → List ℕ → List ℕ → List ℕ → Result Limit FloorFault
groups_tests k at s g n ps qs ms =
    unless (ltb g 1 || ltb most_groups g) (range_fault at)
    (unless (not (eqb n (6 * g + 2 * k))) (size_fault at)
    (unless (not (parents_keep ps && (all_at_most top_cap qs && all_below g ms))) (range_fault at) (Ok (groups s ps qs ms))))

pub groups_ok : (k at s g : ℕ) (b : List ℕ) {m : Limit} → 4 ≤ length b → word b 0 ≡ s → word b 2 ≡ g
    → groups_read k at s g (drop 4 b) ≡ Ok m → LimitRead kind.Groups k s b m
unfolding limit_keeps
groups_ok k at s g b {m} low es eg e =
    let ps : List ℕ = parents_at g (drop 4 b) in
    let qs : List ℕ = bounds_at g (drop 4 b) in
    let ms : List ℕ = members_at k g (drop 4 b) in
    let p₀ = unless_ok (ltb g 1 || ltb most_groups g) _ _ e in
    let p₁ = unless_not_ok (eqb (length (drop 4 b)) (6 * g + 2 * k)) _ _ p₀.1 in
    let p₂ = unless_not_ok (parents_keep ps && (all_at_most top_cap qs && all_below g ms)) _ _ p₁.1 in
    let g₁ = or_parts (ltb g 1) (ltb most_groups g) p₀.0 in
    let g₂ = ltb-false g 1 g₁.0 in
    let g₃ = ltb-false most_groups g g₁.1 in
    let n = eqb-true (length (drop 4 b)) (6 * g + 2 * k) p₁.0 in
    let l = length-drop 4 b in
    let size : length b ≡ 4 + 6 * g + 2 * k = omega arith in
    let a₁ : length ps ≡ g = length_listed g (λ j. word (drop 4 b) (6 * j)) in
    let a₂ : length qs ≡ g = length_listed g (λ j. long (drop 4 b) (6 * j + 2)) in
    let a₃ : length ms ≡ k = length_listed k (λ p. word (drop 4 b) (6 * g + 2 * p)) in
    let r : LimitRead kind.Groups k s b (groups s ps qs ms) =
    record {
      kind = refl;
      side = refl;
      body = groups_body b g k s size es eg;
      keeps = and_from _ _ (le-leb 1 (length ps) (omega arith)) (and_from _ _ (le-leb (length ps) most_groups (omega arith))
          (and_from _ _ (eq-eqb (length qs) (length ps) (omega arith)) (and_from _ _ (eq-eqb (length ms) k a₃)
          (subst (λ j. (parents_keep ps && (all_at_most top_cap qs && all_below j ms)) ≡ true) (sym a₁) p₂.0))));
    } in
    subst (LimitRead kind.Groups k s b) (ok_same {E = FloorFault} p₂.1) r

pub groups_at : (k at s : ℕ) (ps qs ms b : List ℕ) → GroupsBody s ps qs ms b → limit_keeps k (groups s ps qs ms) ≡ true
    → groups_read k at s (length ps) (drop 4 b) ≡ Ok (groups s ps qs ms)
unfolding limit_keeps groups_tests
groups_at k at s ps qs ms b r e =
    let p₀ = and_parts (leb 1 (length ps)) _ e in
    let p₁ = and_parts (leb (length ps) most_groups) _ p₀.1 in
    let p₂ = and_parts (eqb (length qs) (length ps)) _ p₁.1 in
    let p₃ = and_parts (eqb (length ms) k) _ p₂.1 in
    let some = leb-true 1 (length ps) p₀.0 in
    let few = leb-true (length ps) most_groups p₁.0 in
    let n = eqb-true (length ms) k p₃.0 in
    let l = length-drop 4 b in
    let h = r.size in
    let a₁ = parents_are s ps qs ms b r in
    let a₂ = bounds_are s ps qs ms b r (eqb-true (length qs) (length ps) p₂.0) in
    let a₃ : members_at k (length ps) (drop 4 b) ≡ ms = ap (λ x. members_at x (length ps) (drop 4 b)) (sym n) ∙ members_are s ps qs ms b r in
    (λ i. groups_tests k at s (length ps) (length (drop 4 b)) (a₁ i) (a₂ i) (a₃ i))
    ∙ unless_passed _ _ _ (or_from _ _ (le-ltb (length ps) 1 some) (le-ltb most_groups (length ps) few))
    ∙ unless_not_passed _ _ _ (eq-eqb (length (drop 4 b)) (6 * length ps + 2 * k) (omega arith))
    ∙ unless_not_passed _ _ _ p₃.1

-- ---- grades

-- the tests of grades with the numbers xs, in n bytes
grades_tests : ℕ → ℕ → ℕ → ℕ → List ℕ → Result Limit FloorFault
grades_tests k at s n xs =
    unless (not (eqb n (4 * k))) (size_fault at)
    (unless (not (all_at_most top_lane xs)) (range_fault at) (unless (not (steps_fall k xs)) (law_fault at Bends) (Ok (grades s xs))))

pub grades_ok : (k at s : ℕ) (b : List ℕ) {m : Limit} → 2 ≤ length b → word b 0 ≡ s → grades_read k at s (drop 2 b) ≡ Ok m
    → LimitRead kind.Grades k s b m
unfolding limit_keeps
grades_ok k at s b {m} low es e =
    let p₀ = unless_not_ok (eqb (length (drop 2 b)) (4 * k)) _ _ e in
    let p₁ = unless_not_ok (all_at_most top_lane (longs (drop 2 b))) _ _ p₀.1 in
    let p₂ = unless_not_ok (steps_fall k (longs (drop 2 b))) _ _ p₁.1 in
    let l = length-drop 2 b in
    let n = eqb-true (length (drop 2 b)) (4 * k) p₀.0 in
    let size : length b ≡ 2 + 4 * k = omega arith in
    let c = longs_count b k size in
    let r : LimitRead kind.Grades k s b (grades s (longs (drop 2 b))) =
    record {
      kind = refl;
      side = refl;
      body = record { size = omega arith; side = es; step_at = λ j h. longs_at b k size j (omega arith) };
      keeps = and_from _ _ (eq-eqb _ _ c) (and_from _ _ p₁.0 p₂.0);
    } in
    subst (LimitRead kind.Grades k s b) (ok_same {E = FloorFault} p₂.1) r

pub grades_at : (k at s : ℕ) (steps b : List ℕ) → GradesBody s steps b → limit_keeps k (grades s steps) ≡ true
    → grades_read k at s (drop 2 b) ≡ Ok (grades s steps)
unfolding limit_keeps grades_tests
grades_at k at s steps b r e =
    let p₀ = and_parts (eqb (length steps) k) _ e in
    let p₁ = and_parts (all_at_most top_lane steps) _ p₀.1 in
    let n = eqb-true (length steps) k p₀.0 in
    let l = length-drop 2 b in
    let h = r.size in
    let same : longs (drop 2 b) ≡ steps = longs_are b (length steps) r.size steps refl r.step_at in
    ap (grades_tests k at s (length (drop 2 b))) same
    ∙ unless_not_passed _ _ _ (eq-eqb (length (drop 2 b)) (4 * k) (omega arith))
    ∙ unless_not_passed _ _ _ p₁.0
    ∙ unless_not_passed _ _ _ p₁.1
