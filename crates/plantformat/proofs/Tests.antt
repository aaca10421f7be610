-- The tests of the rules decide them: what passes keeps the rules, and what keeps the rules passes.
use Rattle.std.proofs.Common.{◌≡◌, ℕ, zero, suc, ◌-◌, ◌*◌, ◌^◌, ◌<◌, ◌≤◌, Bool, true, cond, ◌&&◌, eqb, ltb, leb, List, [], ◌∷◌, length, get_or, refl, arith}
use Rattle.std.proofs.lemmas.Bool.Decides.{nat_tests}
use Rattle.std.proofs.lemmas.Bool.{and_parts, and_from, eqb-true, leb-true, ltb-true, eq-eqb, le-leb, lt-ltb}
use Rattle.polymatroid.specs.Tables.{broken}
use Rattle.polymatroid.proofs.Tables.{every_at, every_from, named}
use Rattle.floor.specs.Numbers.{most_lanes, most_on_side, top_cap}
use Rattle.floor.specs.Floor.{width}
use Rattle.plantformat.specs.Numbers.{top_lane}
use Rattle.plantformat.specs.declared.Head.{Head}
use Rattle.plantformat.specs.declared.Lane.{Lane}
use Rattle.plantformat.specs.Records.{Limit, table, groups, grades, side_of, lane, floor_of}
use Rattle.plantformat.proofs.Limits.{one_each_apart, one_each_from}
use Rattle.plantformat.specs.Rules.{HeadRules, LaneRules, TableRules, GroupsRules, GradesRules, LimitRules, limit, Rules, all_of, head_keeps, lane_ranged, lane_leads, lane_keeps, narrow, parents_keep, all_below, all_at_most, steps_fall, limit_keeps, one_each, keeps}

-- ---- lists

pub all_of_at : {A : Type 0} (t : A → Bool) (xs : List A) (d : A) → all_of t xs ≡ true → (i : ℕ) → i < length xs → t (get_or xs i d) ≡ true
all_of_at t [] d e i l = absurd (omega arith)
all_of_at t (x ∷ xs) d e zero l = (and_parts (t x) (all_of t xs) e).0
all_of_at t (x ∷ xs) d e (suc i) l = all_of_at t xs d (and_parts (t x) (all_of t xs) e).1 i (omega arith)

pub all_of_from : {A : Type 0} (t : A → Bool) (xs : List A) (d : A) → ((i : ℕ) → i < length xs → t (get_or xs i d) ≡ true) → all_of t xs ≡ true
all_of_from t [] d h = refl
all_of_from t (x ∷ xs) d h = and_from (t x) (all_of t xs) (h 0 (omega arith)) (all_of_from t xs d (λ i l. h (suc i) (omega arith)))

pub all_below_at : (top : ℕ) (xs : List ℕ) → all_below top xs ≡ true → (i : ℕ) → i < length xs → get_or xs i 0 < top
unfolding all_below
all_below_at top xs e i l = ltb-true (get_or xs i 0) top (all_of_at (λ x. ltb x top) xs 0 e i l)

pub all_below_from : (top : ℕ) (xs : List ℕ) → ((i : ℕ) → i < length xs → get_or xs i 0 < top) → all_below top xs ≡ true
unfolding all_below
all_below_from top xs h = all_of_from (λ x. ltb x top) xs 0 (λ i l. lt-ltb (get_or xs i 0) top (h i l))

pub all_at_most_at : (top : ℕ) (xs : List ℕ) → all_at_most top xs ≡ true → (i : ℕ) → i < length xs → get_or xs i 0 ≤ top
unfolding all_at_most
all_at_most_at top xs e i l = leb-true (get_or xs i 0) top (all_of_at (λ x. leb x top) xs 0 e i l)

pub all_at_most_from : (top : ℕ) (xs : List ℕ) → ((i : ℕ) → i < length xs → get_or xs i 0 ≤ top) → all_at_most top xs ≡ true
unfolding all_at_most
all_at_most_from top xs h = all_of_from (λ x. leb x top) xs 0 (λ i l. le-leb (get_or xs i 0) top (h i l))

-- ---- the head and the lanes

pub head_keeps_rules : (h : Head) → head_keeps h ≡ true → HeadRules h
unfolding head_keeps
head_keeps_rules h e = record {
  two_stations = grind (arith, nat_tests);
  few_stations = grind (arith, nat_tests);
  stock_on = grind (arith, nat_tests);
  despatch_on = grind (arith, nat_tests);
  poles_differ = λ q. grind (arith, nat_tests);
}

pub head_rules_keep : (h : Head) → HeadRules h → head_keeps h ≡ true
unfolding head_keeps
head_rules_keep h r =
    let a = r.two_stations in
    let b = r.few_stations in
    let c = r.stock_on in
    let d = r.despatch_on in
    let f = r.poles_differ in
    grind (arith, nat_tests)

pub lane_keeps_rules : (h : Head) (l : Lane) → lane_keeps h l ≡ true → LaneRules h l
unfolding lane_keeps lane_ranged lane_leads
lane_keeps_rules h l e = record {
  from_on = grind (arith, nat_tests);
  to_on = grind (arith, nat_tests);
  own_low = grind (arith, nat_tests);
  ends_differ = λ q. grind (arith, nat_tests);
  not_into_stock = λ q. grind (arith, nat_tests);
  not_out_of_despatch = λ q. grind (arith, nat_tests);
}

pub lane_rules_keep : (h : Head) (l : Lane) → LaneRules h l → lane_keeps h l ≡ true
unfolding lane_keeps lane_ranged lane_leads
lane_rules_keep h l r =
    let a = r.from_on in
    let b = r.to_on in
    let c = r.own_low in
    let d = r.ends_differ in
    let f = r.not_into_stock in
    let g = r.not_out_of_despatch in
    grind (arith, nat_tests)

pub lanes_keep_rules : (h : Head) (ls : List Lane) → all_of (lane_keeps h) ls ≡ true → (e : ℕ) → e < length ls → LaneRules h (lane ls e)
lanes_keep_rules h ls a e l = lane_keeps_rules h (lane ls e) (all_of_at (lane_keeps h) ls (lane [] 0) a e l)

pub lanes_rules_keep : (h : Head) (ls : List Lane) → ((e : ℕ) → e < length ls → LaneRules h (lane ls e)) → all_of (lane_keeps h) ls ≡ true
lanes_rules_keep h ls r = all_of_from (lane_keeps h) ls (lane [] 0) (λ e l. lane_rules_keep h (lane ls e) (r e l))

-- ---- the sides

pub narrow_at : (h : Head) (ls : List Lane) → narrow h ls ≡ true → (s : ℕ) → s < 2 * h.stations → width (floor_of h ls) s ≤ most_on_side
unfolding narrow
narrow_at h ls e s l =
    leb-true (width (floor_of h ls) s) most_on_side
    (every_at (2 * h.stations) (λ s. leb (width (floor_of h ls) s) most_on_side) e s l)

pub narrow_from : (h : Head) (ls : List Lane) → ((s : ℕ) → s < 2 * h.stations → width (floor_of h ls) s ≤ most_on_side) → narrow h ls ≡ true
unfolding narrow
narrow_from h ls r =
    every_from (2 * h.stations) (λ s. leb (width (floor_of h ls) s) most_on_side)
    (λ s l. le-leb (width (floor_of h ls) s) most_on_side (r s l))

-- ---- the limits

module _ (k : ℕ) where
  pub table_keeps_rules : (s : ℕ) (caps : List ℕ) → limit_keeps k (table s caps) ≡ true → TableRules k caps
  unfolding limit_keeps
  table_keeps_rules s caps e =
      let a = and_parts (eqb (length caps) (2 ^ k)) (all_at_most top_cap caps && eqb (broken k (λ X. get_or caps X 0)) 0) e in
      let b = and_parts (all_at_most top_cap caps) (eqb (broken k (λ X. get_or caps X 0)) 0) a.1 in
      record {
        all_sets = eqb-true (length caps) (2 ^ k) a.0;
        low = all_at_most_at top_cap caps b.0;
        laws = (named k (λ X. get_or caps X 0)).kept (eqb-true (broken k (λ X. get_or caps X 0)) 0 b.1);
      }

  pub table_rules_keep : (s : ℕ) (caps : List ℕ) → TableRules k caps → limit_keeps k (table s caps) ≡ true
  unfolding limit_keeps
  table_rules_keep s caps r =
      and_from (eqb (length caps) (2 ^ k)) (all_at_most top_cap caps && eqb (broken k (λ X. get_or caps X 0)) 0)
      (eq-eqb (length caps) (2 ^ k) r.all_sets)
      (and_from (all_at_most top_cap caps) (eqb (broken k (λ X. get_or caps X 0)) 0)
      (all_at_most_from top_cap caps r.low)
      (eq-eqb (broken k (λ X. get_or caps X 0)) 0 ((named k (λ X. get_or caps X 0)).passes r.laws)))

  pub steps_fall_at : (steps : List ℕ) → steps_fall k steps ≡ true → (i : ℕ) → suc i < k → get_or steps (suc i) 0 ≤ get_or steps i 0
  unfolding steps_fall
  steps_fall_at steps e i l =
      leb-true (get_or steps (suc i) 0) (get_or steps i 0)
      (every_at (k - 1) (λ i. leb (get_or steps (suc i) 0) (get_or steps i 0)) e i (omega arith))

  pub steps_fall_from : (steps : List ℕ) → ((i : ℕ) → suc i < k → get_or steps (suc i) 0 ≤ get_or steps i 0) → steps_fall k steps ≡ true
  unfolding steps_fall
  steps_fall_from steps f =
      every_from (k - 1) (λ i. leb (get_or steps (suc i) 0) (get_or steps i 0))
      (λ i l. le-leb (get_or steps (suc i) 0) (get_or steps i 0) (f i (omega arith)))

  pub grades_keep_rules : (s : ℕ) (steps : List ℕ) → limit_keeps k (grades s steps) ≡ true → GradesRules k steps
  unfolding limit_keeps
  grades_keep_rules s steps e =
      let a = and_parts (eqb (length steps) k) (all_at_most top_lane steps && steps_fall k steps) e in
      let b = and_parts (all_at_most top_lane steps) (steps_fall k steps) a.1 in
      record {
        all_lanes = eqb-true (length steps) k a.0;
        low = all_at_most_at top_lane steps b.0;
        falls = steps_fall_at steps b.1;
      }

  pub grades_rules_keep : (s : ℕ) (steps : List ℕ) → GradesRules k steps → limit_keeps k (grades s steps) ≡ true
  unfolding limit_keeps
  grades_rules_keep s steps r =
      and_from (eqb (length steps) k) (all_at_most top_lane steps && steps_fall k steps) (eq-eqb (length steps) k r.all_lanes)
      (and_from (all_at_most top_lane steps) (steps_fall k steps)
      (all_at_most_from top_lane steps r.low) (steps_fall_from steps r.falls))

pub parents_keep_root : (parents : List ℕ) → parents_keep parents ≡ true → 1 ≤ length parents → get_or parents 0 0 ≡ 0
unfolding parents_keep
parents_keep_root parents e l =
    eqb-true (get_or parents 0 0) 0
    (every_at (length parents) (λ j. cond (eqb j 0) (eqb (get_or parents j 0) 0) (ltb (get_or parents j 0) j)) e 0 l)

pub parents_keep_lower : (parents : List ℕ) → parents_keep parents ≡ true → (j : ℕ) → 0 < j → j < length parents → get_or parents j 0 < j
unfolding parents_keep
parents_keep_lower parents e j o l =
    let a = every_at (length parents) (λ j. cond (eqb j 0) (eqb (get_or parents j 0) 0) (ltb (get_or parents j 0) j)) e j l in
    grind (arith, nat_tests)

pub parents_keep_from : (parents : List ℕ) → get_or parents 0 0 ≡ 0 → ((j : ℕ) → 0 < j → j < length parents → get_or parents j 0 < j)
    → parents_keep parents ≡ true
unfolding parents_keep
parents_keep_from parents r f =
    every_from (length parents) (λ j. cond (eqb j 0) (eqb (get_or parents j 0) 0) (ltb (get_or parents j 0) j)) at
  where
    at : (j : ℕ) → j < length parents → cond (eqb j 0) (eqb (get_or parents j 0) 0) (ltb (get_or parents j 0) j) ≡ true
    at zero l = eq-eqb (get_or parents 0 0) 0 r
    at (suc j) l = let a = f (suc j) (omega arith) l in grind (arith, nat_tests)

module _ (k : ℕ) (parents bounds members : List ℕ) where
  pub groups_keep_rules : (s : ℕ) → limit_keeps k (groups s parents bounds members) ≡ true → GroupsRules k parents bounds members
  unfolding limit_keeps
  groups_keep_rules s e =
      let some : 1 ≤ length parents = grind (arith, nat_tests) in
      let p : parents_keep parents ≡ true = grind arith in
      let b : all_at_most top_cap bounds ≡ true = grind arith in
      let m : all_below (length parents) members ≡ true = grind arith in
      record {
        some = some;
        few = grind (arith, nat_tests);
        bounds_too = grind (arith, nat_tests);
        all_positions = grind (arith, nat_tests);
        root = parents_keep_root parents p some;
        lower = parents_keep_lower parents p;
        low = all_at_most_at top_cap bounds b;
        grouped = all_below_at (length parents) members m;
      }

  pub groups_rules_keep : (s : ℕ) → GroupsRules k parents bounds members → limit_keeps k (groups s parents bounds members) ≡ true
  unfolding limit_keeps
  groups_rules_keep s r =
      let p = parents_keep_from parents r.root r.lower in
      let b = all_at_most_from top_cap bounds r.low in
      let m = all_below_from (length parents) members r.grouped in
      let c = r.some in
      let d = r.few in
      let f = r.bounds_too in
      let g = r.all_positions in
      grind (arith, nat_tests)

pub limit_keeps_rules : (k : ℕ) (l : Limit) → limit_keeps k l ≡ true → LimitRules k l
limit_keeps_rules k (table s caps) e = table_keeps_rules k s caps e
limit_keeps_rules k (groups s parents bounds members) e = groups_keep_rules k parents bounds members s e
limit_keeps_rules k (grades s steps) e = grades_keep_rules k s steps e

pub limit_rules_keep : (k : ℕ) (l : Limit) → LimitRules k l → limit_keeps k l ≡ true
limit_rules_keep k (table s caps) r = table_rules_keep k s caps r
limit_rules_keep k (groups s parents bounds members) r = groups_rules_keep k parents bounds members s r
limit_rules_keep k (grades s steps) r = grades_rules_keep k s steps r

-- ---- the whole

pub limits_keep_rules : (h : Head) (ls : List Lane) (k : Limit)
    → (ltb (side_of k) (2 * h.stations) && limit_keeps (width (floor_of h ls) (side_of k)) k) ≡ true
    → (side_of k < 2 * h.stations) × LimitRules (width (floor_of h ls) (side_of k)) k
limits_keep_rules h ls k e =
    let a = and_parts (ltb (side_of k) (2 * h.stations)) (limit_keeps (width (floor_of h ls) (side_of k)) k) e in
    (ltb-true (side_of k) (2 * h.stations) a.0, limit_keeps_rules (width (floor_of h ls) (side_of k)) k a.1)

pub limits_rules_keep : (h : Head) (ls : List Lane) (k : Limit)
    → side_of k < 2 * h.stations → LimitRules (width (floor_of h ls) (side_of k)) k
    → (ltb (side_of k) (2 * h.stations) && limit_keeps (width (floor_of h ls) (side_of k)) k) ≡ true
limits_rules_keep h ls k s r =
    and_from (ltb (side_of k) (2 * h.stations)) (limit_keeps (width (floor_of h ls) (side_of k)) k)
    (lt-ltb (side_of k) (2 * h.stations) s) (limit_rules_keep (width (floor_of h ls) (side_of k)) k r)

module _ (h : Head) (ls : List Lane) (ks : List Limit) where
  fits : Limit → Bool
  fits k = ltb (side_of k) (2 * h.stations) && limit_keeps (width (floor_of h ls) (side_of k)) k

  pub keeps_rules : keeps h ls ks ≡ true → Rules h ls ks
  unfolding keeps fits
  keeps_rules e =
      let a = and_parts (head_keeps h) (leb (length ls) most_lanes && (all_of (lane_keeps h) ls && (narrow h ls && (all_of fits ks && one_each ks)))) e in
      let b = and_parts (leb (length ls) most_lanes) (all_of (lane_keeps h) ls && (narrow h ls && (all_of fits ks && one_each ks))) a.1 in
      let c = and_parts (all_of (lane_keeps h) ls) (narrow h ls && (all_of fits ks && one_each ks)) b.1 in
      let d = and_parts (narrow h ls) (all_of fits ks && one_each ks) c.1 in
      let f = and_parts (all_of fits ks) (one_each ks) d.1 in
      record {
        head = head_keeps_rules h a.0;
        few_lanes = leb-true (length ls) most_lanes b.0;
        lanes = lanes_keep_rules h ls c.0;
        narrow = narrow_at h ls d.0;
        on_floor = λ j l. (limits_keep_rules h ls (limit ks j) (all_of_at fits ks (table 0 []) f.0 j l)).0;
        limits = λ j l. (limits_keep_rules h ls (limit ks j) (all_of_at fits ks (table 0 []) f.0 j l)).1;
        one_each = one_each_apart ks f.1;
      }

  pub rules_keep : Rules h ls ks → keeps h ls ks ≡ true
  unfolding keeps fits
  rules_keep r =
      and_from (head_keeps h) (leb (length ls) most_lanes && (all_of (lane_keeps h) ls && (narrow h ls && (all_of fits ks && one_each ks))))
      (head_rules_keep h r.head)
      (and_from (leb (length ls) most_lanes) (all_of (lane_keeps h) ls && (narrow h ls && (all_of fits ks && one_each ks)))
      (le-leb (length ls) most_lanes r.few_lanes)
      (and_from (all_of (lane_keeps h) ls) (narrow h ls && (all_of fits ks && one_each ks)) (lanes_rules_keep h ls r.lanes)
      (and_from (narrow h ls) (all_of fits ks && one_each ks) (narrow_from h ls r.narrow)
      (and_from (all_of fits ks) (one_each ks)
      (all_of_from fits ks (table 0 []) (λ j l. limits_rules_keep h ls (limit ks j) (r.on_floor j l) (r.limits j l)))
      (one_each_from ks r.one_each)))))
