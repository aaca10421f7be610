-- The rules that the records of a plant file keep: first as facts, then as tests that compute.
use Rattle.std.specs.Prelude.{◌≡◌, ℕ, suc, ◌-◌, ◌*◌, ◌^◌, ◌<◌, ◌≤◌, Bool, true, cond, not, ◌&&◌, ltb, leb, List, [], ◌∷◌, length, get_or, is_some, ◌==◌, ◌≢◌, nat_le, nat_lt, slice_index, slice_index_or}
use Rattle.polymatroid.specs.Side.{Caps}
use Rattle.polymatroid.specs.Tables.{every, broken}
use Rattle.polymatroid.specs.Kinds.{Falls}
use Rattle.floor.specs.Numbers.{most_stations, most_lanes, most_on_side, top_cap}
use Rattle.floor.specs.Floor.{width}
use Rattle.plantformat.specs.Numbers.{top_lane, most_groups}
use Rattle.plantformat.specs.declared.Head.{Head}
use Rattle.plantformat.specs.declared.Lane.{Lane}
use Rattle.plantformat.specs.Records.{Limit, table, groups, grades, side_of, lane, floor_of, limit_of}

-- ---- the rules as facts

pub record HeadRules (h : Head) : Type 0 where
  pub two_stations : 2 ≤ h.stations
  pub few_stations : h.stations ≤ most_stations
  pub stock_on : h.stock < h.stations
  pub despatch_on : h.despatch < h.stations
  pub poles_differ : h.stock ≡ h.despatch → ⊥

pub record LaneRules (h : Head) (l : Lane) : Type 0 where
  pub from_on : l.from < h.stations
  pub to_on : l.to < h.stations
  pub own_low : l.own ≤ top_lane
  pub ends_differ : l.from ≡ l.to → ⊥
  pub not_into_stock : l.to ≡ h.stock → ⊥
  pub not_out_of_despatch : l.from ≡ h.despatch → ⊥

-- a table on a side of k lanes: a cap for each set, none too high, and the laws
pub record TableRules (k : ℕ) (caps : List ℕ) : Type 0 where
  pub all_sets : length caps ≡ 2 ^ k
  pub low : (X : ℕ) → X < length caps → slice_index caps X ≤ top_cap
  pub laws : Caps k (λ X. slice_index caps X)

-- groups on a side of k lanes: group 0 is its own parent, every other parent is a lower group, each position has a group
pub record GroupsRules (k : ℕ) (parents bounds members : List ℕ) : Type 0 where
  pub some : 1 ≤ length parents
  pub few : length parents ≤ most_groups
  pub bounds_too : length bounds ≡ length parents
  pub all_positions : length members ≡ k
  pub root : get_or parents 0 0 ≡ 0
  pub lower : (j : ℕ) → 0 < j → j < length parents → slice_index parents j < j
  pub low : (j : ℕ) → j < length bounds → slice_index bounds j ≤ top_cap
  pub grouped : (p : ℕ) → p < length members → slice_index members p < length parents

-- grades on a side of k lanes: one for each number of lanes, none too high, none above the one before
pub record GradesRules (k : ℕ) (steps : List ℕ) : Type 0 where
  pub all_lanes : length steps ≡ k
  pub low : (j : ℕ) → j < length steps → slice_index steps j ≤ top_lane
  pub falls : Falls (λ j. slice_index steps j) k

abbrev pub LimitRules : ℕ → Limit → Type 0
LimitRules k (table s caps) = TableRules k caps
LimitRules k (groups s parents bounds members) = GroupsRules k parents bounds members
LimitRules k (grades s steps) = GradesRules k steps

-- limit j of a list
abbrev pub limit : List Limit → ℕ → Limit
limit ks j = slice_index_or ks j (table 0 [])

-- the rules of a file: of its head, of each lane, of the floor that they make, and of each limit
pub record Rules (h : Head) (ls : List Lane) (ks : List Limit) : Type 0 where
  pub head : HeadRules h
  pub few_lanes : length ls ≤ most_lanes
  pub lanes : (e : ℕ) → e < length ls → LaneRules h (lane ls e)
  pub narrow : (s : ℕ) → s < 2 * h.stations → width (floor_of h ls) s ≤ most_on_side
  pub on_floor : (j : ℕ) → j < length ks → side_of (limit ks j) < 2 * h.stations
  pub limits : (j : ℕ) → j < length ks → LimitRules (width (floor_of h ls) (side_of (limit ks j))) (limit ks j)
  -- a side has one limit at most
  pub one_each : (i j : ℕ) → i < j → j < length ks → side_of (limit ks i) ≢ side_of (limit ks j)

-- ---- the rules as tests

-- every element passes
abbrev pub all_of : {A : Type 0} → (A → Bool) → List A → Bool
all_of t [] = true
all_of t (x ∷ xs) = t x && all_of t xs

unfoldable pub head_keeps : Head → Bool
head_keeps h =
    nat_le 2 h.stations && (nat_le h.stations most_stations
    && (nat_lt h.stock h.stations && (nat_lt h.despatch h.stations && not (h.stock == h.despatch))))

-- a lane's numbers are in their ranges
unfoldable pub lane_ranged : ℕ → Lane → Bool
lane_ranged n l = nat_lt l.from n && (nat_lt l.to n && nat_le l.own top_lane)

-- a lane has two different ends, and does not enter the stock or leave the despatch
unfoldable pub lane_leads : Head → Lane → Bool
lane_leads h l = not (l.from == l.to) && (not (l.to == h.stock) && not (l.from == h.despatch))

unfoldable pub lane_keeps : Head → Lane → Bool
lane_keeps h l = lane_ranged h.stations l && lane_leads h l

-- no side has too many lanes
unfoldable pub narrow : Head → List Lane → Bool
narrow h ls = every (2 * h.stations) (λ s. leb (width (floor_of h ls) s) most_on_side)

-- the first parent is 0, and every other is a lower group
unfoldable pub parents_keep : List ℕ → Bool
parents_keep parents = every (length parents) (λ j. cond (j == 0) (slice_index parents j == 0) (nat_lt (slice_index parents j) j))

unfoldable pub all_below : ℕ → List ℕ → Bool
all_below top xs = all_of (λ x. ltb x top) xs

unfoldable pub all_at_most : ℕ → List ℕ → Bool
all_at_most top xs = all_of (λ x. leb x top) xs

-- none of k grades is above the one before
unfoldable pub steps_fall : ℕ → List ℕ → Bool
steps_fall k steps = every (k - 1) (λ i. leb (slice_index steps (suc i)) (slice_index steps i))

unfoldable pub limit_keeps : ℕ → Limit → Bool
limit_keeps k (table s caps) = length caps == 2 ^ k && (all_at_most top_cap caps && broken k (λ X. slice_index caps X) == 0)
limit_keeps k (groups s parents bounds members) =
    nat_le 1 (length parents) && (nat_le (length parents) most_groups
    && (length bounds == length parents && (length members == k
    && (parents_keep parents && (all_at_most top_cap bounds && all_below (length parents) members)))))
limit_keeps k (grades s steps) = length steps == k && (all_at_most top_lane steps && steps_fall k steps)

-- no two limits are for one side
unfoldable pub one_each : List Limit → Bool
one_each [] = true
one_each (k ∷ ks) = not (is_some (limit_of (side_of k) ks)) && one_each ks

unfoldable pub keeps : Head → List Lane → List Limit → Bool
keeps h ls ks =
    head_keeps h && (nat_le (length ls) most_lanes && (all_of (lane_keeps h) ls && (narrow h ls
    && (all_of (λ k. nat_lt (side_of k) (2 * h.stations) && limit_keeps (width (floor_of h ls) (side_of k)) k) ks && one_each ks))))
