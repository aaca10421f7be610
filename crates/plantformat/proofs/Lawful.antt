-- Records that keep the rules mean a lawful plant: the floor keeps its rules, and the caps of each side the four laws.
use Rattle.std.proofs.Common.{◌≡◌, ℕ, ◌<◌, ◌≤◌, Bool, true, false, not, List, length, get_or, Some, None, Option, sym, refl, ap, ◌∙◌, subst, arith}
use Rattle.polymatroid.specs.Laws.{FourLaws}
use Rattle.polymatroid.proofs.Tables.{named}
use Rattle.polymatroid.proofs.More.{ranges_hold}
use Rattle.floor.specs.Numbers.{most_on_side, top_cap}
use Rattle.floor.specs.Floor.{Floor, side, station_of, count, width, lane_at, FloorRules}
use Rattle.floor.specs.Meaning.{Lawful}
use Rattle.floor.proofs.Places.{end_of_side, station_of_side, side_below, lane_at_below}
use Rattle.plantformat.specs.Numbers.{top_lane}
use Rattle.plantformat.specs.declared.Head.{Head}
use Rattle.plantformat.specs.declared.Lane.{Lane}
use Rattle.plantformat.specs.Records.{Limit, table, groups, grades, side_of, floor_of, own_at, grouping, cap_by, limit_of, meaning_of}
use Rattle.plantformat.specs.Rules.{LimitRules, limit, Rules, keeps}
use Rattle.plantformat.specs.Promise.{AcceptedPlantsAreLawful}
use Rattle.plantformat.proofs.Limits.{limit_of_found}
use Rattle.plantformat.proofs.Tests.{keeps_rules}

-- the side of an end and a station is as wide as they say
pub width_of_side : (F : Floor) (d : Bool) (i : ℕ) → width F (side d i) ≡ count F d i
width_of_side F d i = ap (λ e. count F e (station_of (side d i))) (end_of_side d i) ∙ ap (count F d) (station_of_side d i)

-- ---- the caps of one side

-- by each kind of limit, on a side of k lanes with own caps w
module _ (k : ℕ) (few : k ≤ most_on_side) (w : ℕ → ℕ) where
  pub plain_lawful : ((p : ℕ) → p < k → w p ≤ top_lane) → FourLaws top_cap k (cap_by k w None)
  plain_lawful low = (ranges_hold k few).lanes w low

  pub limit_lawful : (l : Limit) → LimitRules k l → FourLaws top_cap k (cap_by k w (Some l))
  limit_lawful (table s caps) r =
      (ranges_hold k few).table (λ X. get_or caps X 0) ((named k (λ X. get_or caps X 0)).passes r.laws)
      (λ X l. r.low X (omega (arith, r.all_sets)))
  limit_lawful (groups s parents bounds members) r =
      (ranges_hold k few).groups (grouping parents bounds members w)
      (record { some = r.some; root = r.root; lower = r.lower })
      (r.low 0 (omega (arith, r.some, r.bounds_too)))
  limit_lawful (grades s steps) r =
      (ranges_hold k few).grades (λ j. get_or steps j 0) r.falls (λ i l. r.low i (omega (arith, r.all_lanes)))

module _ (h : Head) (ls : List Lane) (ks : List Limit) (r : Rules h ls ks) where
  -- ---- the floor

  pub count_narrow : (d : Bool) (i : ℕ) → i < h.stations → count (floor_of h ls) d i ≤ most_on_side
  count_narrow d i l = omega (arith, r.narrow (side d i) (side_below d i h.stations l), width_of_side (floor_of h ls) d i)

  pole_on : (d : Bool) → (floor_of h ls).pole d < h.stations
  pole_on true = r.head.despatch_on
  pole_on false = r.head.stock_on

  end_on : (d : Bool) (e : ℕ) → e < length ls → (floor_of h ls).end d e < h.stations
  end_on true e l = (r.lanes e l).to_on
  end_on false e l = (r.lanes e l).from_on

  ends_differ : (d : Bool) (e : ℕ) → e < length ls → (floor_of h ls).end d e ≡ (floor_of h ls).end (not d) e → ⊥
  ends_differ true e l q = (r.lanes e l).ends_differ (sym q)
  ends_differ false e l q = (r.lanes e l).ends_differ q

  poles_clear : (d : Bool) (e : ℕ) → e < length ls → (floor_of h ls).end (not d) e ≡ (floor_of h ls).pole d → ⊥
  poles_clear true e l q = (r.lanes e l).not_out_of_despatch q
  poles_clear false e l q = (r.lanes e l).not_into_stock q

  pub floor_lawful : FloorRules (floor_of h ls)
  floor_lawful = record {
    two_stations = r.head.two_stations;
    few_stations = r.head.few_stations;
    few_lanes = r.few_lanes;
    pole_on = pole_on;
    poles_differ = r.head.poles_differ;
    end_on = end_on;
    ends_differ = ends_differ;
    poles_clear = poles_clear;
    narrow = count_narrow;
  }

  -- ---- the caps

  pub own_at_low : (d : Bool) (i p : ℕ) → p < count (floor_of h ls) d i → own_at h ls d i p ≤ top_lane
  own_at_low d i p l = (r.lanes (lane_at (floor_of h ls) d i p) (lane_at_below (floor_of h ls) d i p l)).own_low

  -- the limit that is found for a side keeps the rules of limits there
  pub found_rules : (d : Bool) (i : ℕ) (l : Limit) → limit_of (side d i) ks ≡ Some l → LimitRules (count (floor_of h ls) d i) l
  found_rules d i l e = by (limit_of_found (side d i) ks l e)
    where
      by : (j : ℕ) × (j < length ks) × (limit ks j ≡ l) × (side_of l ≡ side d i) → LimitRules (count (floor_of h ls) d i) l
      by (j, m, a, b) =
          let at : LimitRules (width (floor_of h ls) (side_of l)) l =
          subst (λ (x : Limit). LimitRules (width (floor_of h ls) (side_of x)) x) a (r.limits j m) in
          subst (λ (n : ℕ). LimitRules n l) (ap (width (floor_of h ls)) b ∙ width_of_side (floor_of h ls) d i) at

  pub caps_lawful : (d : Bool) (i : ℕ) → i < h.stations
      → FourLaws top_cap (count (floor_of h ls) d i) ((meaning_of h ls ks).cap d i)
  caps_lawful d i l = by (limit_of (side d i) ks) refl
    where
      by : (o : Option Limit) → limit_of (side d i) ks ≡ o
          → FourLaws top_cap (count (floor_of h ls) d i) (cap_by (count (floor_of h ls) d i) (own_at h ls d i) o)
      by None e = plain_lawful (count (floor_of h ls) d i) (count_narrow d i l) (own_at h ls d i) (own_at_low d i)
      by (Some k) e =
          limit_lawful (count (floor_of h ls) d i) (count_narrow d i l) (own_at h ls d i) k (found_rules d i k e)

pub accepted_plants_are_lawful : AcceptedPlantsAreLawful
accepted_plants_are_lawful h ls ks r = record { rules = floor_lawful h ls ks r; laws = caps_lawful h ls ks r }

pub kept_lawful : (h : Head) (ls : List Lane) (ks : List Limit) → keeps h ls ks ≡ true → Lawful (meaning_of h ls ks)
kept_lawful h ls ks e = accepted_plants_are_lawful h ls ks (keeps_rules h ls ks e)
