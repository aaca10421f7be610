-- What the records of a plant file define: a floor, and the cap of each set of lanes.
-- A file has a head, then lanes, then limits; a head and a lane are the reader's own types.
use Rattle.std.specs.Prelude.{ℕ, Bool, cond, List, [], ◌∷◌, length, Some, None, Option, ◌==◌, slice_index, slice_index_or}
use Rattle.polymatroid.specs.Kinds.{plain, graded, grouped, Groups}
use Rattle.floor.specs.Floor.{Floor, side, count, lane_at}
use Rattle.floor.specs.Meaning.{Meaning}
use Rattle.plantformat.specs.declared.Head.{Head}
use Rattle.plantformat.specs.declared.Lane.{Lane}

-- a limit of a side: a cap for each set code; or groups, each with its parent and its bound, and the group of each position; or
-- a grade for each number of lanes
pub data Limit : Type 0 where
  table : (s : ℕ) (caps : List ℕ) → Limit
  groups : (s : ℕ) (parents bounds members : List ℕ) → Limit
  grades : (s : ℕ) (steps : List ℕ) → Limit

-- the side that a limit is for
abbrev pub side_of : Limit → ℕ
side_of (table s caps) = s
side_of (groups s parents bounds members) = s
side_of (grades s steps) = s

-- ---- the floor

-- lane e of a list
abbrev pub lane : List Lane → ℕ → Lane
lane ls e = slice_index_or ls e (record { from = 0; to = 0; own = 0 })

-- the station at an end of a lane
abbrev pub lane_end : Bool → Lane → ℕ
lane_end d l = cond d l.to l.from

abbrev pub floor_of : Head → List Lane → Floor
floor_of h ls = record {
  stations = h.stations;
  lanes = length ls;
  pole = λ d. cond d h.despatch h.stock;
  end = λ d e. lane_end d (lane ls e);
}

-- ---- the caps

-- the own cap of the lane at each position of a side
abbrev pub own_at : Head → List Lane → Bool → ℕ → ℕ → ℕ
own_at h ls d i p = (lane ls (lane_at (floor_of h ls) d i p)).own

-- the groups of a groups record, over lanes with own caps w
abbrev pub grouping : List ℕ → List ℕ → List ℕ → (ℕ → ℕ) → Groups
grouping parents bounds members w = record {
  count = length parents;
  parent = λ j. slice_index parents j;
  bound = λ j. slice_index bounds j;
  group = λ p. slice_index members p;
  cap = w;
}

-- the caps of a side of k lanes with own caps w, by its limit; without one a set has the sum of its lanes' own caps
abbrev pub cap_by : ℕ → (ℕ → ℕ) → Option Limit → ℕ → ℕ
cap_by k w None X = plain w k X
cap_by k w (Some (table s caps)) X = slice_index caps X
cap_by k w (Some (groups s parents bounds members)) X = grouped (grouping parents bounds members w) k X
cap_by k w (Some (grades s steps)) X = graded (λ j. slice_index steps j) k X

-- the limit of a side, if it has one
abbrev pub limit_of : ℕ → List Limit → Option Limit
limit_of s [] = None
limit_of s (k ∷ ks) = cond (side_of k == s) (Some k) (limit_of s ks)

-- what a head, lanes and limits mean
abbrev pub meaning_of : Head → List Lane → List Limit → Meaning
meaning_of h ls ks = record {
  floor = floor_of h ls;
  cap = λ d i X. cap_by (count (floor_of h ls) d i) (own_at h ls d i) (limit_of (side d i) ks) X;
}
