-- What a plant means: a floor and, for each side and each set of the side's lanes, a cap in trays.
-- A set of lanes of a side is its code, the sum of 2 ^ p over the positions p in it.
use Rattle.std.specs.Prelude.{ℕ, ◌<◌, Bool}
use Rattle.polymatroid.specs.Laws.{FourLaws}
use Rattle.floor.specs.Numbers.{top_cap}
use Rattle.floor.specs.Floor.{Floor, FloorRules, count}

pub record Meaning : Type 0 where
  pub floor : Floor
  -- the cap of a set of the lanes that have the end d at station i
  pub cap : Bool → ℕ → ℕ → ℕ

-- the floor keeps its rules, and the caps of every side keep the four laws
pub record Lawful (M : Meaning) : Type 0 where
  pub rules : FloorRules M.floor
  pub laws : (d : Bool) (i : ℕ) → i < M.floor.stations → FourLaws top_cap (count M.floor d i) (M.cap d i)
