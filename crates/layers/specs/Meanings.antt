-- The meanings of plants that stand above another plant: the floor is the one below, the caps are changed side by side.
use Rattle.std.specs.Prelude.{Bool, List, ℕ, get_or}
use Rattle.polymatroid.specs.Sets.{has}
use Rattle.polymatroid.specs.Kinds.{closing, ceiling}
use Rattle.floor.specs.Floor.{side, count}
use Rattle.floor.specs.Meaning.{Meaning, Lawful}

-- the cap of a set is the cap below of the set without the closed positions of its side
abbrev pub with_closings : (ℕ → ℕ → Bool) → Meaning → Meaning
with_closings closed M = record {
  floor = M.floor;
  cap = λ d i. closing (count M.floor d i) (closed (side d i)) (M.cap d i);
}

-- the cap of a set is the smaller of the cap below and the ceiling of its side
abbrev pub with_ceilings : (ℕ → ℕ) → Meaning → Meaning
with_ceilings top M = record { floor = M.floor; cap = λ d i. ceiling (top (side d i)) (M.cap d i) }

-- position p of side s is in the set that the list has for the side
abbrev pub listed : List ℕ → ℕ → ℕ → Bool
listed sets s p = has (get_or sets s 0) p

-- ---- what is owed for each

-- a lawful plant stays lawful whatever positions are closed
abbrev pub ClosingsKeepTheLaws : Type 0
ClosingsKeepTheLaws = (closed : ℕ → ℕ → Bool) (M : Meaning) → Lawful M → Lawful (with_closings closed M)

-- a lawful plant stays lawful whatever the ceilings are
abbrev pub CeilingsKeepTheLaws : Type 0
CeilingsKeepTheLaws = (top : ℕ → ℕ) (M : Meaning) → Lawful M → Lawful (with_ceilings top M)
