-- What plants that are read from files lean on: the laws at the bounds of the files, half the pairs of a table, layers, groups in one sweep.
use Rattle.std.specs.Prelude.{◌≡◌, ℕ, zero, suc, ◌+◌, ◌-◌, ◌^◌, ◌<◌, ◌≤◌, min, Bool, true, cond, ◌==◌, bit_or}
use Rattle.polymatroid.specs.Laws.{Below, FourLaws}
use Rattle.polymatroid.specs.Tables.{every, bends_at, bows, broken}
use Rattle.polymatroid.specs.Kinds.{closing, ceiling, plain, graded, Falls, Groups, Ordered, own, grouped}

-- the four laws at the numbers of the files
pub record Ranges (k : ℕ) : Type 0 where
  pub table : (cap : ℕ → ℕ) → broken k cap ≡ 0 → Below 1000000 k cap → FourLaws 1000000 k cap
  pub lanes : (w : ℕ → ℕ) → ((p : ℕ) → p < k → w p ≤ 100000) → FourLaws 1000000 k (plain w k)
  pub grades : (g : ℕ → ℕ) → Falls g k → ((i : ℕ) → i < k → g i ≤ 100000) → FourLaws 1000000 k (graded g k)
  pub groups : (G : Groups) → Ordered G → G.bound 0 ≤ 1000000 → FourLaws 1000000 k (grouped G k)

abbrev pub RangesHold : Type 0
RangesHold = (k : ℕ) → k ≤ 8 → Ranges k

-- law 3 tested at each pair once
unfoldable pub pairs : ℕ → (ℕ → ℕ) → Bool
pairs k cap = every (2 ^ k) (λ X. every k (λ q. every q (λ p. bends_at cap X p q)))

abbrev pub PairsSuffice : Type 0
PairsSuffice = (k : ℕ) (cap : ℕ → ℕ) → pairs k cap ≡ bows k cap

-- a closed position adds nothing; closings and ceilings may change places
abbrev pub ClosedAddsNothing : Type 0
ClosedAddsNothing =
    (k : ℕ) (closed : ℕ → Bool) (cap : ℕ → ℕ) (X p : ℕ) → p < k → closed p ≡ true
    → closing k closed cap (bit_or X (2 ^ p)) ≡ closing k closed cap X

abbrev pub LayersSwap : Type 0
LayersSwap =
    (k c : ℕ) (closed : ℕ → Bool) (cap : ℕ → ℕ) (X : ℕ) → closing k closed (ceiling c cap) X ≡ ceiling c (closing k closed cap) X

-- groups in one sweep: what has reached group i once the n highest groups have passed theirs to their parents
unfoldable pub reached : Groups → ℕ → ℕ → ℕ → ℕ → ℕ
reached G k X zero i = own G k i X
reached G k X (suc n) i =
    reached G k X n i
    + cond (G.parent (G.count - suc n) == i) (min (reached G k X n (G.count - suc n)) (G.bound (G.count - suc n))) 0

unfoldable pub swept : Groups → ℕ → ℕ → ℕ
swept G k X = min (reached G k X (G.count - 1) 0) (G.bound 0)

abbrev pub SweepAgrees : Type 0
SweepAgrees = (G : Groups) (k X : ℕ) → Ordered G → swept G k X ≡ grouped G k X
