-- The ways of giving caps.
use Rattle.std.specs.Prelude.{◌≡◌, ℕ, zero, suc, ◌+◌, ◌*◌, ◌<◌, ◌≤◌, min, Bool, cond, not, ◌&&◌, ◌==◌}
use Rattle.polymatroid.specs.Sets.{has, code}
use Rattle.polymatroid.specs.Side.{load}
use Rattle.polymatroid.specs.Laws.{Bends, FourLaws}

-- ---- layers over caps

-- the positions of X that are not closed
unfoldable pub kept : ℕ → (ℕ → Bool) → ℕ → ℕ
kept k closed X = code k (λ p. has X p && not (closed p))

unfoldable pub closing : ℕ → (ℕ → Bool) → (ℕ → ℕ) → ℕ → ℕ
closing k closed cap X = cap (kept k closed X)

unfoldable pub ceiling : ℕ → (ℕ → ℕ) → ℕ → ℕ
ceiling c cap X = min (cap X) c

abbrev pub ClosingKeeps : Type 0
ClosingKeeps = (top k : ℕ) (closed : ℕ → Bool) (cap : ℕ → ℕ) → FourLaws top k cap → FourLaws top k (closing k closed cap)

abbrev pub CeilingKeeps : Type 0
CeilingKeeps = (top k c : ℕ) (cap : ℕ → ℕ) → FourLaws top k cap → FourLaws top k (ceiling c cap)

-- ---- plain sides: the sum of the lanes' own caps

unfoldable pub plain : (ℕ → ℕ) → ℕ → ℕ → ℕ
plain w k X = load w k X

abbrev pub PlainKeeps : Type 0
PlainKeeps = (t k : ℕ) (w : ℕ → ℕ) → ((p : ℕ) → p < k → w p ≤ t) → FourLaws (k * t) k (plain w k)

-- ---- grades: the sum of as many first grades as there are lanes in the set

unfoldable pub firsts : (ℕ → ℕ) → ℕ → ℕ
firsts g zero = 0
firsts g (suc n) = firsts g n + g n

unfoldable pub size : ℕ → ℕ → ℕ
size k X = load (λ p. 1) k X

unfoldable pub graded : (ℕ → ℕ) → ℕ → ℕ → ℕ
graded g k X = firsts g (size k X)

abbrev pub Falls : (ℕ → ℕ) → ℕ → Type 0
Falls g k = (i : ℕ) → suc i < k → g (suc i) ≤ g i

abbrev pub GradesKeep : Type 0
GradesKeep = (t k : ℕ) (g : ℕ → ℕ) → Falls g k → ((i : ℕ) → i < k → g i ≤ t) → FourLaws (k * t) k (graded g k)

-- grades that rise somewhere break law 3
abbrev pub RisingBreaks : Type 0
RisingBreaks = (k i : ℕ) (g : ℕ → ℕ) → suc i < k → g i < g (suc i) → Bends k (graded g k) → ⊥

-- ---- groups

pub record Groups : Type 0 where
  pub count : ℕ
  pub parent : ℕ → ℕ
  pub bound : ℕ → ℕ
  pub group : ℕ → ℕ
  pub cap : ℕ → ℕ

-- group 0 has parent 0, every other parent is a lower group
pub record Ordered (G : Groups) : Type 0 where
  pub some : 0 < G.count
  pub root : G.parent 0 ≡ 0
  pub lower : (j : ℕ) → 0 < j → j < G.count → G.parent j < j

unfoldable pub sum_to : (ℕ → ℕ) → ℕ → ℕ
sum_to v zero = 0
sum_to v (suc n) = sum_to v n + v n

-- the caps of the lanes of group i in X
unfoldable pub own : Groups → ℕ → ℕ → ℕ → ℕ
own G k i X = load (λ p. cond (G.group p == i) (G.cap p) 0) k X

-- j is another group, and i is its parent
unfoldable pub under : Groups → ℕ → ℕ → Bool
under G i j = G.parent j == i && not (j == i)

-- what a group lets through if v says what each group below it does
unfoldable pub passed : Groups → ℕ → ℕ → ℕ → (ℕ → ℕ) → ℕ
passed G k i X v = min (own G k i X + sum_to (λ j. cond (under G i j) (v j) 0) G.count) (G.bound i)

-- the worth of group i at X, looking n groups deep
unfoldable pub depth : Groups → ℕ → ℕ → ℕ → ℕ → ℕ
depth G k X zero i = 0
depth G k X (suc n) i = passed G k i X (λ j. depth G k X n j)

unfoldable pub worth : Groups → ℕ → ℕ → ℕ → ℕ
worth G k i X = depth G k X G.count i

unfoldable pub grouped : Groups → ℕ → ℕ → ℕ
grouped G k X = worth G k 0 X

-- the worth is what the words say, and nothing else is
abbrev pub GroupsMean : Type 0
GroupsMean =
    (G : Groups) (k X : ℕ) → Ordered G
    → ((i : ℕ) → i < G.count → worth G k i X ≡ passed G k i X (λ j. worth G k j X))
    × ((v : ℕ → ℕ) → ((i : ℕ) → i < G.count → v i ≡ passed G k i X v) → (i : ℕ) → i < G.count → v i ≡ worth G k i X)

abbrev pub GroupsKeep : Type 0
GroupsKeep = (G : Groups) (k : ℕ) → Ordered G → FourLaws (G.bound 0) k (grouped G k)
