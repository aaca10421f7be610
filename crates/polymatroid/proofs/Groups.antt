-- Groups.
use Rattle.std.proofs.Common.{◌≡◌, ℕ, zero, suc, ◌+◌, ◌<◌, ◌≤◌, Bool, true, false, cond, eqb, ◌⊎◌, ap, ◌∙◌, inl, inr, arith}
use Rattle.std.proofs.lemmas.Bool.Decides.{nat_tests}
use Rattle.std.proofs.lemmas.Bool.{cases_Bool, cases_lt}
use Rattle.polymatroid.specs.Side.{load, Caps}
use Rattle.polymatroid.specs.Kinds.{ceiling, sum_to, Groups, Ordered, own, under, passed, depth, worth, grouped, GroupsMean, GroupsKeep}
use Rattle.polymatroid.proofs.Layers.{ceiling_caps, zero_caps, plus_caps, sum_caps, sum_same}
use Rattle.polymatroid.proofs.Grades.{load_caps}

if_caps : (k : ℕ) (b : Bool) (cap : ℕ → ℕ) → Caps k cap → Caps k (λ X. cond b (cap X) 0)
if_caps k true cap caps = caps
if_caps k false cap caps = zero_caps k

module _ (G : Groups) (k : ℕ) where
  pub depth_caps : (n i : ℕ) → Caps k (λ X. depth G k X n i)
  unfolding depth passed own ceiling
  depth_caps zero i = zero_caps k
  depth_caps (suc n) i =
      ceiling_caps k (G.bound i)
      (λ X. load (λ p. cond (eqb (G.group p) i) (G.cap p) 0) k X + sum_to (λ j. cond (under G i j) (depth G k X n j) 0) G.count)
      (plus_caps k (load (λ p. cond (eqb (G.group p) i) (G.cap p) 0) k) (λ X. sum_to (λ j. cond (under G i j) (depth G k X n j) 0) G.count)
      (load_caps (λ p. cond (eqb (G.group p) i) (G.cap p) 0) k)
      (sum_caps k (λ X j. cond (under G i j) (depth G k X n j) 0) G.count
      (λ j l. if_caps k (under G i j) (λ X. depth G k X n j) (depth_caps n j))))

  depth_top : (n i X : ℕ) → depth G k X n i ≤ G.bound i
  unfolding depth passed
  depth_top zero i X = omega arith
  depth_top (suc n) i X = omega arith

  module _ (X : ℕ) (ordered : Ordered G) where
    -- a group below i has a higher number
    pub above : (i j : ℕ) → j < G.count → under G i j ≡ true → i < j
    unfolding under
    above i j l u =
        let r = ordered.root in
        elim (cases_lt 0 j) [
          | inl h ↦ let a = ordered.lower j h l in grind (arith, nat_tests)
          | inr h ↦
              let e : j ≡ 0 = omega arith in
              let f = ap G.parent e in
              absurd (grind (arith, nat_tests))
        ]

    -- what the groups below let through decides
    passed_same : (i : ℕ) (v w : ℕ → ℕ) → ((j : ℕ) → i < j → j < G.count → v j ≡ w j) → passed G k i X v ≡ passed G k i X w
    unfolding passed
    passed_same i v w h =
        let s = sum_same (λ j. cond (under G i j) (v j) 0) (λ j. cond (under G i j) (w j) 0) G.count (λ j l. at j l (cases_Bool (under G i j))) in
        omega arith
      where
        at : (j : ℕ) → j < G.count → (under G i j ≡ true) ⊎ (under G i j ≡ false) → cond (under G i j) (v j) 0 ≡ cond (under G i j) (w j) 0
        at j l (inl u) = let a = h j (above i j l u) l in grind arith
        at j l (inr u) = grind arith

    only : (v : ℕ → ℕ) → ((i : ℕ) → i < G.count → v i ≡ passed G k i X v)
        → (n i : ℕ) → i < G.count → G.count ≤ i + n → v i ≡ depth G k X n i
    unfolding depth
    only v e zero i l m = absurd (omega arith)
    only v e (suc n) i l m =
        e i l ∙ passed_same i v (λ j. depth G k X n j) (λ j h q. only v e n j q (omega arith))

    stays : (n i : ℕ) → i < G.count → G.count ≤ i + n → depth G k X n i ≡ depth G k X (suc n) i
    unfolding depth
    stays zero i l m = absurd (omega arith)
    stays (suc n) i l m =
        passed_same i (λ j. depth G k X n j) (λ j. depth G k X (suc n) j) (λ j h q. stays n j q (omega arith))

    fixed : (i : ℕ) → i < G.count → worth G k i X ≡ passed G k i X (λ j. worth G k j X)
    unfolding worth depth
    fixed i l = stays G.count i l (omega arith)

pub groups_mean : GroupsMean
unfolding worth
groups_mean G k X ordered = (fixed G k X ordered, λ v e i l. only G k X ordered v e G.count i l (omega arith))

pub worth_caps : (G : Groups) (k i : ℕ) → Caps k (worth G k i)
unfolding worth
worth_caps G k i = depth_caps G k G.count i

pub groups_keep : GroupsKeep
unfolding grouped worth
groups_keep G k ordered = (depth_caps G k G.count 0, λ X l. depth_top G k G.count 0 X)
