-- The caps of a side depend on the own caps of its lanes alone; and the limit that is found for a side keeps the rules there.
use Rattle.std.proofs.Common.{◌≡◌, ℕ, zero, suc, ◌<◌, true, cond, eqb, List, map, length, get_or, Some, None, vec_items, Option, refl, ap, ◌∙◌, arith}
use Rattle.polymatroid.specs.Sets.{has}
use Rattle.polymatroid.specs.Kinds.{plain, Groups, own, under, passed, depth, worth, grouped}
use Rattle.polymatroid.proofs.Side.{load_same}
use Rattle.polymatroid.proofs.Layers.{sum_same}
use Rattle.floor.specs.Floor.{width, end_of, station_of}
use Rattle.floor.proofs.Places.{side_again}
use Rattle.plantformat.specs.Records.{Limit, table, groups, grades, grouping, cap_by, limit_of}
use Rattle.plantformat.specs.Rules.{limit_keeps}
use Rattle.plantformat.proofs.Tests.{keeps_rules, limit_rules_keep}
use Rattle.plantformat.proofs.Lawful.{found_rules}
use Rattle.limits.specs.Told.{told}
use Rattle.answers.specs.Content.{file_meaning}
use Rattle.answers.specs.Answers.{owns, Owns, limit_cap}
use Rattle.answers.specs.declared.file_plant.FilePlant.{FilePlant}

module _ (k : ℕ) (w v : ℕ → ℕ) (same : (p : ℕ) → p < k → w p ≡ v p) (X : ℕ) where
  module _ (parents bounds members : List ℕ) where
    G : Groups
    G = grouping parents bounds members w

    H : Groups
    H = grouping parents bounds members v

    own_same : (i : ℕ) → own G k i X ≡ own H k i X
    unfolding own G H
    own_same i =
        load_same (λ p. cond (eqb (G.group p) i) (w p) 0) (λ p. cond (eqb (G.group p) i) (v p) 0) k X X
        (λ p l. ap (λ n. cond (has X p) (cond (eqb (G.group p) i) n 0) 0) (same p l))

    depth_same : (n i : ℕ) → depth G k X n i ≡ depth H k X n i
    unfolding depth passed under G H
    depth_same zero i = refl
    depth_same (suc n) i =
        let o = own_same i in
        let s = sum_same (λ j. cond (under G i j) (depth G k X n j) 0) (λ j. cond (under H i j) (depth H k X n j) 0) G.count
        (λ j l. ap (λ m. cond (under G i j) m 0) (depth_same n j)) in
        omega arith

    pub grouped_same : grouped (grouping parents bounds members w) k X ≡ grouped (grouping parents bounds members v) k X
    unfolding grouped worth G H
    grouped_same = depth_same (length parents) 0

  pub cap_by_same : (l : Option Limit) → cap_by k w l X ≡ cap_by k v l X
  unfolding plain
  cap_by_same None = load_same w v k X X (λ p l. ap (λ n. cond (has X p) n 0) (same p l))
  cap_by_same (Some (table s caps)) = refl
  cap_by_same (Some (groups s parents bounds members)) = grouped_same parents bounds members
  cap_by_same (Some (grades s steps)) = refl

-- the limit that is found for a side of a file plant keeps the rules there
pub found_keeps : (f : FilePlant) (s : ℕ) (l : Limit) → limit_of s (map told (vec_items f.limits)) ≡ Some l
    → limit_keeps (width (file_meaning f).floor s) l ≡ true
found_keeps f s l e =
    limit_rules_keep (width (file_meaning f).floor s) l
    (found_rules f.head (vec_items f.lanes) (map told (vec_items f.limits))
    (keeps_rules f.head (vec_items f.lanes) (map told (vec_items f.limits)) f.kept) (end_of s) (station_of s) l
    (ap (λ n. limit_of n (map told (vec_items f.limits))) (side_again s) ∙ e))

-- a list of the own caps of the lanes of a side
module _ (f : FilePlant) (s : ℕ) (xs : List ℕ) (o : Owns f s xs) where
  pub owned_cap : (l : Option Limit) (X : ℕ) → cap_by (length xs) (λ p. get_or xs p 0) l X ≡ limit_cap f s l X
  owned_cap l X =
      ap (λ k. cap_by k (λ p. get_or xs p 0) l X) o.long
      ∙ cap_by_same (width (file_meaning f).floor s) (λ p. get_or xs p 0) (owns f s) (λ p m. o.each p (omega (arith, o.long))) X l
