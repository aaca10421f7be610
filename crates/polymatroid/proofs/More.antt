-- The numbers of the files, pairs of lanes, layers, and the sweep over groups.
use Rattle.std.proofs.Common.{◌≡◌, ℕ, zero, suc, ◌+◌, ◌-◌, ◌*◌, ◌^◌, ◌<◌, ◌≤◌, min, Bool, true, false, cond, ◌&&◌, eqb, leb, sym, refl, ap, inl, inr, arith}
use lib.Bits.{bit_or}
use Rattle.std.proofs.lemmas.Bool.Decides.{nat_tests}
use Rattle.std.proofs.lemmas.Bool.{cases_lt, cases_eq, eq-eqb}
use Rattle.polymatroid.proofs.Codes.{same_sets}
use Rattle.polymatroid.specs.Laws.{FourLaws}
use Rattle.polymatroid.proofs.Build.{has_plus, plus_below}
use Rattle.polymatroid.specs.Tables.{every, bends_at, bows}
use Rattle.polymatroid.specs.Kinds.{kept, closing, ceiling, plain, graded, sum_to, Groups, Ordered, own, under, passed, worth, grouped}
use Rattle.polymatroid.specs.More.{RangesHold, pairs, PairsSuffice, ClosedAddsNothing, LayersSwap, reached, swept, SweepAgrees}
use Rattle.polymatroid.proofs.Tables.{every_at, every_from, named}
use Rattle.polymatroid.proofs.Layers.{has_kept, kept_below, sum_same}
use Rattle.polymatroid.proofs.Grades.{plain_keeps, grades_keep}
use Rattle.polymatroid.proofs.Groups.{groups_keep, groups_mean, above}

-- ---- the numbers of the files

pub lawful_more : (a b k : ℕ) (cap : ℕ → ℕ) → a ≤ b → FourLaws a k cap → FourLaws b k cap
lawful_more a b k cap l h = (h.0, λ X m. omega (arith, h.1 X m))

pub ranges_hold : RangesHold
ranges_hold k l = record {
  table = λ cap e below. ((named k cap).kept e, below);
  lanes = λ w h. lawful_more (k * 100000) 1000000 k (plain w k) (omega arith) (plain_keeps 100000 k w h);
  grades = λ g f h. lawful_more (k * 100000) 1000000 k (graded g k) (omega arith) (grades_keep 100000 k g f h);
  groups = λ G o h. lawful_more (G.bound 0) 1000000 k (grouped G k) h (groups_keep G k o);
}

-- ---- pairs of lanes

both_same : (a b : Bool) → (a ≡ true → b ≡ true) → (b ≡ true → a ≡ true) → a ≡ b
both_same true b f g = sym (f refl)
both_same false true f g = g refl
both_same false false f g = refl

bends_at_turn : (k : ℕ) (cap : ℕ → ℕ) (X p q : ℕ) → X < 2 ^ k → p < k → q < k → bends_at cap X p q ≡ true → bends_at cap X q p ≡ true
unfolding bends_at
bends_at_turn k cap X p q l hp hq e =
    let A : ℕ = bit_or X (2 ^ p) in
    let B : ℕ = bit_or X (2 ^ q) in
    let lA : A < 2 ^ k = plus_below k X p l hp in
    let lB : B < 2 ^ k = plus_below k X q l hq in
    let s : bit_or A (2 ^ q) ≡ bit_or B (2 ^ p) =
    same_sets k (bit_or A (2 ^ q)) (bit_or B (2 ^ p)) (plus_below k A q lA hq) (plus_below k B p lB hp)
    (λ r m.
    let a = has_plus A q r in
    let b = has_plus B p r in
    let c = has_plus X p r in
    let d = has_plus X q r in
    grind arith) in
    let t = ap cap s in
    grind (arith, nat_tests)

bends_at_same : (cap : ℕ → ℕ) (X p q : ℕ) → p ≡ q → bends_at cap X p q ≡ true
unfolding bends_at
bends_at_same cap X p q r = let e = eq-eqb p q r in grind arith

pub pairs_suffice : PairsSuffice
unfolding pairs bows
pairs_suffice k cap = both_same (pairs k cap) (bows k cap) out back
  where
    out : pairs k cap ≡ true → bows k cap ≡ true
    out e =
        every_from (2 ^ k) (λ X. every k (λ p. every k (λ q. bends_at cap X p q)))
        (λ X l. every_from k (λ p. every k (λ q. bends_at cap X p q))
        (λ p hp. every_from k (λ q. bends_at cap X p q) (λ q hq. at X l p hp q hq)))
      where
        low : (X : ℕ) → X < 2 ^ k → (p q : ℕ) → p < q → q < k → bends_at cap X p q ≡ true
        low X l p q h hq =
            every_at q (λ p. bends_at cap X p q)
            (every_at k (λ q. every q (λ p. bends_at cap X p q))
            (every_at (2 ^ k) (λ X. every k (λ q. every q (λ p. bends_at cap X p q))) e X l) q hq) p h

        at : (X : ℕ) → X < 2 ^ k → (p : ℕ) → p < k → (q : ℕ) → q < k → bends_at cap X p q ≡ true
        at X l p hp q hq =
            elim (cases_lt p q) [
              | inl h ↦ low X l p q h hq
              | inr h ↦
                  elim (cases_eq p q) [
                    | inl r ↦ bends_at_same cap X p q r
                    | inr r ↦ bends_at_turn k cap X q p l hq hp (low X l q p (omega arith) hp)
                  ]
            ]

    back : bows k cap ≡ true → pairs k cap ≡ true
    back e =
        every_from (2 ^ k) (λ X. every k (λ q. every q (λ p. bends_at cap X p q)))
        (λ X l. every_from k (λ q. every q (λ p. bends_at cap X p q))
        (λ q hq. every_from q (λ p. bends_at cap X p q)
        (λ p hp.
        every_at k (λ q. bends_at cap X p q)
        (every_at k (λ p. every k (λ q. bends_at cap X p q))
        (every_at (2 ^ k) (λ X. every k (λ p. every k (λ q. bends_at cap X p q))) e X l) p (omega arith)) q hq)))

-- ---- layers

pub closed_adds_nothing : ClosedAddsNothing
unfolding closing
closed_adds_nothing k closed cap X p l c =
    ap cap
    (same_sets k (kept k closed (bit_or X (2 ^ p))) (kept k closed X) (kept_below k closed (bit_or X (2 ^ p))) (kept_below k closed X)
    (λ q m.
    let a = has_kept k closed (bit_or X (2 ^ p)) q m in
    let b = has_kept k closed X q m in
    let d = has_plus X p q in
    elim (cases_eq q p) [
      | inl r ↦ let e = ap closed r in grind arith
      | inr r ↦ grind (arith, nat_tests)
    ]))

pub layers_swap : LayersSwap
unfolding closing ceiling
layers_swap k c closed cap X = refl

-- ---- the sweep over groups

pub sum_none : (v : ℕ → ℕ) (n : ℕ) → ((i : ℕ) → i < n → v i ≡ 0) → sum_to v n ≡ 0
unfolding sum_to
sum_none v zero h = refl
sum_none v (suc n) h = omega (arith, sum_none v n (λ i l. h i (omega arith)), h n (omega arith))

-- one term more
pub sum_more : (v w : ℕ → ℕ) (n j x : ℕ) → j < n → ((i : ℕ) → i < n → (i ≡ j → ⊥) → w i ≡ v i) → w j ≡ v j + x → sum_to w n ≡ sum_to v n + x
unfolding sum_to
sum_more v w zero j x l h e = absurd (omega arith)
sum_more v w (suc n) j x l h e =
    elim (cases_eq j n) [
      | inl r ↦
          let s = sum_same w v n (λ i m. h i (omega arith) (λ q. absurd (omega arith))) in
          omega (arith, s, ap v r, ap w r)
      | inr r ↦
          let ih = sum_more v w n j x (omega arith) (λ i m. h i (omega arith)) e in
          let t = h n (omega arith) (λ q. r (sym q)) in
          omega arith
    ]

module _ (G : Groups) (k X : ℕ) (ordered : Ordered G) where
  -- the worths of the groups under i from number c on
  part : ℕ → ℕ → ℕ → ℕ
  part c i j = cond (under G i j && leb c j) (worth G k j X) 0

  -- from c on nothing is missing where c is at most the next number
  part_whole : (c i : ℕ) → c ≤ suc i → (j : ℕ) → j < G.count → part c i j ≡ cond (under G i j) (worth G k j X) 0
  unfolding part
  part_whole c i l j m = let a = above G k X ordered i j m in grind (arith, nat_tests)

  whole : (c i : ℕ) → c ≤ suc i → i < G.count → min (own G k i X + sum_to (part c i) G.count) (G.bound i) ≡ worth G k i X
  unfolding passed
  whole c i l m =
      let s = sum_same (part c i) (λ j. cond (under G i j) (worth G k j X) 0) G.count (part_whole c i l) in
      let e = (groups_mean G k X ordered).0 i m in
      omega arith

  next : (c i : ℕ) → 0 < c → c < G.count
      → sum_to (part c i) G.count ≡ sum_to (part (suc c) i) G.count + cond (eqb (G.parent c) i) (worth G k c X) 0
  unfolding part under
  next c i pos l =
      sum_more (part (suc c) i) (part c i) G.count c (cond (eqb (G.parent c) i) (worth G k c X) 0) l
      (λ j m ne. grind (arith, nat_tests))
      (let a = ordered.lower c pos l in grind (arith, nat_tests))

  part_none : (i c j : ℕ) → j < c → part c i j ≡ 0
  unfolding part
  part_none i c j l = grind (arith, nat_tests)

  reached_is : (n i : ℕ) → n < G.count → reached G k X n i ≡ own G k i X + sum_to (part (G.count - n) i) G.count
  unfolding reached
  reached_is zero i l =
      let c : ℕ = G.count in
      let d : G.count - 0 ≡ c = omega arith in
      let s = sum_none (part c i) c (λ j m. part_none i c j m) in
      let t = ap (λ x. sum_to (part x i) G.count) d in
      omega arith
  reached_is (suc n) i l =
      let c : ℕ = G.count - suc n in
      let d : G.count - n ≡ suc c = omega arith in
      let a = reached_is n i (omega arith) in
      let b = reached_is n c (omega arith) in
      let e = whole (suc c) c (omega arith) (omega arith) in
      let f = next c i (omega arith) (omega arith) in
      let a' = ap (λ x. sum_to (part x i) G.count) d in
      let b' = ap (λ x. sum_to (part x c) G.count) d in
      let g : min (reached G k X n c) (G.bound c) ≡ worth G k c X = omega arith in
      let h = ap (λ x. cond (eqb (G.parent c) i) x 0) g in
      omega arith

pub sweep_agrees : SweepAgrees
unfolding swept grouped
sweep_agrees G k X ordered =
    let s = ordered.some in
    let a = reached_is G k X ordered (G.count - 1) 0 (omega arith) in
    let e : G.count - (G.count - 1) ≡ 1 = omega arith in
    let b = ap (λ x. sum_to (part G k X ordered x 0) G.count) e in
    let c = whole G k X ordered 1 0 (omega arith) s in
    omega arith
