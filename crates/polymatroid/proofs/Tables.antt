-- The lane-by-lane tests of a table decide the laws.
use Rattle.std.proofs.Common.{◌≡◌, ℕ, zero, suc, ◌+◌, ◌^◌, ◌<◌, ◌≤◌, Bool, true, false, ◌||◌, eqb, ◌⊎◌, refl, ap, ◌∙◌, inl, inr, arith}
use lib.Bits.{bit_and, bit_or, or_lt, and_lt}
use Rattle.std.proofs.lemmas.Bool.Decides.{nat_tests}
use Rattle.std.proofs.lemmas.Bool.{cases_Bool, cases_eq, both_ways, eqb-true, le-leb, eq-eqb}
use Rattle.polymatroid.specs.Sets.{has}
use Rattle.polymatroid.specs.Side.{In, Out}
use Rattle.polymatroid.proofs.Codes.{has_or, has_and, same_sets}
use Rattle.polymatroid.specs.Laws.{Grows, Bends}
use Rattle.polymatroid.specs.Tables.{every, rises_at, bends_at, rises, bows, broken, Named, TablesTested, TestsDecide}
use Rattle.polymatroid.proofs.Build.{has_plus, plus_below, plus_there, build}

pub every_at : (n : ℕ) (t : ℕ → Bool) → every n t ≡ true → (i : ℕ) → i < n → t i ≡ true
unfolding every
every_at zero t e i l = absurd (omega arith)
every_at (suc n) t e i l =
    elim (cases_eq i n) [
      | inl r ↦ ap t r ∙ grind arith
      | inr r ↦ every_at n t (grind arith) i (omega arith)
    ]

pub every_from : (n : ℕ) (t : ℕ → Bool) → ((i : ℕ) → i < n → t i ≡ true) → every n t ≡ true
unfolding every
every_from zero t h = refl
every_from (suc n) t h =
    let a = every_from n t (λ i l. h i (omega arith)) in
    let b = h n (omega arith) in
    grind arith

module _ (k : ℕ) (cap : ℕ → ℕ) where
  -- law 2
  pub rises_grows : rises k cap ≡ true → Grows k cap
  unfolding rises rises_at
  rises_grows e X p l h =
      let a : rises_at cap X p ≡ true = every_at k (λ p. rises_at cap X p) (every_at (2 ^ k) (λ X. every k (λ p. rises_at cap X p)) e X l) p h in
      elim (cases_Bool (has X p)) [
        | inl i ↦ let s = ap cap (plus_there k X p l h i) in omega arith
        | inr i ↦ grind (arith, nat_tests)
      ]

  pub grows_rises : Grows k cap → rises k cap ≡ true
  unfolding rises rises_at
  grows_rises g =
      every_from (2 ^ k) (λ X. every k (λ p. rises_at cap X p))
      (λ X l. every_from k (λ p. rises_at cap X p) (λ p h. let a = g X p l h in grind (arith, nat_tests)))

  -- law 3
  Local : Type 0
  Local =
      (X p q : ℕ) → X < 2 ^ k → p < k → q < k → Out X p → Out X q → (p ≡ q → ⊥)
      → cap (bit_or (bit_or X (2 ^ q)) (2 ^ p)) + cap X ≤ cap (bit_or X (2 ^ p)) + cap (bit_or X (2 ^ q))

  bows_local : bows k cap ≡ true → Local
  unfolding bows bends_at Local
  bows_local e X p q l hp hq op oq ne =
      let a : bends_at cap X p q ≡ true =
      every_at k (λ q. bends_at cap X p q)
      (every_at k (λ p. every k (λ q. bends_at cap X p q))
      (every_at (2 ^ k) (λ X. every k (λ p. every k (λ q. bends_at cap X p q))) e X l) p hp) q hq in
      grind (arith, nat_tests)

  -- a lane brings no more to a larger set
  less : Local → (X Y p : ℕ) → X < 2 ^ k → Y < 2 ^ k → p < k → ((q : ℕ) → q < k → In X q → In Y q) → Out Y p
      → cap (bit_or Y (2 ^ p)) + cap X ≤ cap (bit_or X (2 ^ p)) + cap Y
  unfolding Local
  less loc X Y p lX lY h sub o =
      build k (λ A. Out A p → cap (bit_or A (2 ^ p)) + cap X ≤ cap (bit_or X (2 ^ p)) + cap A) X Y lX lY sub
      (λ A q lA hq iq oq up ih oA.
      let m = has_plus A q p in
      let ne : p ≡ q → ⊥ = λ r. both_ways (has Y p) o (ap (has Y) r ∙ iq) in
      let oA' : Out A p = grind arith in
      omega (arith, ih oA', loc A p q lA h hq oA' oq ne))
      (λ oX. omega arith) o

  pub bows_bends : bows k cap ≡ true → Bends k cap
  bows_bends e X Y lX lY =
      let loc = bows_local e in
      let I : ℕ = bit_and X Y in
      let lI : I < 2 ^ k = and_lt k X Y lX lY in
      let start : bit_or I Y ≡ Y =
      same_sets k (bit_or I Y) Y (or_lt k I Y lI lY) lY (λ p l. let a = has_or I Y p in let b = has_and X Y p in grind arith) in
      build k (λ B. cap (bit_or B Y) + cap I ≤ cap B + cap Y) I X lI lX
      (λ p l i. let b = has_and X Y p in grind arith)
      (λ B p lB hp ip op up ih.
      let U : ℕ = bit_or B Y in
      let lU : U < 2 ^ k = or_lt k B Y lB lY in
      let b = has_and X Y p in
      let u = up p in
      let oy : Out Y p = grind arith in
      let a = has_or B Y p in
      let oU : Out U p = grind arith in
      let same : bit_or (bit_or B (2 ^ p)) Y ≡ bit_or U (2 ^ p) =
      same_sets k (bit_or (bit_or B (2 ^ p)) Y) (bit_or U (2 ^ p)) (or_lt k (bit_or B (2 ^ p)) Y (plus_below k B p lB hp) lY) (plus_below k U p lU hp)
      (λ q l.
      let c = has_or (bit_or B (2 ^ p)) Y q in
      let d = has_plus B p q in
      let f = has_plus U p q in
      let g = has_or B Y q in
      grind arith) in
      let ls = less loc B U p lB lU hp (λ q l i. let g = has_or B Y q in grind arith) oU in
      omega (arith, ih, ls, ap cap same))
      (omega (arith, ap cap start))

  pub bends_bows : Bends k cap → bows k cap ≡ true
  unfolding bows bends_at
  bends_bows g =
      every_from (2 ^ k) (λ X. every k (λ p. every k (λ q. bends_at cap X p q)))
      (λ X l. every_from k (λ p. every k (λ q. bends_at cap X p q))
      (λ p hp. every_from k (λ q. bends_at cap X p q) (λ q hq. at X p q l hp hq (cases_Bool (has X p || (has X q || eqb p q))))))
    where
      at : (X p q : ℕ) → X < 2 ^ k → p < k → q < k
          → ((has X p || (has X q || eqb p q)) ≡ true) ⊎ ((has X p || (has X q || eqb p q)) ≡ false) → bends_at cap X p q ≡ true
      at X p q l hp hq (inl y) = grind arith
      at X p q l hp hq (inr y) =
          let A : ℕ = bit_or X (2 ^ p) in
          let B : ℕ = bit_or X (2 ^ q) in
          let lA : A < 2 ^ k = plus_below k X p l hp in
          let lB : B < 2 ^ k = plus_below k X q l hq in
          let ne : p ≡ q → ⊥ = λ r. grind (arith, nat_tests) in
          let top : bit_or A B ≡ bit_or B (2 ^ p) =
          same_sets k (bit_or A B) (bit_or B (2 ^ p)) (or_lt k A B lA lB) (plus_below k B p lB hp)
          (λ r m.
          let c = has_or A B r in
          let d = has_plus X p r in
          let f = has_plus X q r in
          let h = has_plus B p r in
          grind arith) in
          let low : bit_and A B ≡ X =
          same_sets k (bit_and A B) X (and_lt k A B lA lB) l
          (λ r m.
          let c = has_and A B r in
          let d = has_plus X p r in
          let f = has_plus X q r in
          grind (arith, nat_tests)) in
          let b = g A B lA lB in
          let b1 = ap cap top in
          let b2 = ap cap low in
          let b3 = le-leb (cap (bit_or B (2 ^ p)) + cap X) (cap A + cap B) (omega arith) in
          grind arith

  pub named : Named k cap
  unfolding broken
  named = by (eqb (cap 0) 0) refl (rises k cap) refl (bows k cap) refl
    where
      by : (a : Bool) → eqb (cap 0) 0 ≡ a → (b : Bool) → rises k cap ≡ b → (c : Bool) → bows k cap ≡ c → Named k cap
      by a ea b eb c ec = record {
        few = grind arith;
        kept = λ e. record {
          none = eqb-true (cap 0) 0 (grind arith);
          grows = rises_grows (grind arith);
          bends = bows_bends (grind arith);
        };
        passes = λ h.
            let x = eq-eqb (cap 0) 0 h.none in
            let y = grows_rises h.grows in
            let z = bends_bows h.bends in
            grind arith;
        one = λ e h. let x = eq-eqb (cap 0) 0 h in grind arith;
        two = λ e. (eqb-true (cap 0) 0 (grind arith), λ h. let x = grows_rises h in grind arith);
        three = λ e. (eqb-true (cap 0) 0 (grind arith), rises_grows (grind arith), λ h. let x = bends_bows h in grind arith);
      }

pub tables_tested : TablesTested
tables_tested k cap = named k cap

pub tests_decide : TestsDecide
tests_decide k cap = (rises_grows k cap, grows_rises k cap, bows_bends k cap, bends_bows k cap)
