-- The room of a position, from a round over the sets of its side.
use Rattle.std.proofs.Common.{◌≡◌, ℕ, zero, suc, ◌+◌, ◌^◌, ◌<◌, ◌≤◌, min, Bool, true, false, cond, ◌&&◌, ltb, List, get_or, [], ◌∷◌, length, ◌++◌, map, filter, fold, refl, ap, ◌∙◌, inl, inr, add-one, arith}
use Rattle.std.specs.List.{range_with_len}
use Rattle.std.proofs.lemmas.Bool.{cases_lt, cond-true, cond-false, lt-ltb, le-ltb}
use Rattle.std.proofs.lemmas.List.{map-append, get_or_past}
use Rattle.std.proofs.lemmas.List.Elements.{filter-append}
use Rattle.std.proofs.lemmas.List.Sums.{fold-append}
use Rattle.std.proofs.lemmas.Bool.Decides.{nat_tests}
use Rattle.polymatroid.specs.Sets.{has}
use Rattle.polymatroid.specs.Finite.{least}
use Rattle.polymatroid.specs.Side.{load, left, room}
use Rattle.polymatroid.specs.Room.{zeroed}
use Rattle.rooms.specs.Rooms.{alone, lowered}

-- one number more at the end
pub range_more : (a n j : ℕ) → a + n ≡ j → range_with_len a (suc n) ≡ range_with_len a n ++ j ∷ []
range_more a zero j e = ap (λ x. x ∷ []) (omega arith)
range_more a (suc n) j e = ap (λ xs. a ∷ xs) (range_more (a + 1) n j (omega arith))

-- one number more in a round
round_more : (t : ℕ → Bool) (v : ℕ → ℕ) (d n : ℕ) (xs : List ℕ) → fold min d (map v (filter t (xs ++ n ∷ [])))
    ≡ cond (t n) (min (v n) (fold min d (map v (filter t xs)))) (fold min d (map v (filter t xs)))
round_more t v d n xs = simp (filter-append, map-append, fold-append) (by (t n))
  where
    by : (b : Bool) → fold min (fold min d (map v (filter t xs))) (map v (cond b (n ∷ []) []))
        ≡ cond b (min (v n) (fold min d (map v (filter t xs)))) (fold min d (map v (filter t xs)))
    by true = omega arith
    by false = refl

-- the least value at the numbers below n that pass t, by a round over them
least_round : (t : ℕ → Bool) (v : ℕ → ℕ) (d n : ℕ) → fold min d (map v (filter t (range_with_len 0 n))) ≡ least t v d n
unfolding least
least_round t v d zero = refl
least_round t v d (suc n) =
    ap (λ xs. fold min d (map v (filter t xs))) (range_more 0 n n (omega arith))
    ∙ round_more t v d n (range_with_len 0 n)
    ∙ ap (λ m. cond (t n) (min (v n) m) m) (least_round t v d n)

pub room_round : (k : ℕ) (cap w : ℕ → ℕ) (p n : ℕ) → n ≡ 2 ^ k
    → fold min (left k cap w (2 ^ p)) (map (left k cap w) (filter (λ X. has X p) (range_with_len 0 n))) ≡ room k cap w p
unfolding room
room_round k cap w p n e = rw e (least_round (λ X. has X p) (left k cap w) (left k cap w (2 ^ p)) (2 ^ k))

load_zeroed_past : (w : ℕ → ℕ) (g k X : ℕ) → k ≤ g → load (zeroed w g) k X ≡ load w k X
unfolding load zeroed
load_zeroed_past w g zero X l = refl
load_zeroed_past w g (suc k) X l = let ih = load_zeroed_past w g k X (omega arith) in grind (arith, nat_tests)

-- the trays put to 0 are those that g brings to the set
pub load_zeroed : (w : ℕ → ℕ) (g k X : ℕ) → load (zeroed w g) k X + cond (ltb g k && has X g) (w g) 0 ≡ load w k X
unfolding load zeroed
load_zeroed w g zero X = grind (arith, nat_tests)
load_zeroed w g (suc k) X =
    elim (cases_lt g k) [
      | inl m ↦ let ih = load_zeroed w g k X in grind (arith, nat_tests)
      | inr m ↦ let past = load_zeroed_past w g k X m in grind (arith, nat_tests)
    ]

-- the room of p over the first n sets
abbrev over : ℕ → (ℕ → ℕ) → (ℕ → ℕ) → ℕ → ℕ → ℕ
over k cap w p n = least (λ X. has X p) (left k cap w) (left k cap w (2 ^ p)) n

over_more : (k : ℕ) (cap w : ℕ → ℕ) (p n : ℕ)
    → over k cap w p (n + 1) ≡ cond (has n p) (min (left k cap w n) (over k cap w p n)) (over k cap w p n)
unfolding least
over_more k cap w p n = rw add-one

-- the list has the rooms over the first n sets, and none past the positions
pub record Roomed (k : ℕ) (cap w : ℕ → ℕ) (rs : List ℕ) (n : ℕ) : Type 0 where
  pub each : (p : ℕ) → p < k → get_or rs p 0 ≡ over k cap w p n
  pub past : (p : ℕ) → k ≤ p → get_or rs p 0 ≡ 0

pub roomed_none : (k : ℕ) (cap w : ℕ → ℕ) (rs : List ℕ) → k ≤ 8 → length rs ≡ 8 → ((p : ℕ) → p < 8 → get_or rs p 0 ≡ alone k cap w p) → Roomed k cap w rs 0
unfolding least
roomed_none k cap w rs narrow long start = record {
  each = λ p l. start p (omega arith) ∙ cond-true _ _ _ (lt-ltb p k l);
  past = λ p l.
      elim (cases_lt p 8) [
        | inl m ↦ start p m ∙ cond-false _ _ _ (le-ltb p k l)
        | inr m ↦ get_or_past rs p 0 (omega arith)
      ];
}

pub roomed_all : (k : ℕ) (cap w : ℕ → ℕ) (rs : List ℕ) (n : ℕ) → n ≡ 2 ^ k → Roomed k cap w rs n
    → (p : ℕ) → p < k → get_or rs p 0 ≡ room k cap w p
unfolding room
roomed_all k cap w rs n e r p l = r.each p l ∙ ap (over k cap w p) e

pub roomed_more : (k : ℕ) (cap w : ℕ → ℕ) (old rs : List ℕ) (n most : ℕ) → k ≤ 8 → length rs ≡ 8 → most ≡ left k cap w n
    → Roomed k cap w old n → ((p : ℕ) → p < 8 → get_or rs p 0 ≡ lowered n most old p) → Roomed k cap w rs (n + 1)
roomed_more k cap w old rs n most narrow long leaves was now = record {
  each = λ p l.
      let a = was.each p l in
      let b = now p (omega arith) in
      let m = over_more k cap w p n in
      grind arith;
  past = λ p l.
      elim (cases_lt p 8) [
        | inl m ↦
            let a = was.past p l in
            let b = now p m in
            grind arith
        | inr m ↦ get_or_past rs p 0 (omega arith)
      ];
}
