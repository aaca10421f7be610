-- The limit of a side: it is one of the list, and where a side has one at most it is any limit of that side.
use Rattle.std.proofs.Common.{◌≡◌, ℕ, zero, suc, ◌<◌, Bool, true, false, cond, not, eqb, List, [], ◌∷◌, length, is_some, Some, sym, refl, ap, ◌∙◌, arith}
use Rattle.std.proofs.lemmas.Bool.{true≢false, and_parts, and_from, eqb-true, ne_eqb, eq-eqb, not-true, not_from_false}
use Rattle.plantformat.specs.Records.{Limit, side_of, limit_of}
use Rattle.plantformat.specs.Rules.{limit, one_each}

-- the limit that is found is in the list, and it is for the side
pub limit_of_found : (s : ℕ) (ks : List Limit) (k : Limit) → limit_of s ks ≡ Some k
    → (j : ℕ) × (j < length ks) × (limit ks j ≡ k) × (side_of k ≡ s)
limit_of_found s [] k e = let z : ◌≡◌ {A = ℕ} 0 1 = cc in absurd (omega arith)
limit_of_found s (l ∷ ks) k e = by (limit_of_found s ks k) (eqb (side_of l) s) refl e
  where
    by : (limit_of s ks ≡ Some k → (j : ℕ) × (j < length ks) × (limit ks j ≡ k) × (side_of k ≡ s))
        → (b : Bool) → eqb (side_of l) s ≡ b → cond b (Some l) (limit_of s ks) ≡ Some k
        → (j : ℕ) × (j < suc (length ks)) × (limit (l ∷ ks) j ≡ k) × (side_of k ≡ s)
    by rest true b e = let q : l ≡ k = cc in (0, omega arith, q, ap side_of (sym q) ∙ eqb-true (side_of l) s b)
    by rest false b e = let r = rest e in (suc r.0, omega (arith, r.1), r.2, r.3)

-- a side has no limit just where no limit of the list is for it
pub limit_of_none : (s : ℕ) (ks : List Limit) → is_some (limit_of s ks) ≡ false → (j : ℕ) → j < length ks → side_of (limit ks j) ≡ s → ⊥
limit_of_none s [] e j l q = omega arith
limit_of_none s (k ∷ ks) e zero l q = true≢false (rw (eq-eqb (side_of k) s q) at e)
limit_of_none s (k ∷ ks) e (suc j) l q = by (λ e. limit_of_none s ks e j (omega arith) q) (eqb (side_of k) s) e
  where
    by : (is_some (limit_of s ks) ≡ false → ⊥) → (b : Bool) → is_some (cond b (Some k) (limit_of s ks)) ≡ false → ⊥
    by rest true e = true≢false e
    by rest false e = rest e

pub limit_of_none_from : (s : ℕ) (ks : List Limit) → ((j : ℕ) → j < length ks → side_of (limit ks j) ≡ s → ⊥) → is_some (limit_of s ks) ≡ false
limit_of_none_from s [] h = refl
limit_of_none_from s (k ∷ ks) h =
    let n : eqb (side_of k) s ≡ false = ne_eqb (side_of k) s (h 0 (omega arith)) in
    rw n (limit_of_none_from s ks (λ j l. h (suc j) (omega arith)))

-- the test that no two limits are for one side
pub one_each_apart : (ks : List Limit) → one_each ks ≡ true
    → (i j : ℕ) → i < j → j < length ks → side_of (limit ks i) ≡ side_of (limit ks j) → ⊥
unfolding one_each
one_each_apart [] e i j l m q = omega arith
one_each_apart (k ∷ ks) e i zero l m q = omega arith
one_each_apart (k ∷ ks) e zero (suc j) l m q =
    let a = and_parts (not (is_some (limit_of (side_of k) ks))) (one_each ks) e in
    limit_of_none (side_of k) ks (not-true (is_some (limit_of (side_of k) ks)) a.0) j (omega arith) (sym q)
one_each_apart (k ∷ ks) e (suc i) (suc j) l m q =
    one_each_apart ks (and_parts (not (is_some (limit_of (side_of k) ks))) (one_each ks) e).1 i j (omega arith) (omega arith) q

pub one_each_from : (ks : List Limit) → ((i j : ℕ) → i < j → j < length ks → side_of (limit ks i) ≡ side_of (limit ks j) → ⊥) → one_each ks ≡ true
unfolding one_each
one_each_from [] h = refl
one_each_from (k ∷ ks) h =
    and_from (not (is_some (limit_of (side_of k) ks))) (one_each ks)
    (not_from_false (is_some (limit_of (side_of k) ks))
    (limit_of_none_from (side_of k) ks (λ j l q. h 0 (suc j) (omega arith) (omega arith) (sym q))))
    (one_each_from ks (λ i j l m q. h (suc i) (suc j) (omega arith) (omega arith) q))

-- where a side has one limit at most, each limit is the one found for its side
pub limit_of_at : (ks : List Limit) → ((i j : ℕ) → i < j → j < length ks → side_of (limit ks i) ≡ side_of (limit ks j) → ⊥)
    → (j : ℕ) → j < length ks → limit_of (side_of (limit ks j)) ks ≡ Some (limit ks j)
limit_of_at [] h j l = absurd (omega arith)
limit_of_at (k ∷ ks) h zero l = let b : eqb (side_of k) (side_of k) ≡ true = eq-eqb (side_of k) (side_of k) refl in rw b refl
limit_of_at (k ∷ ks) h (suc j) l =
    let n : eqb (side_of k) (side_of (limit ks j)) ≡ false =
    ne_eqb (side_of k) (side_of (limit ks j)) (h 0 (suc j) (omega arith) (omega arith)) in
    rw n (limit_of_at ks (λ a b m o q. h (suc a) (suc b) (omega arith) (omega arith) q) j (omega arith))
