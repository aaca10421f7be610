-- Tests of all numbers below a bound, and of all pairs of two lists.
use Rattle.std.proofs.Common.{◌≡◌, ℕ, zero, suc, ◌<◌, Bool, true, false, ◌&&◌, leb, List, [], ◌∷◌, zip, map, length, get_or, refl, ap, ◌∙◌, ap₂, arith}
use Rattle.std.specs.List.{list_all, range_with_len}
use Rattle.std.proofs.lemmas.List.Folds.{list_all-append, list_all-map}
use Rattle.std.proofs.lemmas.List.FromFn.{fill_by_all}
use Rattle.std.proofs.lemmas.Slice.Zip.{length-zip, get_or-zip}
use Rattle.polymatroid.specs.Tables.{every}
use Rattle.rooms.proofs.Rounds.{range_more}

-- tests that agree on each number agree on all
pub every_same : (n : ℕ) (t u : ℕ → Bool) → ((i : ℕ) → i < n → t i ≡ u i) → every n t ≡ every n u
unfolding every
every_same zero t u h = refl
every_same (suc n) t u h = ap₂ (λ a b. a && b) (every_same n t u (λ i l. h i (omega arith))) (h n (omega arith))

and_true : (a b : Bool) → (a && (b && true)) ≡ (a && b)
and_true true true = refl
and_true true false = refl
and_true false b = refl

-- a round over the numbers below n tests them all
pub every_round : (n : ℕ) (t : ℕ → Bool) → list_all t (range_with_len 0 n) ≡ every n t
unfolding every
every_round zero t = refl
every_round (suc n) t =
    ap (list_all t) (range_more 0 n n (omega arith)) ∙ list_all-append t (range_with_len 0 n) (n ∷ [])
    ∙ and_true (list_all t (range_with_len 0 n)) (t n) ∙ ap (λ b. b && t n) (every_round n t)

-- the pairs of two lists, by their numbers
pub pairs_are : {A B : Type 0} (xs : List A) (ys : List B) (x : A) (y : B) → length xs ≡ length ys
    → zip xs ys ≡ map (λ k. (get_or xs k x, get_or ys k y)) (range_with_len 0 (length ys))
pairs_are xs ys x y same =
    fill_by_all (λ k. (get_or xs k x, get_or ys k y)) (zip xs ys) (length ys) (x, y) (omega (arith, length-zip xs ys))
    (λ k l. get_or-zip xs ys k (x, y) (omega arith) l)

-- a round over the pairs of two lists tests them all
pub every_pair : (xs ys : List ℕ) → length xs ≡ length ys
    → list_all (λ q. leb q.0 q.1) (zip xs ys) ≡ every (length ys) (λ k. leb (get_or xs k 0) (get_or ys k 0))
every_pair xs ys same =
    ap (list_all (λ q. leb q.0 q.1)) (pairs_are xs ys 0 0 same)
    ∙ list_all-map (λ q. leb q.0 q.1) (λ k. (get_or xs k 0, get_or ys k 0)) (range_with_len 0 (length ys))
    ∙ every_round (length ys) (λ k. leb (get_or xs k 0) (get_or ys k 0))
