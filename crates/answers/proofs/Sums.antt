-- The sum of the own caps of the members of a set, over the positions of a side.
use Rattle.std.proofs.Common.{◌≡◌, ℕ, zero, suc, ◌+◌, ◌*◌, ◌<◌, ◌≤◌, Bool, true, false, cond, List, [], ◌∷◌, ◌++◌, length, get_or, refl, sym, ap, ◌∙◌, add-zero, zero-add, arith}
use mathlib.Core.Path.{subst⁻¹}
use Rattle.std.specs.List.{filter, range_with_len, sum_by}
use Rattle.std.proofs.lemmas.List.Elements.{All-get_or, All-from_get_or, All-filter, filter-append}
use Rattle.std.proofs.lemmas.List.FromFn.{length-range_with_len, get_or-range_with_len}
use Rattle.std.proofs.lemmas.List.Sums.{sum_by-append}
use Rattle.polymatroid.specs.Sets.{has}
use Rattle.polymatroid.specs.Side.{load}
use Rattle.polymatroid.proofs.Grades.{load_top}

-- the members of a set among the first n positions
abbrev pub members : ℕ → ℕ → List ℕ
members X n = filter (has X) (range_with_len 0 n)

-- what stands at a place of the first n positions is one of them
pub range_below : (n i p : ℕ) → i < length (range_with_len 0 n) → p ≡ get_or (range_with_len 0 n) i p → p < n
range_below n i p l is =
    let long = length-range_with_len 0 n in
    omega (arith, is, get_or-range_with_len 0 n i p (omega arith))

-- and so is what stands at a place of the members
pub member_below : (X n i p : ℕ) → i < length (members X n) → p ≡ get_or (members X n) i p → p < n
member_below X n i p l is =
    let long = length-range_with_len 0 n in
    subst⁻¹ (λ q. q < n) is
    (All-get_or (λ q. q < n) (members X n) i p l
    (All-filter (has X) (λ q. q < n) (range_with_len 0 n)
    (All-from_get_or (λ q. q < n) (range_with_len 0 n) 0 (λ k m. omega (arith, get_or-range_with_len 0 n k 0 (omega arith))))))

-- one position more behind the others
range_push : (a n : ℕ) → range_with_len a (suc n) ≡ range_with_len a n ++ (a + n) ∷ []
range_push a zero = ap (λ p. p ∷ []) (sym (add-zero a))
range_push a (suc n) =
    ap (λ ps. a ∷ ps) (range_push (a + 1) n)
    ∙ ap (λ p. a ∷ (range_with_len (a + 1) n ++ p ∷ [])) (let e : a + 1 + n ≡ a + suc n = omega arith in e)

module _ (w : ℕ → ℕ) (X : ℕ) where
  -- the position that comes last counts if it is a member
  last_counts : (n : ℕ) → sum_by w (filter (has X) (n ∷ [])) ≡ cond (has X n) (w n) 0
  last_counts n = by (has X n)
    where
      by : (b : Bool) → sum_by w (cond b (n ∷ []) []) ≡ cond b (w n) 0
      by true = zero-add (w n)
      by false = refl

  -- the sum over the first n positions
  pub load_listed : (n : ℕ) → sum_by w (members X n) ≡ load w n X
  unfolding load
  load_listed zero = refl
  load_listed (suc n) =
      ap (λ ps. sum_by w (filter (has X) ps)) (range_push 0 n ∙ ap (λ p. range_with_len 0 n ++ p ∷ []) (zero-add n))
      ∙ ap (sum_by w) (filter-append (has X) (range_with_len 0 n) (n ∷ []))
      ∙ sum_by-append w (members X n) (filter (has X) (n ∷ []))
      ∙ (λ i. load_listed n i + last_counts n i)

  -- it is low where each own cap is
  pub load_low : (top n : ℕ) → ((p : ℕ) → p < n → w p ≤ top) → sum_by w (members X n) ≤ n * top
  load_low top n low = omega (arith, load_listed n, load_top w top n X low)
