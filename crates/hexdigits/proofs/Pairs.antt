-- The digits of a pair, which stand at two places of the whole; and one pair of digits more, which writes one byte more.
use Rattle.std.proofs.Common.{◌≡◌, ℕ, zero, suc, ◌+◌, ◌*◌, ◌<◌, ◌≤◌, List, [], ◌∷◌, ◌++◌, length, get_or, drop, ap, ◌∙◌, refl, arith, below_more}
use native.Mathlib.Nat.{sub_self}
use Rattle.std.specs.Simd.{first_chunks}
use Rattle.std.proofs.lemmas.List.{get_or-take, get_or-drop, get_or_append_left, get_or-append_right}
use Rattle.hexdigits.specs.Hex.{Pair}

-- the pair at a place writes a byte
abbrev pub At : List ℕ → ℕ → ℕ → Type 0
At digits j byte = Pair (get_or digits (2 * j) 0) (get_or digits (2 * j + 1) 0) byte

digit_at : (n k i m : ℕ) (digits : List ℕ) → k < n → i < 2 → m ≡ 2 * k + i → get_or (get_or (first_chunks 2 n digits) k []) i 0 ≡ get_or digits m 0
digit_at zero k i m digits h two e = absurd (omega arith)
digit_at (suc n) zero i m digits h two e = let same : i ≡ m = omega arith in get_or-take 2 digits i 0 two ∙ ap (λ k. get_or digits k 0) same
digit_at (suc n) (suc k) i m digits h two e =
    let same : 2 + (2 * k + i) ≡ m = omega arith in
    let below : k < n = omega arith in
    digit_at n k i (2 * k + i) (drop 2 digits) below two refl ∙ get_or-drop 2 digits (2 * k + i) 0 ∙ ap (λ j. get_or digits j 0) same

-- the two digits of the pair at a place
pub pair_at :
    (digits : List ℕ) (pairs : List (List ℕ)) (n k : ℕ) → pairs ≡ first_chunks 2 n digits → k < n →
    (get_or (get_or pairs k []) 0 0 ≡ get_or digits (2 * k) 0) × (get_or (get_or pairs k []) 1 0 ≡ get_or digits (2 * k + 1) 0)
pair_at digits pairs n k e h =
    (rw e (digit_at n k 0 (2 * k) digits h (omega arith) (omega arith)), rw e (digit_at n k 1 (2 * k + 1) digits h (omega arith) refl))

pub pairs_more :
    (digits bytes : List ℕ) (b k : ℕ) → length bytes ≡ k → ((j : ℕ) → j < k → At digits j (get_or bytes j 0)) → At digits k b →
    (j : ℕ) → j < k + 1 → At digits j (get_or (bytes ++ b ∷ []) j 0)
pairs_more digits bytes b k long below here =
    below_more _ _
    (λ j h. let inside : j < length bytes = omega arith in rw (get_or_append_left bytes (b ∷ []) 0 j inside) (below j h))
    (let le : k ≤ k = omega arith in rw (get_or-append_right bytes (b ∷ []) k k 0 long le, sub_self k) here)
