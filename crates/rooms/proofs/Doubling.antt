-- The sums of all sets, doubled with each position: a set with the new position has that of the set without it and the trays there.
use Rattle.std.proofs.Common.{◌≡◌, ℕ, suc, ◌+◌, ◌-◌, ◌*◌, ◌^◌, ◌<◌, ◌≤◌, true, cond, List, get_or, sym, refl, ap, ◌∙◌, inl, inr, pow-suc, add-one, arith, pow_mono}
use Rattle.std.proofs.lemmas.Bool.{cases_lt}
use Rattle.polymatroid.specs.Sets.{has}
use Rattle.polymatroid.specs.Side.{load}
use Rattle.polymatroid.proofs.Codes.{has_low, has_top, has_past}
use Rattle.polymatroid.proofs.Side.{load_same}

-- the table past `top` holds the sums before it, each with t more, for the first n sets
abbrev pub Doubled : List ℕ → List ℕ → ℕ → ℕ → ℕ → Type 0
Doubled old ss top t n =
    ((X : ℕ) → X < top → get_or ss X 0 ≡ get_or old X 0) × ((X : ℕ) → X < n → get_or ss (top + X) 0 ≡ get_or old X 0 + t)

pub load_none : (w : ℕ → ℕ) (X : ℕ) → load w 0 X ≡ 0
unfolding load
load_none w X = refl

-- a set below the new position has no more than before
pub load_low : (w : ℕ → ℕ) (k X : ℕ) → X < 2 ^ k → load w (k + 1) X ≡ load w k X
unfolding load
load_low w k X l = let o = has_past k X k l (omega arith) in rw add-one (grind arith)

-- the same set with the new position has its trays too
pub load_top : (w : ℕ → ℕ) (k X : ℕ) → X < 2 ^ k → load w (k + 1) (2 ^ k + X) ≡ load w k X + w k
unfolding load
load_top w k X l =
    let top : has (2 ^ k + X) k ≡ true = ap (λ x. has x k) (omega arith) ∙ has_top k X 1 l in
    let low : load w k (2 ^ k + X) ≡ load w k X =
    load_same w w k (2 ^ k + X) X (λ p m. ap (λ b. cond b (w p) 0) (ap (λ x. has x p) (omega arith) ∙ has_low k X p 1 m)) in
    rw add-one (grind arith)

-- the first sets have their loads, which stay low
abbrev pub Loaded : (ℕ → ℕ) → List ℕ → ℕ → Type 0
Loaded w ss k =
    ((X : ℕ) → X < 2 ^ k → get_or ss X 0 ≡ load w k X) × ((X : ℕ) → X < 2 ^ k → get_or ss X 0 ≤ k * 2 ^ 32)

pub loaded_none : (w : ℕ → ℕ) (ss : List ℕ) → get_or ss 0 0 ≡ 0 → Loaded w ss 0
loaded_none w ss e = (
  λ X l. let z : X ≡ 0 = omega arith in rw (z, load_none w 0) e,
  λ X l. let z : X ≡ 0 = omega arith in rw z (omega arith),
)

pub loaded_more : (w : ℕ → ℕ) (old ss : List ℕ) (k top : ℕ) → top ≡ 2 ^ k → w k < 2 ^ 32
    → Loaded w old k → Doubled old ss top (w k) top → Loaded w ss (k + 1)
loaded_more w old ss k top is small was d = (
  λ X l. elim (cases_lt X top) [
    | inl m ↦ let on : X < 2 ^ k = omega arith in d.0 X m ∙ was.0 X on ∙ sym (load_low w k X on)
    | inr m ↦
        let Y : ℕ = X - top in
        let on : Y < 2 ^ k = omega (arith, pow-suc 2 k, ap (λ n. 2 ^ n) (add-one k)) in
        let back : X ≡ top + Y = omega arith in
        ap (λ x. get_or ss x 0) back ∙ d.1 Y (omega arith) ∙ ap (λ x. x + w k) (was.0 Y on) ∙ sym (load_top w k Y on)
        ∙ ap (load w (k + 1)) (omega arith)
  ],
  λ X l. elim (cases_lt X top) [
    | inl m ↦ omega (arith, d.0 X m, was.1 X (omega arith))
    | inr m ↦
        let Y : ℕ = X - top in
        let on : Y < 2 ^ k = omega (arith, pow-suc 2 k, ap (λ n. 2 ^ n) (add-one k)) in
        let back : X ≡ top + Y = omega arith in
        omega (arith, ap (λ x. get_or ss x 0) back ∙ d.1 Y (omega arith), was.1 Y on)
  ],
)

-- the sets with one position of the side on top are sets of the side
pub sets_on : (p k : ℕ) → p < k → 2 ^ p + 2 ^ p ≤ 2 ^ k
sets_on p k l = let h : 2 ^ suc p ≤ 2 ^ k = pow_mono (omega arith) in omega (arith, pow-suc 2 p)
