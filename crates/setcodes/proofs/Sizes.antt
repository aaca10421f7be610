-- The size of a set is the number of ones among the binary digits of its code.
use Rattle.std.proofs.Common.{◌≡◌, ℕ, zero, suc, ◌+◌, ◌*◌, ◌/◌, ◌%◌, ◌^◌, ◌<◌, cond, eqb, refl, sym, ap, ◌∙◌, count_ones, mod-eq_of_lt, arith}
use Rattle.std.proofs.Math.Numerals.{one-add}
use lib.Count.{ones}
use Rattle.std.proofs.lemmas.Nat.{mod-pow-add, mod_below, pow_pos, ones_cat}
use Rattle.polymatroid.specs.Sets.{has}
use Rattle.polymatroid.specs.Side.{load}
use Rattle.polymatroid.specs.Kinds.{size}

-- a digit is counted if it is 1
counted : (d : ℕ) → d < 2 → cond (eqb d 1) 1 0 ≡ count_ones d
unfolding ones
counted zero l = refl
counted (suc zero) l = refl
counted (suc (suc d)) l = absurd (omega arith)

-- the positions below k are counted by the lowest k digits
low_digits : (k X : ℕ) → size k X ≡ count_ones (X % 2 ^ k)
unfolding size load has ones
low_digits zero X = let none : X % 1 ≡ 0 = omega arith in ap count_ones (sym none)
low_digits (suc k) X =
    let ih = low_digits k X in
    let split : X % 2 ^ suc k ≡ X / 2 ^ k % 2 * 2 ^ k + X % 2 ^ k = ap (λ n. X % 2 ^ n) (sym (one-add k)) ∙ mod-pow-add X 1 k in
    let digit = counted (X / 2 ^ k % 2) (omega arith) in
    omega (arith, ap count_ones split, ones_cat k (X / 2 ^ k % 2) (X % 2 ^ k) (mod_below X (2 ^ k) (pow_pos k)))

-- a set of positions below k
pub size_is : (k X : ℕ) → X < 2 ^ k → size k X ≡ count_ones X
size_is k X l = let low : X % 2 ^ k ≡ X = mod-eq_of_lt l in low_digits k X ∙ ap count_ones low
