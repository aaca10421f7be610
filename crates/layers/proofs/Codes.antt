-- The code of a set without the closed positions, as a program computes it: the bits of the set that the code of the closed
-- positions has not.
use Rattle.std.proofs.Common.{◌≡◌, ℕ, ◌^◌, ◌<◌, not, inl, inr, arith, w64}
use Rattle.std.specs.Int.{bit_not}
use Rattle.std.specs.Int.Bits.{bit_and}
use Rattle.std.proofs.lemmas.Bool.{cases_lt}
use Rattle.std.proofs.lemmas.Bool.Decides.{nat_tests}
use Rattle.std.proofs.lemmas.Nat.Bits.{bit_at_not}
use lib.Bits.{and_le_l}
use Rattle.polymatroid.specs.Sets.{has}
use Rattle.polymatroid.specs.Kinds.{kept}
use Rattle.polymatroid.proofs.Codes.{has_and, has_past, same_sets}
use Rattle.polymatroid.proofs.Layers.{kept_below, has_kept}

-- the bits of a number of 64 bits that another has not
has_not : (C p : ℕ) → C < 2 ^ 64 → p < 64 → has (bit_not w64 C) p ≡ not (has C p)
unfolding has
has_not C p fits on = let a = bit_at_not w64 C p fits on in grind (arith, nat_tests)

pub open_is_kept : (k C X : ℕ) → C < 2 ^ 64 → X < 2 ^ 64 → X < 2 ^ k → bit_and X (bit_not w64 C) ≡ kept k (has C) X
open_is_kept k C X fits set l =
    same_sets k (bit_and X (bit_not w64 C)) (kept k (has C) X) (omega (arith, and_le_l X (bit_not w64 C))) (kept_below k (has C) X)
    (λ p m.
    let a = has_and X (bit_not w64 C) p in
    let d = has_kept k (has C) X p m in
    elim (cases_lt p 64) [
      | inl h ↦ let b = has_not C p fits h in cc
      | inr h ↦ let b = has_past 64 X p set h in grind arith
    ])
