-- The parts of a record, as the slice pattern and the split name them, are those of the definition.
use Rattle.std.proofs.Common.{◌≡◌, ℕ, ◌+◌, ◌-◌, ◌≤◌, List, length, take, drop, Ok, false, refl, ap, ◌∙◌, arith}
use Rattle.std.specs.List.{IsSplitAt}
use Rattle.std.proofs.lemmas.List.{take_rest, drop-drop, length-drop}
use Rattle.std.proofs.lemmas.Bool.Decides.{nat_tests}
use Rattle.plantformat.specs.Bytes.{word}
use Rattle.plantformat.specs.Judge.{cut_short}
use Rattle.framing.specs.Frames.{parts, cut_at}

-- b and r are the body, of `size` bytes, and the rest of what follows the four framing bytes
pub cut_is : (at : ℕ) (bs b r : List ℕ) (n k size : ℕ) → 4 ≤ length bs → n ≡ word bs 0 → k ≡ word bs 2 → 4 ≤ n → size ≡ n - 4
    → IsSplitAt (take (length bs - 4) (drop 4 bs)) size b r → Ok (parts k b r) ≡ cut_at at bs
cut_is at bs b r n k size four en ek low es halves =
    let after = take_rest bs 4 in
    let high : size + 4 ≤ length bs = omega (arith, halves.0, ap length after, length-drop 4 bs) in
    let whole : cut_short bs ≡ false = grind (arith, nat_tests) in
    let all : 4 + size ≡ word bs 0 = omega arith in
    let body = halves.1 ∙ ap (take size) after ∙ ap (λ x. take x (drop 4 bs)) (es ∙ ap (λ x. x - 4) en) in
    let rest = halves.2 ∙ ap (drop size) after ∙ drop-drop size 4 bs ∙ ap (λ x. drop x bs) all in
    simp (ek, body, rest, whole) refl
