-- The tests of a list of grades.
use Rattle.std.proofs.Common.{◌≡◌, ℕ, zero, suc, ◌-◌, ◌*◌, ◌≤◌, Bool, true, false, ◌&&◌, leb, List, [], ◌∷◌, length, get_or, take, sum, refl, sym, ap, ◌∙◌, arith}
use Rattle.std.specs.List.{list_all, IsAllAdjacentAnswer}
use Rattle.std.proofs.lemmas.Bool.Decides.{nat_tests}
use Rattle.std.proofs.lemmas.List.Sums.{sum_by_more}
use Rattle.polymatroid.specs.Tables.{every}
use Rattle.polymatroid.proofs.Tables.{every_from}
use Rattle.plantformat.specs.Numbers.{top_lane}
use Rattle.limits.proofs.Checked.{every_fails}
use Rattle.limits.proofs.Ranges.{every_front}
use Rattle.linefloor.specs.Line.{grades_low, grades_fall}
use Rattle.linefloor.proofs.Lawful.{low_at}
use Rattle.lines.specs.Made.{grade_of}

-- every place of a list passes where every element does
every_place : (t : ℕ → Bool) (xs : List ℕ) → every (length xs) (λ j. t (get_or xs j 0)) ≡ list_all t xs
unfolding every
every_place t [] = refl
every_place t (x ∷ xs) = every_front (length xs) (λ j. t (get_or (x ∷ xs) j 0)) ∙ ap (λ b. t x && b) (every_place t xs)

pub low_all : (gs : List ℕ) → grades_low (length gs) (grade_of gs) ≡ list_all (λ g. leb g top_lane) gs
unfolding grades_low
low_all gs = every_place (λ g. leb g top_lane) gs

pub falls_by : (gs : List ℕ) (r : Bool) → IsAllAdjacentAnswer (λ x y b. b ≡ leb y x) gs r → r ≡ grades_fall (length gs) (grade_of gs)
unfolding grades_fall
falls_by gs true h =
    sym (every_from (length gs - 1) (λ i. leb (get_or gs (suc i) 0) (get_or gs i 0)) (λ i l. let a = h i 0 (omega arith) in grind (arith, nat_tests)))
falls_by gs false (k, l, h) =
    let a = h 0 in sym (every_fails (length gs - 1) (λ i. leb (get_or gs (suc i) 0) (get_or gs i 0)) k (omega arith) (grind (arith, nat_tests)))

-- the sum of the first grades is low
pub first_low : (gs : List ℕ) (n : ℕ) → grades_low (length gs) (grade_of gs) ≡ true → n ≤ length gs → sum (take n gs) ≤ n * top_lane
first_low gs zero low l = omega arith
first_low gs (suc n) low l =
    let ih = first_low gs n low (omega arith) in
    let more = sum_by_more (λ x. x) gs n 0 (omega arith) in
    let here = low_at (length gs) (grade_of gs) low n (omega arith) in
    grind arith
