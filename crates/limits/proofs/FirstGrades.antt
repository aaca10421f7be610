-- Grades in a list: the sum of the first of them, and whether each is at most the one before.
use Rattle.std.proofs.Common.{◌≡◌, ℕ, zero, suc, ◌+◌, ◌-◌, ◌*◌, ◌<◌, ◌≤◌, Bool, true, false, leb, List, length, get_or, take, sum, Option, None, min, length-take, refl, sym, ap, ◌∙◌, add-one, suc-mul, arith, get_or-take}
use mathlib.Core.Path.{subst, subst⁻¹}
use denote.Param.Members.{Mut}
use denote.Ref.{Bor}
use Rattle.std.proofs.lemmas.List.{map-id}
use Rattle.std.proofs.lemmas.List.Sums.{sum_by_more}
use Rattle.std.proofs.lemmas.Iterator.{YieldsList}
use Rattle.std.proofs.lemmas.Iterator.Consumers.{YieldsList-so_far, YieldsList-end}
use Rattle.std.specs.Bool.{IsTrue, OnTrue}
use Rattle.std.specs.List.{IsAllAdjacentAnswer}
use Rattle.std.specs.Iterator.Order.{ActsAsAtTwo, IsSortedAnswer}
use Rattle.std.specs.Iterator.Runs.{SomeRun, YieldsRun}
use Rattle.polymatroid.specs.Kinds.{firsts, size, graded}
use Rattle.polymatroid.proofs.Grades.{size_top}
use Rattle.polymatroid.proofs.Tables.{every_from}
use Rattle.plantformat.specs.Rules.{steps_fall}
use Rattle.limits.proofs.Checked.{every_fails}

-- the sum of the first n of a list
first_grades : (gs : List ℕ) (n : ℕ) → n ≤ length gs → sum (take n gs) ≡ firsts (λ j. get_or gs j 0) n
unfolding firsts
first_grades gs zero l = refl
first_grades gs (suc n) l =
    let more : sum (take (n + 1) gs) ≡ sum (take n gs) + get_or gs n 0 = sum_by_more (λ x. x) gs n 0 (omega arith) in
    ap (λ n. sum (take n gs)) (sym (add-one n)) ∙ more ∙ ap (λ s. s + get_or gs n 0) (first_grades gs n (omega arith))

-- it is low where each of these is
first_low : (top : ℕ) (gs : List ℕ) (n : ℕ) → ((j : ℕ) → j < n → get_or gs j 0 ≤ top) → firsts (λ j. get_or gs j 0) n ≤ n * top
unfolding firsts
first_low top gs zero low = omega arith
first_low top gs (suc n) low =
    let more : suc n * top ≡ n * top + top = suc-mul n top in
    omega (arith, first_low top gs n (λ j l. low j (omega arith)), low n (omega arith))

-- the sum of as many first grades as a set of k positions has members
module _ (gs : List ℕ) (k X : ℕ) (long : k ≤ length gs) where
  pub graded_is : sum (take (size k X) gs) ≡ graded (λ j. get_or gs j 0) k X
  unfolding graded
  graded_is = first_grades gs (size k X) (omega (arith, size_top k X))

  pub graded_low : (top : ℕ) → ((j : ℕ) → j < k → get_or gs j 0 ≤ top) → sum (take (size k X) gs) ≤ size k X * top
  graded_low top low =
      let few = size_top k X in
      omega (arith, first_grades gs (size k X) (omega arith), first_low top gs (size k X) (λ j l. low j (omega arith)))

-- ---- whether the grades fall

-- what holds of the items that were looked at holds of the whole list
answered : (h : ℕ → ℕ → Bool) (xs all : List ℕ) (whole r : Bool) → xs ≡ take (length xs) all → (whole ≡ true → xs ≡ all) → OnTrue r (IsTrue whole)
    → IsAllAdjacentAnswer (λ x y b. h x y ≡ b) xs r → IsAllAdjacentAnswer (λ x y b. h x y ≡ b) all r
answered h xs all whole true front end w told = subst (λ ys. IsAllAdjacentAnswer (λ x y b. h x y ≡ b) ys true) (end w) told
answered h xs all whole false front end w (k, l, told) =
    let long : length xs ≡ min (length xs) (length all) = ap length front ∙ length-take (length xs) all in
    let at : (j d : ℕ) → j < length xs → get_or xs j d ≡ get_or all j d =
    λ j d m. ap (λ ys. get_or ys j d) front ∙ get_or-take (length xs) all j d m in
    (k, omega arith, λ d. (λ i. h (sym (at k d (omega arith)) i) (sym (at (k + 1) d l) i)) ∙ told d)

-- an iterator that was asked whether its items are sorted tells so of its list
pub sorted_is : {S F : Type 0} {steps : S → Option ℕ → S → Type 0} {s : S} {all : List ℕ} {g : Mut F (Bor ℕ × (Bor ℕ × Unit {0})) Bool} {f : F}
    (h : ℕ → ℕ → Bool) (r : Bool)
    → SomeRun steps s (λ p. OnTrue r (IsTrue p.whole) × ((h : ℕ → ℕ → Bool) → ActsAsAtTwo g f h → IsSortedAnswer h p.items r))
    → YieldsList steps (λ x. x) s all → ActsAsAtTwo g f h → IsAllAdjacentAnswer (λ x y b. h x y ≡ b) all r
unfolding YieldsRun
sorted_is {S} {F} {steps} {s} {all} h r (p, at, told) yields acts =
    let here : YieldsList steps (λ x. x) p.from all = subst⁻¹ (λ s. YieldsList steps (λ x. x) s all) at yields in
    let same = sym (map-id p.items) in
    let front = same ∙ YieldsList-so_far here p.items p.gave.0.0 p.gave.0.1 in
    answered h p.items all p.whole r front
    (λ w. let last = p.gave.0.2 w in same ∙ (YieldsList-end here p.items p.gave.0.0 p.gave.0.1 None last.0 refl last.1).0) told.0 (told.1 h acts).0

-- none is above the one before
pub falls_is : (xs : List ℕ) (r : Bool) → IsAllAdjacentAnswer (λ before after b. leb after before ≡ b) xs r → r ≡ steps_fall (length xs) xs
unfolding steps_fall
falls_is xs true told =
    sym (every_from (length xs - 1) (λ i. leb (get_or xs (suc i) 0) (get_or xs i 0))
    (λ i l. ap (λ n. leb (get_or xs n 0) (get_or xs i 0)) (sym (add-one i)) ∙ told i 0 (omega arith)))
falls_is xs false (k, l, told) =
    sym (every_fails (length xs - 1) (λ i. leb (get_or xs (suc i) 0) (get_or xs i 0)) k (omega arith)
    (ap (λ n. leb (get_or xs n 0) (get_or xs k 0)) (sym (add-one k)) ∙ told 0))
