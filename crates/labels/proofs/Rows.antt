-- The states of a path are those from its end back along the names, in reverse.
use Rattle.std.proofs.Common.{◌≡◌, ℕ, zero, suc, ◌+◌, ◌-◌, List, [], ◌∷◌, ◌++◌, map, reverse, sym, refl, ap, ◌∙◌, add-one, arith}
use mathlib.Core.List.{reverse-cons}
use Rattle.std.proofs.lemmas.List.{reverse-append, map-append}
use Rattle.network.specs.States.{State}
use Rattle.labelling.specs.Table.{Mark, back, path}
use Rattle.labelling.specs.Steps.{row}

-- states that agree give the same row
row_same : (P Q : ℕ → State) (l : ℕ) → ((i : ℕ) → P i ≡ Q i) → row P l ≡ row Q l
unfolding row
row_same P Q zero h = refl
row_same P Q (suc l) h = let a = h 1 in let b = row_same (λ i. P (suc i)) (λ i. Q (suc i)) l (λ i. h (suc i)) in cc

-- one state more
pub row_more : (P : ℕ → State) (l : ℕ) → row P (l + 1) ≡ row P l ++ P (l + 1) ∷ []
unfolding row
row_more P zero = refl
row_more P (suc l) = rw add-one (ap (λ r. P 1 ∷ r) (rw add-one at (row_more (λ i. P (suc i)) l)))

-- a row in reverse
pub row_reversed : (P : ℕ → State) (l : ℕ) → reverse (row P l) ≡ row (λ i. P (suc l - i)) l
unfolding row
row_reversed P zero = refl
row_reversed P (suc l) =
    ap reverse (rw add-one at (row_more P l)) ∙ reverse-append (row P l) (P (suc l) ∷ [])
    ∙ ap (λ r. P (suc l) ∷ r) (row_reversed P l ∙ row_same _ _ l (λ i. ap P (omega arith))) ∙ ap (λ x. x ∷ row (λ i. P (suc (suc l) - suc i)) l) (ap P (omega arith))

-- the states of a path are those before its end, in reverse
pub path_row : (l e : ℕ) (t : List Mark) → reverse (row (back e t) l) ≡ row (path l e t) l
unfolding path
path_row l e t = row_reversed (back e t) l

-- a list of states that is reversed
pub map_reversed : {X : Type 0} (f : X → State) (xs : List X) → map f (reverse xs) ≡ reverse (map f xs)
map_reversed f [] = refl
map_reversed f (x ∷ xs) = ap (map f) (reverse-cons x xs) ∙ map-append f (reverse xs) (x ∷ []) ∙ ap (λ l. l ++ f x ∷ []) (map_reversed f xs) ∙ sym (reverse-cons (f x) (map f xs))
