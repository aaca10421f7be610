-- A vector whose elements were written through a slice holds what the slice held at the end.
use Rattle.std.proofs.Common.{◌≡◌, ℕ, List, ◌++◌, length, take, ◌∙◌, arith}
use Rattle.std.proofs.lemmas.List.{take_all, take-append-le}

pub refilled_is : (n : ℕ) (ys zs : List ℕ) → length ys ≡ n → take n (ys ++ zs) ≡ ys
refilled_is n ys zs len = take-append-le n ys zs (omega arith) ∙ take_all n ys (omega arith)
