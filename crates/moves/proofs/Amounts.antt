-- What a lane of a path lets through, and the least of it.
use Rattle.std.proofs.Common.{◌≡◌, ℕ, zero, suc, ◌+◌, ◌-◌, ◌<◌, min, true, List, [], ◌∷◌, map, fold, length, Some, None, Option, refl, ap, ◌∙◌, arith}
use Rattle.std.specs.List.{range_with_len}
use Rattle.std.proofs.lemmas.List.{length-map}
use Rattle.std.proofs.lemmas.List.FromFn.{map-range_with_len_more}
use Rattle.std.proofs.lemmas.List.Sums.{fold-append}
use Rattle.polymatroid.specs.Finite.{least}
use Rattle.floor.specs.Meaning.{Meaning}
use Rattle.network.specs.States.{State, Pole, Plus, Minus}
use Rattle.labelling.specs.Augmenting.{along}
use Rattle.labels.specs.declared.SignedLane.{SignedLane}
use Rattle.labels.specs.Labels.{signed_state, from_state}
use Rattle.moves.specs.Amount.{term_by_rooms, through, least_through, amount_by_rooms}
use Rattle.moves.specs.Paths.{signed_at, to_state}
use Rattle.moves.proofs.Reading.{along_at}

module _ (M : Meaning) (f : ℕ → ℕ) where
  -- it does not matter which of the two poles stands after the path
  after_none : (x y : State) (z : Option SignedLane) → term_by_rooms M f x y (from_state z) ≡ term_by_rooms M f x y (to_state z)
  after_none x (Pole b) z = refl
  after_none x (Plus e) None = refl
  after_none x (Plus e) (Some s) = refl
  after_none x (Minus e) z = refl

  pub through_is : (path : List SignedLane) (k : ℕ) (x z : Option SignedLane) → k < length path → from_state x ≡ along (map signed_state path) k
      → to_state z ≡ along (map signed_state path) (suc (suc k))
      → term_by_rooms M f (from_state x) (signed_state (signed_at path k)) (from_state z) ≡ through M f (map signed_state path) k
  through_is path k x z l p q =
      after_none (from_state x) (signed_state (signed_at path k)) z
      ∙ (λ i. term_by_rooms M f (p i) (along_at path k (suc k) l refl i) (q i))

-- the least of the values at the numbers up to n, by a fold over them
fold_least : (v : ℕ → ℕ) (n : ℕ) → fold min (v 0) (map v (range_with_len 1 n)) ≡ least (λ q. true) v (v 0) (suc n)
unfolding least
fold_least v zero = omega arith
fold_least v (suc n) =
    let on : suc n ≡ n + 1 = omega arith in
    ap (λ k. fold min (v 0) (map v (range_with_len 1 k))) on
    ∙ ap (fold min (v 0)) (map-range_with_len_more v 1 n (suc n) (omega arith))
    ∙ fold-append min (v 0) (map v (range_with_len 1 n)) (v (suc n) ∷ [])
    ∙ omega (arith, fold_least v n)

pub amount_round : (M : Meaning) (f : ℕ → ℕ) (path : List SignedLane) → 0 < length path
    → fold min (through M f (map signed_state path) 0) (map (through M f (map signed_state path)) (range_with_len 1 (length path - 1)))
    ≡ amount_by_rooms M f (map signed_state path)
unfolding amount_by_rooms least_through
amount_round M f path some =
    let p = map signed_state path in
    let all : suc (length path - 1) ≡ length p = omega (arith, length-map path signed_state) in
    fold_least (through M f p) (length path - 1)
    ∙ ap (least (λ q. true) (through M f p) (through M f p 0)) all
