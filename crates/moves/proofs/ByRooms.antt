-- The amount by rooms is the amount of the rules.
use Rattle.std.proofs.Common.{◌≡◌, ℕ, suc, ◌<◌, min, true, length, sym, refl, ap, ◌∙◌, arith}
use Rattle.polymatroid.specs.Finite.{least}
use Rattle.polymatroid.proofs.Finite.{least_same_values}
use Rattle.floor.specs.Floor.{leaving, entering}
use Rattle.floor.specs.Meaning.{Meaning, Lawful}
use Rattle.network.specs.Plans.{Fits}
use Rattle.network.specs.States.{State, Pole, Plus, Minus, OnFloor, holder}
use Rattle.labelling.specs.Amount.{term, least_term, amount_of}
use Rattle.labelling.specs.Augmenting.{along}
use Rattle.measures.specs.ByRooms.{Another}
use Rattle.measures.proofs.ByRooms.{rooms_beside}
use Rattle.moves.specs.Amount.{term_by_rooms, through, least_through, amount_by_rooms, AmountsByRooms}

-- a state of another holder is another lane
another : (e : ℕ) (x : State) → (holder x ≡ suc (suc e) → ⊥) → Another e x
another e (Pole b) h = tt
another e (Plus g) h = λ r. h (ap (λ v. suc (suc v)) (sym r))
another e (Minus g) h = λ r. h (ap (λ v. suc (suc v)) (sym r))

term_is : (M : Meaning) (f : ℕ → ℕ) → Lawful M → Fits M f → (x y z : State) → OnFloor M x → OnFloor M y → OnFloor M z → (holder x ≡ holder y → ⊥)
    → (holder y ≡ holder z → ⊥) → term_by_rooms M f x y z ≡ term M f x y z
term_is M f laws fits x (Pole b) z ox oy oz a b' = refl
term_is M f laws fits x (Plus e) z ox oy oz a b' = λ i. min
    (rooms_beside M f laws fits leaving e x oy ox (another e x a) i)
    (rooms_beside M f laws fits entering e z oy oz (another e z (λ r. b' (sym r))) i)
term_is M f laws fits x (Minus e) z ox oy oz a b' = refl

pub amounts_by_rooms : AmountsByRooms
unfolding amount_by_rooms least_through amount_of least_term
amounts_by_rooms M f laws fits p some on apart =
    least_same_values (λ q. true) (λ q. through M f p q) (λ q. term M f (along p q) (along p (suc q)) (along p (suc (suc q)))) (through M f p 0) (length p) same
    ∙ ap (λ d. least (λ q. true) (λ q. term M f (along p q) (along p (suc q)) (along p (suc (suc q)))) d (length p)) (same 0 some)
  where
    same : (q : ℕ) → q < length p → through M f p q ≡ term M f (along p q) (along p (suc q)) (along p (suc (suc q)))
    same q l =
        term_is M f laws fits (along p q) (along p (suc q)) (along p (suc (suc q))) (on q (omega arith)) (on (suc q) (omega arith)) (on (suc (suc q)) (omega arith))
        (apart q (omega arith)) (apart (suc q) (omega arith))
