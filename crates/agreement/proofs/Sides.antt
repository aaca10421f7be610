-- What is worked out of a side from its caps and its trays: sides with the same caps and the same trays have the same loads,
-- rooms and tight sets.
use Rattle.std.proofs.Common.{◌≡◌, ℕ, zero, suc, ◌-◌, ◌^◌, ◌<◌, Bool, cond, not, ◌&&◌, eqb, ltb, refl, ap, ◌∙◌, ap₂, arith}
use Rattle.std.proofs.lemmas.Nat.{pow_below}
use Rattle.polymatroid.specs.Finite.{first, least}
use Rattle.polymatroid.specs.Sets.{has}
use Rattle.polymatroid.specs.Side.{load, left, room, room_but, tight_set}
use Rattle.polymatroid.specs.Tables.{every}
use Rattle.polymatroid.proofs.Finite.{least_same_values}
use Rattle.polymatroid.proofs.Side.{load_same}

-- tests that agree below n have the same first number that passes
pub first_same : (s t : ℕ → Bool) (n : ℕ) → ((i : ℕ) → i < n → s i ≡ t i) → first s n ≡ first t n
unfolding first
first_same s t zero h = refl
first_same s t (suc n) h =
    ap₂ (λ k b. cond (ltb k n) k (cond b n (suc n))) (first_same s t n (λ i l. h i (omega arith))) (h n (omega arith))

-- and all pass the one where all pass the other
pub every_same : (n : ℕ) (s t : ℕ → Bool) → ((i : ℕ) → i < n → s i ≡ t i) → every n s ≡ every n t
unfolding every
every_same zero s t h = refl
every_same (suc n) s t h = ap₂ (λ a b. a && b) (every_same n s t (λ i l. h i (omega arith))) (h n (omega arith))

module _ (k : ℕ) (cap other v w : ℕ → ℕ) (caps : (X : ℕ) → X < 2 ^ k → other X ≡ cap X) (trays : (p : ℕ) → p < k → w p ≡ v p) where
  pub load_is : (X : ℕ) → load w k X ≡ load v k X
  load_is X = load_same w v k X X (λ p l. ap (λ n. cond (has X p) n 0) (trays p l))

  left_is : (X : ℕ) → X < 2 ^ k → left k other w X ≡ left k cap v X
  left_is X l = ap₂ (λ a b. a - b) (caps X l) (load_is X)

  -- the least of what is left below the caps of the sets that pass
  least_left : (t : ℕ → Bool) (e : ℕ) → e < k
      → least t (left k other w) (left k other w (2 ^ e)) (2 ^ k) ≡ least t (left k cap v) (left k cap v (2 ^ e)) (2 ^ k)
  least_left t e l =
      least_same_values t (left k other w) (left k cap v) (left k other w (2 ^ e)) (2 ^ k) left_is
      ∙ ap (λ d. least t (left k cap v) d (2 ^ k)) (left_is (2 ^ e) (pow_below e k l))

  pub room_is : (e : ℕ) → e < k → room k other w e ≡ room k cap v e
  unfolding room
  room_is e l = least_left (λ X. has X e) e l

  pub room_but_is : (e g : ℕ) → e < k → room_but k other w e g ≡ room_but k cap v e g
  unfolding room_but
  room_but_is e g l = least_left (λ X. has X e && not (has X g)) e l

  pub tight_set_is : (e : ℕ) → tight_set k other w e ≡ tight_set k cap v e
  unfolding tight_set
  tight_set_is e =
      first_same (λ X. has X e && eqb (load w k X) (other X)) (λ X. has X e && eqb (load v k X) (cap X)) (2 ^ k)
      (λ X l. ap₂ (λ a b. has X e && eqb a b) (load_is X) (caps X l))
