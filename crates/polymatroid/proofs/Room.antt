-- The room of a position, and when it is full.
use Rattle.std.proofs.Common.{◌≡◌, ℕ, ◌+◌, ◌-◌, ◌^◌, ◌<◌, ◌≤◌, not, ◌&&◌, ap, ◌∙◌, inl, inr, arith}
use Rattle.std.proofs.lemmas.Nat.{pow_below}
use Rattle.std.proofs.lemmas.Bool.Decides.{nat_tests}
use Rattle.std.proofs.lemmas.Bool.{cases_Bool, cases_lt}
use Rattle.polymatroid.specs.Sets.{has}
use Rattle.polymatroid.specs.Finite.{least}
use Rattle.polymatroid.specs.Side.{load, In, Out, Caps, Within, Tight, left, room, room_but, tight_set, Full}
use Rattle.polymatroid.proofs.Codes.{has_one, has_past}
use Rattle.polymatroid.proofs.Finite.{least_le, least_at, least_same, least_same_values}
use Rattle.polymatroid.proofs.Side.{tight_set_in, tight_set_smallest}

module _ (k : ℕ) (cap : ℕ → ℕ) (caps : Caps k cap) (w : ℕ → ℕ) (fits : Within k cap w) where
  -- a set with e and without g has at least that room left ..
  pub room_but_le : (e g X : ℕ) → X < 2 ^ k → In X e → Out X g → load w k X + room_but k cap w e g ≤ cap X
  unfolding room_but
  room_but_le e g X l i o =
      omega (arith, fits X l, least_le (λ X. has X e && not (has X g)) (left k cap w) (left k cap w (2 ^ e)) (2 ^ k) X l (grind arith))

  -- .. and one has just that
  pub room_but_at : (e g : ℕ) → e < k → (e ≡ g → ⊥)
      → (X : ℕ) × (X < 2 ^ k) × In X e × Out X g × (load w k X + room_but k cap w e g ≡ cap X)
  unfolding room_but
  room_but_at e g l ne =
      elim (least_at (λ X. has X e && not (has X g)) (left k cap w) (left k cap w (2 ^ e)) (2 ^ k)) [
        | inl q ↦
            let b = pow_below e k l in
            let a = has_one e e in
            let d = has_one e g in
            (2 ^ e, b, grind (arith, nat_tests), grind (arith, nat_tests), omega (arith, fits (2 ^ e) b))
        | inr q ↦
            let t = q.2 in
            (q.0, q.1, grind arith, grind arith, omega (arith, q.3, fits q.0 q.1))
      ]

  -- the room of e rules out no set: position k is in none
  pub room_as_but : (e : ℕ) → room k cap w e ≡ room_but k cap w e k
  unfolding room room_but
  room_as_but e =
      least_same (λ X. has X e) (λ X. has X e && not (has X k)) (left k cap w) (left k cap w (2 ^ e)) (2 ^ k)
      (λ X l. let o = has_past k X k l (omega arith) in grind arith)

  pub full_tight : (e : ℕ) → e < k → Full k cap w e → Tight k cap w (tight_set k cap w e) × In (tight_set k cap w e) e
  full_tight e l f =
      let a = room_but_at e k l (λ q. omega arith) in
      tight_set_in k cap caps w fits e a.0 (record { set = a.1; reached = omega (arith, a.4, room_as_but e) }) a.2

  pub tight_full : (e X : ℕ) → Tight k cap w X → In X e → Full k cap w e
  tight_full e X t i =
      omega (arith, room_as_but e, t.reached, room_but_le e k X t.set i (has_past k X k t.set (omega arith)))

  -- the amount is at least 1
  pub room_but_open : (e g : ℕ) → e < k → (e ≡ g → ⊥) → (Full k cap w e → ⊥) → 0 < room_but k cap w e g
  room_but_open e g l ne nf =
      let a = room_but_at e g l ne in
      elim (cases_lt 0 (room_but k cap w e g)) [
        | inl h ↦ h
        | inr h ↦ absurd (nf (tight_full e a.0 (record { set = a.1; reached = omega (arith, a.4) }) a.2))
      ]

  pub room_but_full : (e g : ℕ) → e < k → (e ≡ g → ⊥) → In (tight_set k cap w e) g → 0 < room_but k cap w e g
  room_but_full e g l ne m =
      let a = room_but_at e g l ne in
      elim (cases_lt 0 (room_but k cap w e g)) [
        | inl h ↦ h
        | inr h ↦
            let i = tight_set_smallest k cap caps w fits e a.0 (record { set = a.1; reached = omega (arith, a.4) }) a.2 g m in
            let o = a.3 in
            absurd (grind arith)
      ]

  -- fewer sets leave no less room
  pub room_mono : (e g : ℕ) → e < k → (e ≡ g → ⊥) → room_but k cap w e k ≤ room_but k cap w e g
  room_mono e g l ne =
      let a = room_but_at e g l ne in
      omega (arith, a.4, room_but_le e k a.0 a.1 a.2 (has_past k a.0 k a.1 (omega arith)))

  -- a full position has room without g only if g is in its tight set
  pub member_from_room : (e g : ℕ) → e < k → Full k cap w e → 0 < room_but k cap w e g → In (tight_set k cap w e) g
  member_from_room e g l f h =
      let t = full_tight e l f in
      elim (cases_Bool (has (tight_set k cap w e) g)) [
        | inl y ↦ y
        | inr y ↦ absurd (omega (arith, t.0.reached, room_but_le e g (tight_set k cap w e) t.0.set t.1 y))
      ]

-- trays that load each set alike
pub same_within : (k : ℕ) (cap v w : ℕ → ℕ) → ((X : ℕ) → X < 2 ^ k → load v k X ≡ load w k X) → Within k cap v → Within k cap w
same_within k cap v w e fits X l = omega (arith, e X l, fits X l)

pub same_room : (k : ℕ) (cap v w : ℕ → ℕ) (e g : ℕ) → ((X : ℕ) → X < 2 ^ k → load v k X ≡ load w k X) → e < k
    → room_but k cap v e g ≡ room_but k cap w e g
unfolding room_but
same_room k cap v w e g same l =
    ap (λ d. least (λ X. has X e && not (has X g)) (left k cap v) d (2 ^ k)) (ap (λ x. cap (2 ^ e) - x) (same (2 ^ e) (pow_below e k l)))
    ∙ least_same_values (λ X. has X e && not (has X g)) (left k cap v) (left k cap w) (left k cap w (2 ^ e)) (2 ^ k)
    (λ X h. ap (λ x. cap X - x) (same X h))
