-- The room of a position with the trays of another put to 0 is its room over the sets without that other.
use Rattle.std.proofs.Common.{◌≡◌, ℕ, zero, suc, ◌+◌, ◌^◌, ◌<◌, ◌≤◌, false, not, ◌&&◌, eqb, sym, refl, ap, ◌∙◌, inl, inr, arith}
use lib.Bits.{bit_or, or_lt}
use Rattle.std.proofs.lemmas.Nat.{pow_below}
use Rattle.std.proofs.lemmas.Bool.Decides.{nat_tests}
use Rattle.std.proofs.lemmas.Bool.{cases_Bool, cases_lt, both_ways}
use Rattle.polymatroid.specs.Sets.{has, without}
use Rattle.polymatroid.specs.Side.{load, In, Out, Caps, Within, room, room_but}
use Rattle.polymatroid.specs.Room.{zeroed, Zeroing, MembersByRoom}
use Rattle.polymatroid.proofs.Codes.{has_or, has_one, has_without, has_past, without_below, same_sets}
use Rattle.polymatroid.proofs.Room.{room_but_le, room_but_at, room_as_but, room_but_full, member_from_room}

-- a set without g carries as much as before, and so does a set with g once g is left out
load_without : (w : ℕ → ℕ) (g k X Z : ℕ) → ((p : ℕ) → p < k → has Z p ≡ (has X p && not (eqb p g))) → load (zeroed w g) k X ≡ load w k Z
unfolding load zeroed
load_without w g zero X Z same = refl
load_without w g (suc k) X Z same =
    let ih = load_without w g k X Z (λ p l. same p (omega arith)) in
    let h = same k (omega arith) in
    grind (arith, nat_tests)

load_outside : (w : ℕ → ℕ) (g k X : ℕ) → Out X g → load (zeroed w g) k X ≡ load w k X
load_outside w g k X o = load_without w g k X X (λ p l. elim (cases_Bool (has X p)) [
  | inl y ↦ let ne : p ≡ g → ⊥ = λ e. both_ways (has X g) o (ap (has X) (sym e) ∙ y) in grind (arith, nat_tests)
  | inr y ↦ grind arith
])

module _ (k : ℕ) (cap w : ℕ → ℕ) (caps : Caps k cap) (fits : Within k cap w) (g : ℕ) where
  -- a set, once g is left out, has no higher cap
  cap_without : (X : ℕ) → X < 2 ^ k → In X g → cap (without k X g) ≤ cap X
  cap_without X l i =
      let lg : g < k = elim (cases_lt g k) [ inl h ↦ h | inr h ↦ absurd (both_ways (has X g) (has_past k X g l h) i) ] in
      let Z : ℕ = without k X g in
      let z : Z < 2 ^ k = without_below k X g in
      let back : bit_or Z (2 ^ g) ≡ X =
      same_sets k (bit_or Z (2 ^ g)) X (or_lt k Z (2 ^ g) z (pow_below g k lg)) l
      (λ p q. let a = has_or Z (2 ^ g) p in let b = has_one g p in let d = has_without k X g p q in grind (arith, nat_tests)) in
      simp back at (caps.grows Z g z lg)

  zeroed_fits : Within k cap (zeroed w g)
  zeroed_fits X l =
      elim (cases_Bool (has X g)) [
        | inl i ↦
            omega (
              arith,
              load_without w g k X (without k X g) (has_without k X g),
              fits (without k X g) (without_below k X g),
              cap_without X l i,
            )
        | inr o ↦ omega (arith, load_outside w g k X o, fits X l)
      ]

  module _ (e : ℕ) (le : e < k) (ne : e ≡ g → ⊥) where
    no_more : room k cap (zeroed w g) e ≤ room_but k cap w e g
    no_more =
        let a = room_but_at k cap caps w fits e g le ne in
        let b = room_but_le k cap caps (zeroed w g) zeroed_fits e k a.0 a.1 a.2 (has_past k a.0 k a.1 (omega arith)) in
        omega (arith, a.4, room_as_but k cap caps (zeroed w g) zeroed_fits e, load_outside w g k a.0 a.3)

    -- a set that leaves the room with the trays of g put to 0
    by_set : (X : ℕ) → X < 2 ^ k → In X e → load (zeroed w g) k X + room k cap (zeroed w g) e ≡ cap X
        → room_but k cap w e g ≤ room k cap (zeroed w g) e
    by_set X l i q =
        elim (cases_Bool (has X g)) [
          | inl y ↦
              let d = has_without k X g e le in
              let h : has (without k X g) g ≡ false =
              elim (cases_lt g k) [
                | inl m ↦ let c = has_without k X g g m in grind (arith, nat_tests)
                | inr m ↦ has_past k (without k X g) g (without_below k X g) m
              ] in
              let r = room_but_le k cap caps w fits e g (without k X g) (without_below k X g) (grind (arith, nat_tests)) h in
              omega (arith, load_without w g k X (without k X g) (has_without k X g), cap_without X l y)
          | inr o ↦ omega (arith, room_but_le k cap caps w fits e g X l i o, load_outside w g k X o)
        ]

    no_less : room_but k cap w e g ≤ room k cap (zeroed w g) e
    no_less =
        let a = room_but_at k cap caps (zeroed w g) zeroed_fits e k le (λ q. omega arith) in
        by_set a.0 a.1 a.2 (omega (arith, a.4, room_as_but k cap caps (zeroed w g) zeroed_fits e))

pub zeroing : Zeroing
zeroing k cap w caps fits e g le ne = omega (arith, no_more k cap w caps fits g e le ne, no_less k cap w caps fits g e le ne)

pub members_by_room : MembersByRoom
members_by_room k cap w caps fits e g le ne full =
    let z = zeroing k cap w caps fits e g le ne in (
      λ m. omega (arith, room_but_full k cap caps w fits e g le ne m),
      λ r. member_from_room k cap caps w fits e g le full (omega arith),
    )
