-- One side: loads are modular, tight sets uncross, and the smallest tight set.
use Rattle.std.proofs.Common.{◌≡◌, ℕ, zero, suc, ◌+◌, ◌^◌, ◌<◌, ◌≤◌, Bool, true, false, cond, ◌&&◌, eqb, sym, refl, ap, ◌∙◌, inl, inr, arith}
use lib.Bits.{bit_and, bit_or, and_le_l, and_lt, or_lt}
use Rattle.std.proofs.lemmas.Nat.{pow_below}
use Rattle.std.proofs.lemmas.Bool.Decides.{nat_tests}
use Rattle.std.proofs.lemmas.Bool.{cases_lt}
use Rattle.polymatroid.specs.Sets.{has, without}
use Rattle.polymatroid.specs.Side.{load, In, Caps, Within, Tight, tight_set, plus, minus, TightSets}
use Rattle.polymatroid.proofs.Codes.{has_or, has_and, has_one, has_without, has_past, without_below, same_sets}
use Rattle.polymatroid.proofs.Finite.{first_passes, first_before}

pub load_modular : (w : ℕ → ℕ) (k X Y : ℕ) → load w k (bit_or X Y) + load w k (bit_and X Y) ≡ load w k X + load w k Y
unfolding load
load_modular w zero X Y = refl
load_modular w (suc k) X Y =
    let h = load_modular w k X Y in
    let o = has_or X Y k in
    let a = has_and X Y k in
    grind arith

-- ---- loads of changed trays, and of changed sets

pub load_same : (v w : ℕ → ℕ) (k X Y : ℕ)
    → ((p : ℕ) → p < k → cond (has X p) (v p) 0 ≡ cond (has Y p) (w p) 0) → load v k X ≡ load w k Y
unfolding load
load_same v w zero X Y e = refl
load_same v w (suc k) X Y e =
    let ih = load_same v w k X Y (λ p l. e p (omega arith)) in
    let h = e k (omega arith) in
    omega arith

load_plus_past : (w : ℕ → ℕ) (h n k X : ℕ) → k ≤ h → load (plus w h n) k X ≡ load w k X
unfolding load plus
load_plus_past w h n zero X l = refl
load_plus_past w h n (suc k) X l = let ih = load_plus_past w h n k X (omega arith) in grind (arith, nat_tests)

pub load_plus : (w : ℕ → ℕ) (h n k X : ℕ) → h < k → load (plus w h n) k X ≡ load w k X + cond (has X h) n 0
unfolding load plus
load_plus w h n zero X l = absurd (omega arith)
load_plus w h n (suc k) X l =
    elim (cases_lt h k) [
      | inl m ↦ let ih = load_plus w h n k X m in grind (arith, nat_tests)
      | inr m ↦
          let e : h ≡ k = omega arith in
          let ih = load_plus_past w h n k X m in
          grind (arith, nat_tests)
    ]

load_minus_past : (w : ℕ → ℕ) (h n k X : ℕ) → k ≤ h → load (minus w h n) k X ≡ load w k X
unfolding load minus
load_minus_past w h n zero X l = refl
load_minus_past w h n (suc k) X l = let ih = load_minus_past w h n k X (omega arith) in grind (arith, nat_tests)

pub load_minus : (w : ℕ → ℕ) (h n k X : ℕ) → h < k → n ≤ w h → load (minus w h n) k X + cond (has X h) n 0 ≡ load w k X
unfolding load minus
load_minus w h n zero X l m = absurd (omega arith)
load_minus w h n (suc k) X l b =
    elim (cases_lt h k) [
      | inl m ↦ let ih = load_minus w h n k X m b in grind (arith, nat_tests)
      | inr m ↦
          let e : h ≡ k = omega arith in
          let ih = load_minus_past w h n k X m in
          grind (arith, nat_tests)
    ]

-- a position off the side is in no set of it
pub load_plus_any : (w : ℕ → ℕ) (h n k X : ℕ) → X < 2 ^ k → load (plus w h n) k X ≡ load w k X + cond (has X h) n 0
load_plus_any w h n k X l =
    elim (cases_lt h k) [
      | inl m ↦ load_plus w h n k X m
      | inr m ↦ let o = has_past k X h l m in let a = load_plus_past w h n k X m in grind arith
    ]

pub load_minus_any : (w : ℕ → ℕ) (h n k X : ℕ) → X < 2 ^ k → (h < k → n ≤ w h)
    → load (minus w h n) k X + cond (has X h) n 0 ≡ load w k X
load_minus_any w h n k X l c =
    elim (cases_lt h k) [
      | inl m ↦ load_minus w h n k X m (c m)
      | inr m ↦ let o = has_past k X h l m in let a = load_minus_past w h n k X m in grind arith
    ]

module _ (k : ℕ) (cap : ℕ → ℕ) (caps : Caps k cap) (w : ℕ → ℕ) (fits : Within k cap w) where
  -- a set crossed with a tight set has no less left than the two make
  pub uncross_and : (X Y : ℕ) → X < 2 ^ k → Tight k cap w Y
      → cap (bit_and X Y) + load w k X ≤ cap X + load w k (bit_and X Y)
  uncross_and X Y l t =
      omega (arith, caps.bends X Y l t.set, load_modular w k X Y, fits (bit_or X Y) (or_lt k X Y l t.set))

  pub uncross_or : (X Y : ℕ) → X < 2 ^ k → Tight k cap w Y
      → cap (bit_or X Y) + load w k X ≤ cap X + load w k (bit_or X Y)
  uncross_or X Y l t =
      omega (arith, caps.bends X Y l t.set, load_modular w k X Y, fits (bit_and X Y) (and_lt k X Y l t.set))

  pub tight_and : (X Y : ℕ) → Tight k cap w X → Tight k cap w Y → Tight k cap w (bit_and X Y)
  tight_and X Y s t =
      let l = and_lt k X Y s.set t.set in
      record { set = l; reached = omega (arith, uncross_and X Y s.set t, fits (bit_and X Y) l) }

  pub tight_or : (X Y : ℕ) → Tight k cap w X → Tight k cap w Y → Tight k cap w (bit_or X Y)
  tight_or X Y s t =
      let l = or_lt k X Y s.set t.set in
      record { set = l; reached = omega (arith, uncross_or X Y s.set t, fits (bit_or X Y) l) }

  -- the test by which the smallest tight set is found
  tight? : ℕ → ℕ → Bool
  tight? e X = has X e && eqb (load w k X) (cap X)

  tight?-yes : (e X : ℕ) → X < 2 ^ k → tight? e X ≡ true → Tight k cap w X × In X e
  unfolding tight?
  tight?-yes e X l p = (record { set = l; reached = grind (arith, nat_tests) }, grind (arith, nat_tests))

  tight?-no : (e X : ℕ) → tight? e X ≡ false → Tight k cap w X → In X e → ⊥
  unfolding tight?
  tight?-no e X p t i = let r = t.reached in grind (arith, nat_tests)

  -- where e has a tight set, its smallest one is tight and holds e ..
  pub tight_set_in : (e X : ℕ) → Tight k cap w X → In X e → Tight k cap w (tight_set k cap w e) × In (tight_set k cap w e) e
  unfolding tight_set tight?
  tight_set_in e X t i =
      let l : tight_set k cap w e < 2 ^ k =
      elim (cases_lt (tight_set k cap w e) (2 ^ k)) [
        | inl l ↦ l
        | inr m ↦ absurd (tight?-no e X (first_before (tight? e) (2 ^ k) X (omega (arith, t.set))) t i)
      ] in
      tight?-yes e (tight_set k cap w e) l (first_passes (tight? e) (2 ^ k) l)

  tight_set_first : (e X : ℕ) → X < tight_set k cap w e → tight? e X ≡ false
  unfolding tight_set tight?
  tight_set_first e X l = first_before (tight? e) (2 ^ k) X l

  -- .. and lies in each other
  pub tight_set_smallest : (e X : ℕ) → Tight k cap w X → In X e → (p : ℕ) → In (tight_set k cap w e) p → In X p
  tight_set_smallest e X t i p h =
      let S : ℕ = tight_set k cap w e in
      let s = tight_set_in e X t i in
      let m = tight_and S X s.0 t in
      let at_e = has_and S X e in
      let at_p = has_and S X p in
      let same : bit_and S X ≡ S =
      elim (cases_lt (bit_and S X) S) [
        | inl l ↦ absurd (tight?-no e (bit_and S X) (tight_set_first e (bit_and S X) l) m (grind arith))
        | inr l ↦ omega (arith, and_le_l S X)
      ] in
      let at_p' : has S p ≡ (has S p && has X p) = ap (λ x. has x p) (sym same) ∙ at_p in
      grind arith

  -- a tight set of a member lies in the tight set
  pub tight_set_nested : (e g X : ℕ) → Tight k cap w X → In X e → In (tight_set k cap w e) g
      → (p : ℕ) → In (tight_set k cap w g) p → In (tight_set k cap w e) p
  tight_set_nested e g X t i m p h = tight_set_smallest g (tight_set k cap w e) (tight_set_in e X t i).0 m p h

  -- the other members of a smallest tight set carry trays
  pub tight_set_carries : (e g X : ℕ) → e < k → g < k → Tight k cap w X → In X e → In (tight_set k cap w e) g → (g ≡ e → ⊥) → 0 < w g
  tight_set_carries e g X le lg t i m ne =
      elim (cases_lt 0 (w g)) [
        | inl l ↦ l
        | inr l ↦
            let S : ℕ = tight_set k cap w e in
            let s = tight_set_in e X t i in
            let Z : ℕ = without k S g in
            let z : Z < 2 ^ k = without_below k S g in
            let back : bit_or Z (2 ^ g) ≡ S =
            same_sets k (bit_or Z (2 ^ g)) S (or_lt k Z (2 ^ g) z (pow_below g k lg)) s.0.set
            (λ p q. let a = has_or Z (2 ^ g) p in let b = has_one g p in let d = has_without k S g p q in grind (arith, nat_tests)) in
            let loads : load w k Z ≡ load w k S = load_same w w k Z S (λ p q. let d = has_without k S g p q in grind (arith, nat_tests)) in
            let at_e = has_without k S g e le in
            let at_g = has_without k S g g lg in
            let tz : Tight k cap w Z = record { set = z; reached = omega (arith, s.0.reached, fits Z z, simp back at (caps.grows Z g z lg)) } in
            let i' : In Z e = grind (arith, nat_tests) in
            let m' : In Z g = tight_set_smallest e Z tz i' g m in
            absurd (grind (arith, nat_tests))
      ]

pub tight_sets : TightSets
tight_sets k cap w caps fits = record {
  met = tight_and k cap caps w fits;
  joined = tight_or k cap caps w fits;
  tight = tight_set_in k cap caps w fits;
  smallest = tight_set_smallest k cap caps w fits;
  carries = tight_set_carries k cap caps w fits;
  nested = tight_set_nested k cap caps w fits;
}
