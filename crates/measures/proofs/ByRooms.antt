-- Rooms alone decide the rules of a scan, and what a + lane of a path lets through.
use Rattle.std.proofs.Common.{◌≡◌, ℕ, ◌<◌, Bool, true, false, cond, not, ◌&&◌, eqb, ltb, sym, refl, ap, ◌∙◌, inl, inr, arith}
use Rattle.std.proofs.lemmas.Bool.{cases_Bool, eqb-true, eqb-false, lt-ltb, ltb-true, cond-true, cond-false, not-true}
use Rattle.polymatroid.specs.Sets.{has}
use Rattle.polymatroid.specs.Room.{zeroed}
use Rattle.polymatroid.specs.Side.{room, tight_set}
use Rattle.polymatroid.proofs.Zeroing.{zeroing, members_by_room}
use Rattle.floor.specs.Floor.{leaving, entering, stock, despatch, place, count}
use Rattle.floor.specs.Meaning.{Meaning, Lawful}
use Rattle.network.specs.Plans.{trays, Fits}
use Rattle.network.specs.States.{State, Pole, Plus, Minus, OnFloor, lane_room, lane_room_but}
use Rattle.network.proofs.Rooms.{there, apart, all_is, less_is}
use Rattle.labelling.specs.Rules.{full, in_tight, ruled}
use Rattle.labelling.specs.Steps.{outcome}
use Rattle.labelling.proofs.Same.{Among, label_same}
use Rattle.measures.specs.ByRooms.{room_at, room_zeroing, is_full, waits_for, ruled_by_rooms, RoomsRule, RoomsLabel, RoomsBeside}

module _ (M : Meaning) (f : ℕ → ℕ) where
  pub full_is : (d : Bool) (e : ℕ) → is_full M f d e ≡ full M f d e
  unfolding room_at full
  full_is d e = refl

  module _ (laws : Lawful M) (fits : Fits M f) (d : Bool) (e g : ℕ) (le : e < M.floor.lanes) (lg : g < M.floor.lanes)
      (same : M.floor.end d e ≡ M.floor.end d g) (ne : e ≡ g → ⊥) where
    on : M.floor.end d e < M.floor.stations
    on = laws.rules.end_on d e le

    waits_is : full M f d e ≡ true → waits_for M f d e g ≡ in_tight M f d e g
    unfolding full in_tight room_zeroing
    waits_is z =
        let k = count M.floor d (M.floor.end d e) in
        let cap = M.cap d (M.floor.end d e) in
        let w = trays M f d (M.floor.end d e) in
        let p = place M.floor d (M.floor.end d e) e in
        let q = place M.floor d (M.floor.end d e) g in
        let m = members_by_room k cap w (laws.laws d (M.floor.end d e) on).0 (fits d (M.floor.end d e) on) p q
        (there M d (M.floor.end d e) e le refl) (apart M d (M.floor.end d e) e g refl (sym same) ne) (eqb-true _ 0 z) in
        elim (cases_Bool (has (tight_set k cap w p) q)) [
          | inl h ↦ lt-ltb 0 _ (m.0 h) ∙ sym h
          | inr h ↦ elim (cases_Bool (ltb 0 (room k cap (zeroed w q) p))) [
            | inl r ↦ absurd (let y = m.1 (ltb-true 0 _ r) in let t : ◌≡◌ {A = Bool} true false = sym y ∙ h in let z : ◌≡◌ {A = ℕ} 0 1 = cc in omega arith)
            | inr r ↦ r ∙ sym h
          ]
        ]

    but_is : room_zeroing M f d e g ≡ lane_room_but M f d e g
    unfolding room_zeroing
    but_is =
        zeroing (count M.floor d (M.floor.end d e)) (M.cap d (M.floor.end d e)) (trays M f d (M.floor.end d e))
        (laws.laws d (M.floor.end d e) on).0 (fits d (M.floor.end d e) on) (place M.floor d (M.floor.end d e) e)
        (place M.floor d (M.floor.end d e) g) (there M d (M.floor.end d e) e le refl)
        (apart M d (M.floor.end d e) e g refl (sym same) ne)
        ∙ sym (less_is M d (M.floor.end d e) f e g refl)

-- a test that matters only where two others pass
and_and : (a b x y : Bool) → (a ≡ true → b ≡ true → x ≡ y) → (a && (b && x)) ≡ (a && (b && y))
and_and true true x y h = h refl refl
and_and true false x y h = refl
and_and false b x y h = refl

-- a choice whose first side matters only where the test passes
choose : (b x y z : Bool) → (b ≡ true → x ≡ y) → cond b x z ≡ cond b y z
choose true x y z h = h refl
choose false x y z h = refl

other : (e g : ℕ) → not (eqb e g) ≡ true → e ≡ g → ⊥
other e g n = eqb-false e g (not-true (eqb e g) n)

pub rooms_rule : RoomsRule
unfolding ruled_by_rooms ruled
rooms_rule M f laws fits (Pole false) (Plus g) ox oy = ap (λ b. eqb (stock M.floor) (M.floor.end leaving g) && not b) (full_is M f leaving g)
rooms_rule M f laws fits (Pole false) (Pole c) ox oy = refl
rooms_rule M f laws fits (Pole false) (Minus g) ox oy = refl
rooms_rule M f laws fits (Pole true) y ox oy = refl
rooms_rule M f laws fits (Plus e) (Pole true) ox oy = ap (λ b. eqb (M.floor.end entering e) (despatch M.floor) && not b) (full_is M f entering e)
rooms_rule M f laws fits (Plus e) (Pole false) ox oy = refl
rooms_rule M f laws fits (Plus e) (Plus g) ox oy =
    λ i. eqb (M.floor.end entering e) (M.floor.end leaving g) && (not (full_is M f entering e i) && not (full_is M f leaving g i))
rooms_rule M f laws fits (Plus e) (Minus g) ox oy =
    and_and (eqb (M.floor.end entering e) (M.floor.end entering g)) (not (eqb e g)) _ _
    (λ a b. ap (λ v. cond v (waits_for M f entering e g) (ltb 0 (f g))) (full_is M f entering e)
    ∙ choose (full M f entering e) (waits_for M f entering e g) (in_tight M f entering e g) (ltb 0 (f g))
    (waits_is M f laws fits entering e g ox oy (eqb-true _ _ a) (other e g b)))
rooms_rule M f laws fits (Minus e) (Plus g) ox oy =
    and_and (eqb (M.floor.end leaving e) (M.floor.end leaving g)) (not (eqb e g)) _ _
    (λ a b. (λ i. cond (full_is M f leaving g i) (full_is M f leaving e i && waits_for M f leaving g e) true)
    ∙ choose (full M f leaving g) (full M f leaving e && waits_for M f leaving g e) (full M f leaving e && in_tight M f leaving g e) true
    (λ z. ap (λ v. full M f leaving e && v) (waits_is M f laws fits leaving g e oy ox (sym (eqb-true _ _ a)) (λ r. other e g b (sym r)) z)))
rooms_rule M f laws fits (Minus e) (Minus g) ox oy = refl
rooms_rule M f laws fits (Minus e) (Pole c) ox oy = refl

room_is : (M : Meaning) (f : ℕ → ℕ) → Lawful M → Fits M f → (d : Bool) (e : ℕ) → e < M.floor.lanes → room_at M f d e ≡ lane_room M f d e
unfolding room_at
room_is M f laws fits d e le = sym (all_is M laws f fits d (M.floor.end d e) (laws.rules.end_on d e le) e refl)

beside_lane : (M : Meaning) (f : ℕ → ℕ) → Lawful M → Fits M f → (d : Bool) (e g : ℕ) → e < M.floor.lanes → g < M.floor.lanes → (e ≡ g → ⊥)
    → cond (eqb (M.floor.end d g) (M.floor.end d e)) (room_zeroing M f d e g) (room_at M f d e)
    ≡ cond (eqb (M.floor.end d g) (M.floor.end d e)) (lane_room_but M f d e g) (lane_room M f d e)
beside_lane M f laws fits d e g le lg ne =
    elim (cases_Bool (eqb (M.floor.end d g) (M.floor.end d e))) [
      | inl s ↦
          cond-true _ _ _ s ∙ but_is M f laws fits d e g le lg (sym (eqb-true _ _ s)) ne ∙ sym (cond-true _ _ _ s)
      | inr s ↦ cond-false _ _ _ s ∙ room_is M f laws fits d e le ∙ sym (cond-false _ _ _ s)
    ]

pub rooms_beside : RoomsBeside
rooms_beside M f laws fits d e (Pole b) oe ox ne = room_is M f laws fits d e oe
rooms_beside M f laws fits d e (Plus g) oe ox ne = beside_lane M f laws fits d e g oe ox ne
rooms_beside M f laws fits d e (Minus g) oe ox ne = beside_lane M f laws fits d e g oe ox ne

-- what is scanned is on the floor
on_floor : (M : Meaning) (x : State) → Among M.floor.lanes x → OnFloor M x
on_floor M (Pole b) a = tt
on_floor M (Plus e) a = a
on_floor M (Minus e) a = a

pub rooms_label : RoomsLabel
unfolding outcome
rooms_label M f laws fits =
    label_same (ruled_by_rooms M f) (ruled M f) M.floor.lanes (λ x y a l. rooms_rule M f laws fits x (Plus y) (on_floor M x a) l)
    (λ x y a l. rooms_rule M f laws fits x (Minus y) (on_floor M x a) l) (λ x a. rooms_rule M f laws fits x (Pole true) (on_floor M x a) tt)
