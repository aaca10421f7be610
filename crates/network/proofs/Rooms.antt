-- Rooms and tight sets of the lanes at a station, at either end: what holds of positions, said of lanes.
use Rattle.std.proofs.Common.{◌≡◌, ℕ, ◌<◌, ◌≤◌, Bool, true, sym, refl, ap, ◌∙◌, arith}
use Rattle.std.proofs.lemmas.Bool.{eq-eqb}
use Rattle.polymatroid.specs.Side.{In, Tight, room, room_but, tight_set}
use Rattle.polymatroid.proofs.Side.{tight_set_smallest, tight_set_carries}
use Rattle.polymatroid.proofs.Room.{room_as_but, room_but_full, full_tight, tight_full, member_from_room, room_mono}
use Rattle.floor.specs.Floor.{on, place, count}
use Rattle.floor.specs.Meaning.{Meaning, Lawful}
use Rattle.floor.proofs.Places.{place_below, place_apart, lane_at_place}
use Rattle.network.specs.Plans.{trays, Fits}
use Rattle.network.specs.States.{room_at, lane_room, lane_room_but}

-- the smallest tight set of lane e among the lanes with their end d at station k
abbrev pub tight_at : Meaning → (ℕ → ℕ) → Bool → ℕ → ℕ → ℕ
tight_at M f d k e = tight_set (count M.floor d k) (M.cap d k) (trays M f d k) (place M.floor d k e)

-- a lane that has its end d at station k has a position there, and two have two
module _ (M : Meaning) (d : Bool) (k : ℕ) where
  pub there : (e : ℕ) → e < M.floor.lanes → M.floor.end d e ≡ k → place M.floor d k e < count M.floor d k
  there e l q = place_below M.floor d k e l (eq-eqb (M.floor.end d e) k q)

  pub apart : (e g : ℕ) → M.floor.end d e ≡ k → M.floor.end d g ≡ k → (e ≡ g → ⊥) → place M.floor d k e ≡ place M.floor d k g → ⊥
  apart e g a b ne r = ne (place_apart M.floor d k e g (eq-eqb (M.floor.end d e) k a) (eq-eqb (M.floor.end d g) k b) r)

  -- its room is that of its position
  pub room_is : (f : ℕ → ℕ) (e g : ℕ) → M.floor.end d e ≡ k
      → room_at M f d e g ≡ room_but (count M.floor d k) (M.cap d k) (trays M f d k) (place M.floor d k e) g
  unfolding room_at
  room_is f e g q = ap (λ i. room_but (count M.floor d i) (M.cap d i) (trays M f d i) (place M.floor d i e) g) q

  pub less_is : (f : ℕ → ℕ) (e g : ℕ) → M.floor.end d e ≡ k
      → lane_room_but M f d e g ≡ room_but (count M.floor d k) (M.cap d k) (trays M f d k) (place M.floor d k e) (place M.floor d k g)
  less_is f e g q = ap (λ i. room_at M f d e (place M.floor d i g)) q ∙ room_is f e (place M.floor d k g) q

-- rooms at a station k, for either end
module _ (M : Meaning) (laws : Lawful M) (f : ℕ → ℕ) (fits : Fits M f) (d : Bool) (k : ℕ) (kin : k < M.floor.stations) where
  pub all_is : (e : ℕ) → M.floor.end d e ≡ k → lane_room M f d e ≡ room (count M.floor d k) (M.cap d k) (trays M f d k) (place M.floor d k e)
  all_is e q =
      ap (λ i. room_at M f d e (count M.floor d i)) q ∙ room_is M d k f e (count M.floor d k) q
      ∙ sym (room_as_but (count M.floor d k) (M.cap d k) (laws.laws d k kin).0 (trays M f d k) (fits d k kin) (place M.floor d k e))

  -- the tight set of a full lane
  pub tight_there : (e : ℕ) → e < M.floor.lanes → M.floor.end d e ≡ k → lane_room M f d e ≡ 0
      → Tight (count M.floor d k) (M.cap d k) (trays M f d k) (tight_at M f d k e)
      × In (tight_at M f d k e) (place M.floor d k e)
  tight_there e l q z =
      full_tight (count M.floor d k) (M.cap d k) (laws.laws d k kin).0 (trays M f d k) (fits d k kin) (place M.floor d k e) (there M d k e l q) (sym (all_is e q) ∙ z)

  -- a member of it is full, has room for the lane, and its tight set lies within
  pub member_full : (e : ℕ) → e < M.floor.lanes → M.floor.end d e ≡ k → lane_room M f d e ≡ 0
      → (g : ℕ) → M.floor.end d g ≡ k → In (tight_at M f d k e) (place M.floor d k g) → lane_room M f d g ≡ 0
  member_full e l q z g kg i =
      let t = tight_there e l q z in
      all_is g kg ∙ tight_full (count M.floor d k) (M.cap d k) (laws.laws d k kin).0 (trays M f d k) (fits d k kin) (place M.floor d k g)
      (tight_at M f d k e) t.0 i

  pub member_room : (e g : ℕ) → e < M.floor.lanes → M.floor.end d e ≡ k → M.floor.end d g ≡ k → (e ≡ g → ⊥)
      → In (tight_at M f d k e) (place M.floor d k g) → 0 < lane_room_but M f d e g
  member_room e g l q kg ne i =
      let r = room_but_full (count M.floor d k) (M.cap d k) (laws.laws d k kin).0 (trays M f d k) (fits d k kin) (place M.floor d k e) (place M.floor d k g)
      (there M d k e l q) (apart M d k e g q kg ne) i in
      omega (arith, less_is M d k f e g q)

  pub room_member : (e g : ℕ) → e < M.floor.lanes → M.floor.end d e ≡ k → lane_room M f d e ≡ 0 → 0 < lane_room_but M f d e g
      → In (tight_at M f d k e) (place M.floor d k g)
  room_member e g l q z r =
      member_from_room (count M.floor d k) (M.cap d k) (laws.laws d k kin).0 (trays M f d k) (fits d k kin) (place M.floor d k e) (place M.floor d k g) (there M d k e l q)
      (sym (all_is e q) ∙ z) (omega (arith, less_is M d k f e g q))

  pub member_within : (e g : ℕ) → e < M.floor.lanes → M.floor.end d e ≡ k → lane_room M f d e ≡ 0
      → In (tight_at M f d k e) (place M.floor d k g)
      → (p : ℕ) → In (tight_at M f d k g) p
      → In (tight_at M f d k e) p
  member_within e g l q z i p j =
      let t = tight_there e l q z in
      tight_set_smallest (count M.floor d k) (M.cap d k) (laws.laws d k kin).0 (trays M f d k) (fits d k kin) (place M.floor d k g)
      (tight_at M f d k e) t.0 i p j

  pub member_carries : (e g : ℕ) → e < M.floor.lanes → g < M.floor.lanes → M.floor.end d e ≡ k → M.floor.end d g ≡ k → (e ≡ g → ⊥) → lane_room M f d e ≡ 0
      → In (tight_at M f d k e) (place M.floor d k g) → 0 < f g
  member_carries e g l lg q kg ne z i =
      let t = tight_there e l q z in
      let r = tight_set_carries (count M.floor d k) (M.cap d k) (laws.laws d k kin).0 (trays M f d k) (fits d k kin) (place M.floor d k e) (place M.floor d k g)
      (tight_at M f d k e) (there M d k e l q) (there M d k g lg kg) t.0 t.1 i
      (λ o. apart M d k e g q kg ne (sym o)) in
      omega (arith, ap f (lane_at_place M.floor d k g lg (eq-eqb (M.floor.end d g) k kg)))

module _ (M : Meaning) (laws : Lawful M) (f : ℕ → ℕ) (fits : Fits M f) where
  on_end : (d : Bool) (e : ℕ) → on M.floor d (M.floor.end d e) e ≡ true
  on_end d e = eq-eqb (M.floor.end d e) (M.floor.end d e) refl

  -- a lane has no less room without another lane of its side
  pub room_less : (d : Bool) (e g : ℕ) → e < M.floor.lanes → M.floor.end d g ≡ M.floor.end d e → (e ≡ g → ⊥) → lane_room M f d e ≤ lane_room_but M f d e g
  unfolding room_at
  room_less d e g l q ne =
      let i : ℕ = M.floor.end d e in
      room_mono (count M.floor d i) (M.cap d i) (laws.laws d i (laws.rules.end_on d e l)).0 (trays M f d i) (fits d i (laws.rules.end_on d e l))
      (place M.floor d i e) (place M.floor d i g) (place_below M.floor d i e l (on_end d e))
      (λ r. ne (place_apart M.floor d i e g (on_end d e) (eq-eqb (M.floor.end d g) i q) r))
