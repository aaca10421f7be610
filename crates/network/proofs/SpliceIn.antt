-- A step that a move brings about at the lanes which enter a station comes from two steps into and out of the path.
use Rattle.std.proofs.Common.{◌≡◌, ℕ, suc, ◌<◌, ◌≤◌, true, false, cond, ltb, ◌⊎◌, sym, refl, ap, ◌∙◌, subst, inl, inr, arith}
use mathlib.Core.Path.{subst⁻¹}
use Rattle.std.proofs.lemmas.Bool.Decides.{nat_tests}
use Rattle.std.proofs.lemmas.Bool.{cases_lt, cases_eq, both_ways, eq-eqb, eqb-true, le-ltb, lt-ltb}
use Rattle.polymatroid.specs.Finite.{first}
use Rattle.polymatroid.specs.Side.{room_but, plus, minus}
use Rattle.polymatroid.specs.Critical.{Pairs}
use Rattle.polymatroid.proofs.Finite.{first_passes, first_before}
use Rattle.polymatroid.proofs.Side.{tight_set_carries}
use Rattle.polymatroid.proofs.Room.{member_from_room, full_tight, room_as_but}
use Rattle.floor.specs.Floor.{place, count}
use Rattle.floor.specs.Meaning.{Meaning}
use Rattle.network.specs.Plans.{trays}
use Rattle.network.specs.States.{State, Pole, Plus, Minus, at, room_at, lane_room, lane_room_but, amount, OnFloor, Step, applied, augmented, Open, Free}
use Rattle.network.specs.Moves.{Moving, Spliced}
use Rattle.floor.proofs.Places.{place_apart}
use Rattle.network.proofs.Paths.{touches, walked_touched, walked_other}
use Rattle.network.proofs.Visits.{by_arrival, by_departure, open_unless, free_unless, open_free}
use Rattle.network.proofs.Arrivals.{pos_plus, pos_minus, is_open_pair, the_open_pair, open_down, FullPair, full_pair, carried, order, at_open_pair, open_pair_open, full_here, caps, trays_fit}
use Rattle.network.proofs.Exchanges.{trays_at}
use Rattle.network.proofs.Arrived.{splice_in}
use Rattle.network.proofs.Rooms.{tight_at, there, room_is, less_is, all_is}

-- the tests that a + lane fails
pub plus_arrives : (M : Meaning) (f : ℕ → ℕ) (e : ℕ) (y : State) → by_departure M f (Plus e) y ≡ false
plus_arrives M f e y = refl

pub plus_departs : (M : Meaning) (f : ℕ → ℕ) (x : State) (g : ℕ) → by_arrival M f x (Plus g) ≡ false
plus_departs M f (Pole b) g = refl
plus_departs M f (Plus e) g = refl
plus_departs M f (Minus e) g = refl

module _ (M : Meaning) (f : ℕ → ℕ) (P : ℕ → State) (N n : ℕ) (m : Moving M f P N n) where
  -- a lane that comes to carry more is a + lane of the path
  pub more_plus : (g : ℕ) → f g < augmented n P N f g → (i : ℕ) × (i < N) × (P i ≡ Plus g)
  unfolding touches plus minus
  more_plus g h =
      elim (cases_lt i N) [
        | inl l ↦
            let t = first_passes (λ j. touches (P j) g) N l in
            (i, l, by (P i) refl t (walked_touched M f P N m.path n i N g l (omega arith) t))
        | inr l ↦
            absurd (omega (arith, walked_other n P f N g (λ j l'. first_before (λ j. touches (P j) g) N j (omega arith))))
      ]
    where
      i : ℕ
      i = first (λ j. touches (P j) g) N

      by : (x : State) → P i ≡ x → touches x g ≡ true → augmented n P N f g ≡ applied n (P i) f g → P i ≡ Plus g
      by (Pole b) q t e = absurd (both_ways false refl t)
      by (Plus a) q t e = q ∙ ap Plus (sym (eqb-true g a t))
      by (Minus a) q t e =
          let s : applied n (P i) f g ≡ applied n (Minus a) f g = ap (λ x. applied n x f g) q in
          let r : applied n (Minus a) f g ≤ f g = grind (arith, nat_tests) in
          absurd (omega arith)

  -- after a + lane the path departs freely, and before one it arrives openly
  pub free_after : (i g : ℕ) → i < N → P i ≡ Plus g → Free M f (P (suc i))
  free_after i g l a =
      free_unless M f (P i) (P (suc i)) (m.path.some i l) (ap (λ x. by_departure M f x (P (suc i))) a ∙ plus_arrives M f g (P (suc i)))

  pub open_before : (q e : ℕ) → q < N → P (suc q) ≡ Plus e → Open M f (P q)
  open_before q e l a =
      open_unless M f (P q) (P (suc q)) (m.path.some q l) (ap (by_arrival M f (P q)) a ∙ plus_departs M f (P q) e)

  -- an open arrival steps into the path, and the path to a free departure
  pub step_in : (x : State) (j : ℕ) → j ≤ N → OnFloor M x → at M true x ≡ at M false (P j) → Open M f x → Free M f (P j) → Step M f x (P j)
  step_in x j l a c o r = open_free M m.laws f m.fits x (P j) a (m.path.ok j l) c o r

  pub step_out : (i : ℕ) (y : State) → i ≤ N → OnFloor M y → at M true (P i) ≡ at M false y → Open M f (P i) → Free M f y → Step M f (P i) y
  step_out i y l a c o r = open_free M m.laws f m.fits (P i) y (m.path.ok i l) a c o r

  module _ (k : ℕ) (kin : k < M.floor.stations) where
    -- a pair of positions is a step of the lanes there
    pairs_step : (e b : ℕ) → e < M.floor.lanes → b < M.floor.lanes → M.floor.end true e ≡ k → M.floor.end true b ≡ k → 0 < f b
        → Pairs (count M.floor true k) (M.cap true k) (trays M f true k) (place M.floor true k e) (place M.floor true k b) → Step M f (Plus e) (Minus b)
    pairs_step e b le lb ke kb h t = record {
      ok_from = le;
      ok_to = lb;
      meet = ke ∙ sym kb;
      some =
          elim t [
            | inl q ↦ inr (place_apart M.floor true k e b (eq-eqb (M.floor.end true e) k ke) (eq-eqb (M.floor.end true b) k kb) q)
            | inr q ↦
                let s : lane_room_but M f true e b ≡ room_but (count M.floor true k) (M.cap true k) (trays M f true k) (place M.floor true k e) (place M.floor true k b) =
                less_is M true k f e b ke in
                inl (omega arith)
          ];
    }

    unfoldable pub OpenPair : ℕ → Type 0
    OpenPair e = (r : ℕ) × (r < N) × (at M true (P r) ≡ k) × Open M f (P r) × Free M f (P (suc r)) × Step M f (Plus e) (P (suc r))

    -- by the open pair
    by_open : (e : ℕ) → e < M.floor.lanes → M.floor.end true e ≡ k → open_down M f P k N < count M.floor true k
        → Pairs (count M.floor true k) (M.cap true k) (trays M f true k) (place M.floor true k e) (open_down M f P k N) → OpenPair e
    unfolding open_down the_open_pair pos_minus OpenPair
    by_open e le ke l t =
        elim (cases_lt r N) [
          | inl lr ↦
              let u = first_passes (is_open_pair M f P k) N lr in
              let h = at_open_pair M m.laws f m.fits P N m.path k kin r u in
              let o = open_pair_open M m.laws f m.fits P N m.path k kin r lr u in
              let c : cond (ltb r N) (pos_minus M k (P (suc r))) (count M.floor true k) ≡ pos_minus M k (P (suc r)) =
              ap (λ b. cond b (pos_minus M k (P (suc r))) (count M.floor true k)) (lt-ltb r N lr) in
              (r, lr, h.0, o.0, o.1, by lr h.0 (P (suc r)) refl o.1 (rw c at l) (rw c at t))
          | inr lr ↦
              let c : cond (ltb r N) (pos_minus M k (P (suc r))) (count M.floor true k) ≡ count M.floor true k =
              ap (λ b. cond b (pos_minus M k (P (suc r))) (count M.floor true k)) (le-ltb r N lr) in
              absurd (omega arith)
        ]
      where
        r : ℕ
        r = first (is_open_pair M f P k) N

        by : r < N → at M true (P r) ≡ k → (y : State) → P (suc r) ≡ y → Free M f (P (suc r)) → pos_minus M k y < count M.floor true k
            → Pairs (count M.floor true k) (M.cap true k) (trays M f true k) (place M.floor true k e) (pos_minus M k y) → Step M f (Plus e) (P (suc r))
        by lr h (Pole b) q o l t = absurd (omega arith)
        by lr h (Plus b) q o l t = absurd (omega arith)
        by lr h (Minus b) q o l t =
            subst⁻¹ (Step M f (Plus e)) q
            (pairs_step e b le (subst (OnFloor M) q (m.path.ok (suc r) lr)) ke (subst (λ z. at M false z ≡ k) q (sym (m.path.meet r lr) ∙ h))
            (subst (Free M f) q o) t)

    HeldPair : ℕ → ℕ → Type 0
    HeldPair e g = (r s : ℕ) × (r ≤ s) × (s < N) × FullPair M f P k r × Step M f (Plus e) (P (suc s))
        × ((h : FullPair M f P k r) → Pairs (count M.floor true k) (M.cap true k) (trays M f true k) (place M.floor true k h.e) g)

    new_pair : (e g : ℕ) → e < M.floor.lanes → M.floor.end true e ≡ k
        → (Pairs (count M.floor true k) (M.cap true k) (trays M f true k) (place M.floor true k e) g → ⊥)
        → Pairs (count M.floor true k) (M.cap true k) (trays M (augmented n P N f) true k) (place M.floor true k e) g
        → OpenPair e ⊎ HeldPair e g
    unfolding HeldPair pos_plus pos_minus
    new_pair e g le ke never now =
        elim (splice_in M m.laws f m.fits P N n m.path m.least k kin (place M.floor true k e) g
        (there M true k e le ke) never now) [
          | inl a ↦ inl (by_open e le ke a.0 a.1)
          | inr c ↦
              let r : ℕ = c.0 in
              let s : ℕ = c.1 in
              let hr = full_pair M m.laws f m.fits P N m.path k kin r (omega (arith, c.2, c.3)) c.4 in
              let hs = full_pair M m.laws f m.fits P N m.path k kin s c.3 c.5 in
              inr (
                r,
                s,
                c.2,
                c.3,
                hr,
                subst⁻¹ (Step M f (Plus e)) hs.to
                    (pairs_step e hs.g le hs.g_lane ke hs.g_there (carried M m.laws f m.fits P N m.path k kin s c.3 hs)
                    (subst (λ z. Pairs (count M.floor true k) (M.cap true k) (trays M f true k) (place M.floor true k e) (pos_minus M k z)) hs.to c.6)),
                (λ h. subst (λ z. Pairs (count M.floor true k) (M.cap true k) (trays M f true k) (pos_plus M k z) g) h.from c.7),
              )
        ]

    -- a full lane has no pair with no position
    full_alone : (e : ℕ) → e < M.floor.lanes → M.floor.end true e ≡ k → lane_room M f true e ≡ 0
        → Pairs (count M.floor true k) (M.cap true k) (trays M f true k) (place M.floor true k e) (count M.floor true k) → ⊥
    full_alone e le ke z t =
        let l = there M true k e le ke in
        let r = all_is M m.laws f m.fits true k kin e ke in
        let b = room_as_but (count M.floor true k) (M.cap true k) (caps M m.laws f m.fits P N m.path k kin) (trays M f true k)
        (trays_fit M m.laws f m.fits P N m.path k kin) (place M.floor true k e) in
        elim t [ inl q ↦ omega arith | inr q ↦ omega arith ]

    -- a full lane e that comes to have room steps to the open pair
    pub opened : (e : ℕ) → e < M.floor.lanes → M.floor.end true e ≡ k → lane_room M f true e ≡ 0 → 0 < lane_room M (augmented n P N f) true e → OpenPair e
    unfolding HeldPair
    opened e le ke z h =
        let now : Pairs (count M.floor true k) (M.cap true k) (trays M (augmented n P N f) true k) (place M.floor true k e) (count M.floor true k) =
        inr (omega (arith, room_is M true k (augmented n P N f) e (count M.floor true k) ke, ap (λ i. room_at M (augmented n P N f) true e (count M.floor true i)) ke)) in
        elim (new_pair e (count M.floor true k) le ke (full_alone e le ke z) now) [
          | inl a ↦ a
          | inr c ↦ let w : FullPair M f P k c.0 = c.4 in absurd (full_alone w.e w.e_lane w.e_there w.full (c.6 w))
        ]

    -- a lane of a full lane's tight set carries trays
    full_carries : (e g : ℕ) → e < M.floor.lanes → g < M.floor.lanes → M.floor.end true e ≡ k → M.floor.end true g ≡ k → (e ≡ g → ⊥) → lane_room M f true e ≡ 0
        → 0 < room_but (count M.floor true k) (M.cap true k) (trays M f true k) (place M.floor true k e) (place M.floor true k g) → 0 < f g
    full_carries e g le lg ke kg ne z h =
        let c = caps M m.laws f m.fits P N m.path k kin in
        let t = trays_fit M m.laws f m.fits P N m.path k kin in
        let pe = there M true k e le ke in
        let pg = there M true k g lg kg in
        let fe = full_here M m.laws f m.fits P N m.path k kin e ke z in
        let i = member_from_room (count M.floor true k) (M.cap true k) c (trays M f true k) t (place M.floor true k e) (place M.floor true k g) pe fe h in
        let y = full_tight (count M.floor true k) (M.cap true k) c (trays M f true k) t (place M.floor true k e) pe fe in
        let r = tight_set_carries (count M.floor true k) (M.cap true k) c (trays M f true k) t (place M.floor true k e) (place M.floor true k g)
        (tight_at M f true k e) pe pg y.0 y.1 i
        (λ q. ne (sym (place_apart M.floor true k g e (eq-eqb (M.floor.end true g) k kg) (eq-eqb (M.floor.end true e) k ke) q))) in
        omega (arith, trays_at M m.laws f m.fits P N m.path k kin g lg kg)

    -- a full lane steps to what it pairs with
    held_step : (e g : ℕ) → e < M.floor.lanes → g < M.floor.lanes → M.floor.end true e ≡ k → M.floor.end true g ≡ k → lane_room M f true e ≡ 0
        → Pairs (count M.floor true k) (M.cap true k) (trays M f true k) (place M.floor true k e) (place M.floor true k g) → Step M f (Plus e) (Minus g)
    held_step e g le lg ke kg z t =
        elim (cases_eq e g) [
          | inl q ↦ record { ok_from = le; ok_to = lg; meet = ke ∙ sym kg; some = inr q }
          | inr q ↦
              elim t [
                | inl r ↦ absurd (q (place_apart M.floor true k e g (eq-eqb (M.floor.end true e) k ke) (eq-eqb (M.floor.end true g) k kg) r))
                | inr r ↦ pairs_step e g le lg ke kg (full_carries e g le lg ke kg q z r) (inr r)
              ]
        ]

    -- the + lane g of the path, at k
    pub turn_step : (i g : ℕ) → g < M.floor.lanes → P i ≡ Plus g → Step M f (P i) (Minus g)
    turn_step i g lg q =
        subst⁻¹ (λ x. Step M f x (Minus g)) q (record { ok_from = lg; ok_to = lg; meet = refl; some = inr refl })

    -- it comes no later than the open pair
    plus_first : (i g r : ℕ) → i < N → P i ≡ Plus g → M.floor.end true g ≡ k → r < N → at M true (P r) ≡ k → Open M f (P r) → i ≤ r
    plus_first i g r li q kg lr h o =
        elim (cases_lt r i) [
          | inl b ↦
              absurd (order M m.laws f m.fits P N m.path k kin r i b li h (subst⁻¹ (λ x. at M true x ≡ k) q kg) o (free_after i g li q))
          | inr b ↦ b
        ]

    pub in_in : (e g : ℕ) → e < M.floor.lanes → g < M.floor.lanes → M.floor.end true e ≡ k → M.floor.end true g ≡ k → (e ≡ g → ⊥)
        → amount M f (Plus e) (Minus g) ≡ 0 → 0 < amount M (augmented n P N f) (Plus e) (Minus g) → Spliced M f P N (Plus e) (Minus g)
    unfolding OpenPair HeldPair
    in_in e g le lg ke kg ne z h =
        elim (cases_lt 0 R) [
          | inl pos ↦ with_room pos
          | inr nil ↦
              elim (new_pair e (place M.floor true k g) le ke (never nil) now)
              [ inl a ↦ by_u a | inr c ↦ by_held c ]
        ]
      where
        R : ℕ
        R = room_but (count M.floor true k) (M.cap true k) (trays M f true k) (place M.floor true k e) (place M.floor true k g)

        RIs : lane_room_but M f true e g ≡ R
        RIs = less_is M true k f e g ke

        differ : place M.floor true k e ≡ place M.floor true k g → ⊥
        differ q = ne (place_apart M.floor true k e g (eq-eqb (M.floor.end true e) k ke) (eq-eqb (M.floor.end true g) k kg) q)

        never : R ≤ 0 → Pairs (count M.floor true k) (M.cap true k) (trays M f true k) (place M.floor true k e) (place M.floor true k g) → ⊥
        never nil t = elim t [ inl q ↦ differ q | inr q ↦ omega arith ]

        now : Pairs (count M.floor true k) (M.cap true k) (trays M (augmented n P N f) true k) (place M.floor true k e) (place M.floor true k g)
        now = inr (omega (arith, less_is M true k (augmented n P N f) e g ke))

        plus_g : f g ≡ 0 → (i : ℕ) × (i < N) × (P i ≡ Plus g)
        plus_g q = more_plus g (omega arith)

        -- e had room without g, and g carried nothing
        with_room : 0 < R → Spliced M f P N (Plus e) (Minus g)
        with_room pos =
            let fg : f g ≡ 0 = omega (arith, RIs) in
            let p = plus_g fg in
            let i : ℕ = p.0 in
            elim (cases_lt 0 (lane_room M f true e)) [
              | inl o ↦ (
                i,
                suc i,
                omega arith,
                p.1,
                step_in (Plus e) (suc i) p.1 le
                    (ke ∙ sym (subst⁻¹ (λ x. at M true x ≡ k) p.2 kg) ∙ m.path.meet i p.1) o (free_after i g p.1 p.2),
                turn_step i g lg p.2,
              )
              | inr o ↦ absurd (omega (arith, full_carries e g le lg ke kg ne (omega arith) pos))
            ]

        by_u : OpenPair e → Spliced M f P N (Plus e) (Minus g)
        by_u a =
            let r : ℕ = a.0 in
            elim (cases_lt 0 (f g)) [
              | inl o ↦ (r, suc r, omega arith, a.1, a.5, step_out r (Minus g) (omega (arith, a.1)) lg (a.2 ∙ sym kg) a.3 o)
              | inr o ↦
                  let p = plus_g (omega arith) in
                  let i : ℕ = p.0 in
                  (i, suc r, omega (arith, plus_first i g r p.1 p.2 kg a.1 a.2 a.3), a.1, a.5, turn_step i g lg p.2)
            ]

        by_held : HeldPair e (place M.floor true k g) → Spliced M f P N (Plus e) (Minus g)
        by_held c =
            let r : ℕ = c.0 in
            let s : ℕ = c.1 in
            let w : FullPair M f P k r = c.4 in
            let t = c.6 w in
            (r, suc s, omega (arith, c.2), c.3, c.5, subst⁻¹ (λ x. Step M f x (Minus g)) w.from (held_step w.e g w.e_lane lg w.e_there kg w.full t))
