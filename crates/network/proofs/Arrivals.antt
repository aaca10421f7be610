-- A path at the lanes that enter a station k: pairs by a full arrival, whose exchanges are sound, and the open pair.
use Rattle.std.proofs.Common.{◌≡◌, ℕ, suc, ◌<◌, ◌≤◌, min, Bool, true, false, cond, not, ◌&&◌, eqb, ltb, List, ◌∷◌, map, sym, refl, ap, ◌∙◌, inl, inr, arith}
use mathlib.Core.Path.{subst⁻¹}
use Rattle.std.specs.List.{AllByRecursion}
use Rattle.std.proofs.lemmas.Bool.{cases_eq, both_ways, eqb-true, eq-eqb, and_parts}
use Rattle.polymatroid.specs.Finite.{first}
use Rattle.polymatroid.specs.Side.{In, Full, room_but, Within, Caps}
use Rattle.polymatroid.specs.Exchange.{Exchange, Sound, Clear, InTurn}
use Rattle.polymatroid.proofs.Room.{room_but_full, member_from_room}
use Rattle.floor.specs.Floor.{place, count}
use Rattle.floor.specs.Meaning.{Meaning, Lawful}
use Rattle.network.specs.Plans.{trays, Fits}
use Rattle.network.specs.States.{State, Pole, Plus, Minus, at, lane_room, lane_room_but, amount, Step, Path, Open, Free}
use Rattle.floor.proofs.Places.{lane_at_place}
use Rattle.network.proofs.Hits.{hits}
use Rattle.network.proofs.Visits.{by_arrival, by_departure, open_unless, free_unless, open_free}
use Rattle.network.proofs.Rooms.{tight_at, there, apart, less_is, all_is}

-- the position of a state's lane among those that enter k; none is the count
unfoldable pub pos_plus : Meaning → ℕ → State → ℕ
pos_plus M k (Pole b) = count M.floor true k
pos_plus M k (Plus e) = place M.floor true k e
pos_plus M k (Minus e) = count M.floor true k

unfoldable pub pos_minus : Meaning → ℕ → State → ℕ
pos_minus M k (Pole b) = count M.floor true k
pos_minus M k (Plus e) = count M.floor true k
pos_minus M k (Minus e) = place M.floor true k e

neither : (a b c : Bool) → (a && (not b && not c)) ≡ true → (a ≡ true) × (b ≡ false) × (c ≡ false)
neither a b c t = (grind arith, grind arith, grind arith)

module _ (M : Meaning) (f : ℕ → ℕ) (P : ℕ → State) (k : ℕ) where
  unfoldable pub is_full_pair : ℕ → Bool
  is_full_pair q = eqb (at M true (P q)) k && by_arrival M f (P q) (P (suc q))

  unfoldable pub is_open_pair : ℕ → Bool
  is_open_pair q = eqb (at M true (P q)) k && (not (by_arrival M f (P q) (P (suc q))) && not (by_departure M f (P q) (P (suc q))))

  unfoldable pub exchange_at : ℕ → Exchange
  exchange_at q = record { up = pos_plus M k (P q); down = pos_minus M k (P (suc q)) }

  -- the open pair, if there M true k is one before N
  unfoldable pub the_open_pair : ℕ → ℕ
  the_open_pair N = first is_open_pair N

  unfoldable pub open_up : ℕ → ℕ
  open_up N = cond (ltb (the_open_pair N) N) (pos_plus M k (P (the_open_pair N))) (count M.floor true k)

  unfoldable pub open_down : ℕ → ℕ
  open_down N = cond (ltb (the_open_pair N) N) (pos_minus M k (P (suc (the_open_pair N)))) (count M.floor true k)

  -- the exchanges of the c pairs from a on
  unfoldable pub exchanges_at : ℕ → ℕ → List Exchange
  exchanges_at a c = map exchange_at (hits is_full_pair a c)

pub turn_cond : (K : ℕ) (C w : ℕ → ℕ) (u v : ℕ) (sw : ℕ → Exchange) (b : Bool) (a : ℕ) (H : List ℕ)
    → (b ≡ true → Clear K C w (sw a).up u v)
    → (b ≡ true → AllByRecursion (λ s. Clear K C w (sw a).up s.up s.down) (map sw H))
    → InTurn K C w u v (map sw H) → InTurn K C w u v (map sw (cond b (a ∷ H) H))
turn_cond K C w u v sw true a H x y z = (x refl, y refl, z)
turn_cond K C w u v sw false a H x y z = z

-- a full lane e that enters k, followed by a lane g of its tight set
pub record FullPair (M : Meaning) (f : ℕ → ℕ) (P : ℕ → State) (k q : ℕ) : Type 0 where
  pub e : ℕ
  pub g : ℕ
  pub from : P q ≡ Plus e
  pub to : P (suc q) ≡ Minus g
  pub e_there : M.floor.end true e ≡ k
  pub g_there : M.floor.end true g ≡ k
  pub e_lane : e < M.floor.lanes
  pub g_lane : g < M.floor.lanes
  pub full : lane_room M f true e ≡ 0
  pub turns : e ≡ g → ⊥

module _ (M : Meaning) (laws : Lawful M) (f : ℕ → ℕ) (fits : Fits M f) (P : ℕ → State) (N : ℕ) (path : Path M f P N) (k : ℕ) (on_floor : k < M.floor.stations) where
  -- no open arrival before a free departure, but for the pair itself
  pub order : (q r : ℕ) → q < r → r < N → at M true (P q) ≡ k → at M true (P r) ≡ k → Open M f (P q) → Free M f (P (suc r)) → ⊥
  order q r l m a b o s =
      omega (
        arith,
        path.short q (suc r) (omega arith) m
            (open_free M laws f fits (P q) (P (suc r)) (path.ok q (omega arith)) (path.ok (suc r) m) (a ∙ sym b ∙ path.meet r m) o s),
      )

  pub at_full_pair : (q : ℕ) → is_full_pair M f P k q ≡ true → at M true (P q) ≡ k
  unfolding is_full_pair
  at_full_pair q t = eqb-true (at M true (P q)) k (and_parts (eqb (at M true (P q)) k) (by_arrival M f (P q) (P (suc q))) t).0

  pub at_open_pair : (q : ℕ) → is_open_pair M f P k q ≡ true → (at M true (P q) ≡ k) × (by_arrival M f (P q) (P (suc q)) ≡ false) × (by_departure M f (P q) (P (suc q)) ≡ false)
  unfolding is_open_pair
  at_open_pair q t =
      let p = neither (eqb (at M true (P q)) k) (by_arrival M f (P q) (P (suc q))) (by_departure M f (P q) (P (suc q))) t in
      (eqb-true (at M true (P q)) k p.0, p.1, p.2)

  pub open_pair_open : (q : ℕ) → q < N → is_open_pair M f P k q ≡ true → Open M f (P q) × Free M f (P (suc q))
  open_pair_open q l t =
      let h = at_open_pair q t in
      (open_unless M f (P q) (P (suc q)) (path.some q l) h.1, free_unless M f (P q) (P (suc q)) (path.some q l) h.2)

  pub one_open_pair : (q r : ℕ) → q < r → r < N → is_open_pair M f P k q ≡ true → is_open_pair M f P k r ≡ true → ⊥
  one_open_pair q r l m a b = order q r l m (at_open_pair q a).0 (at_open_pair r b).0 (open_pair_open q (omega arith) a).0 (open_pair_open r m b).1

  pub full_pair : (q : ℕ) → q < N → is_full_pair M f P k q ≡ true → FullPair M f P k q
  unfolding is_full_pair
  full_pair q l t = by (P q) (P (suc q)) refl refl (and_parts (eqb (at M true (P q)) k) (by_arrival M f (P q) (P (suc q))) t).1
    where
      by : (x y : State) → P q ≡ x → P (suc q) ≡ y → by_arrival M f x y ≡ true → FullPair M f P k q
      by (Pole b) y a c h = absurd (both_ways false refl h)
      by (Plus e) (Pole b) a c h = absurd (both_ways false refl h)
      by (Plus e) (Plus g) a c h = absurd (both_ways false refl h)
      by (Plus e) (Minus g) a c h =
          let s : M.floor.end true e ≡ k = rw a at (at_full_pair q t) in
          let m : M.floor.end true e ≡ M.floor.end true g = rw (a, c) at (path.meet q l) in
          record {
            e = e;
            g = g;
            from = a;
            to = c;
            e_there = s;
            g_there = sym m ∙ s;
            e_lane = rw a at (path.ok q (omega arith));
            g_lane = rw c at (path.ok (suc q) l);
            full = eqb-true (lane_room M f true e) 0 h;
            turns = λ r. path.straight q l (rw (a, c) r);
          }
      by (Minus e) y a c h = absurd (both_ways false refl h)

  K : ℕ
  K = count M.floor true k

  pub caps : Caps (count M.floor true k) (M.cap true k)
  caps = (laws.laws true k on_floor).0

  pub trays_fit : Within (count M.floor true k) (M.cap true k) (trays M f true k)
  trays_fit = fits true k on_floor

  pub full_here : (e : ℕ) → M.floor.end true e ≡ k → lane_room M f true e ≡ 0
      → Full (count M.floor true k) (M.cap true k) (trays M f true k) (place M.floor true k e)
  full_here e q z = sym (all_is M laws f fits true k on_floor e q) ∙ z

  -- a full lane e steps to each lane of its tight set that carries trays
  pub tight_step : (e g : ℕ) → e < M.floor.lanes → g < M.floor.lanes → M.floor.end true e ≡ k → M.floor.end true g ≡ k → 0 < f g
      → In (tight_at M f true k e) (place M.floor true k g) → Step M f (Plus e) (Minus g)
  tight_step e g le lg a b h i = record {
    ok_from = le;
    ok_to = lg;
    meet = a ∙ sym b;
    some =
        elim (cases_eq e g) [
          | inl r ↦ inr r
          | inr r ↦
              let m = room_but_full (count M.floor true k) (M.cap true k) caps (trays M f true k) trays_fit
              (place M.floor true k e) (place M.floor true k g) (there M true k e le a) (apart M true k e g a b r) i in
              let s : lane_room_but M f true e g ≡ room_but (count M.floor true k) (M.cap true k) (trays M f true k) (place M.floor true k e) (place M.floor true k g) =
              less_is M true k f e g a in
              inl (omega arith)
        ];
  }

  -- the pair lets through what its swap may move
  held_amount : (q : ℕ) (h : FullPair M f P k q) → amount M f (P q) (P (suc q))
      ≡ min (room_but (count M.floor true k) (M.cap true k) (trays M f true k) (place M.floor true k h.e) (place M.floor true k h.g)) (f h.g)
  held_amount q h =
      rw (h.from, h.to)
      (ap (λ x. min x (f h.g))
      (less_is M true k f h.e h.g h.e_there))

  -- the swap of a pair by a full arrival
  pub exchange_is : (q : ℕ) (h : FullPair M f P k q) → exchange_at M f P k q ≡ record { up = place M.floor true k h.e; down = place M.floor true k h.g }
  unfolding exchange_at pos_plus pos_minus
  exchange_is q h = λ i. record { up = pos_plus M k (h.from i); down = pos_minus M k (h.to i) }

  pub member : (q : ℕ) → q < N → (h : FullPair M f P k q) → In (tight_at M f true k h.e) (place M.floor true k h.g)
  member q l h =
      member_from_room (count M.floor true k) (M.cap true k) caps (trays M f true k) trays_fit (place M.floor true k h.e) (place M.floor true k h.g)
      (there M true k h.e h.e_lane h.e_there) (full_here h.e h.e_there h.full)
      (omega (arith, held_amount q h, path.some q l))

  -- an exchange at its two positions, which the lanes' are
  sound_at : (n q : ℕ) → q < N → n ≤ amount M f (P q) (P (suc q)) → (h : FullPair M f P k q)
      → Sound (count M.floor true k) (M.cap true k) (trays M f true k) n (record { up = place M.floor true k h.e; down = place M.floor true k h.g })
  sound_at n q l m h = record {
    up_on = there M true k h.e h.e_lane h.e_there;
    down_on = there M true k h.g h.g_lane h.g_there;
    apart = apart M true k h.e h.g h.e_there h.g_there h.turns;
    full = full_here h.e h.e_there h.full;
    member = member q l h;
    carries = omega (arith, held_amount q h, ap f (lane_at_place M.floor true k h.g h.g_lane (eq-eqb (M.floor.end true h.g) k h.g_there)));
    amount = omega (arith, held_amount q h);
  }

  pub sound : (n q : ℕ) → q < N → n ≤ amount M f (P q) (P (suc q)) → is_full_pair M f P k q ≡ true
      → Sound (count M.floor true k) (M.cap true k) (trays M f true k) n (exchange_at M f P k q)
  sound n q l m t =
      let h = full_pair q l t in
      subst⁻¹ (Sound (count M.floor true k) (M.cap true k) (trays M f true k) n) (exchange_is q h) (sound_at n q l m h)

  pub carried : (q : ℕ) → q < N → (h : FullPair M f P k q) → 0 < f h.g
  carried q l h = omega (arith, path.some q l, held_amount q h)
