-- A path at the lanes that enter a station k: its exchanges come in turn, so that the move is one of the side.
use Rattle.std.proofs.Common.{◌≡◌, ℕ, zero, suc, ◌+◌, ◌<◌, ◌≤◌, min, true, false, eqb, sym, refl, ap, ◌∙◌, subst, inl, inr, arith}
use mathlib.Core.Path.{subst⁻¹}
use Rattle.std.specs.List.{AllByRecursion}
use Rattle.std.proofs.lemmas.Bool.{cases_lt, cases_Bool, cases_eq, both_ways, eq-eqb, and_parts, lt-ltb, le-ltb}
use Rattle.std.proofs.ByRecursion.{All-map}
use Rattle.polymatroid.specs.Sets.{has}
use Rattle.polymatroid.specs.Finite.{first}
use Rattle.polymatroid.specs.Side.{In, Out, Full, Tight}
use Rattle.polymatroid.specs.Exchange.{Sound, Ends, Clear, InTurn, SideMove}
use Rattle.polymatroid.proofs.Codes.{has_past}
use Rattle.polymatroid.proofs.Finite.{first_passes}
use Rattle.polymatroid.proofs.Side.{tight_set_nested}
use Rattle.polymatroid.proofs.Room.{room_as_but, full_tight, tight_full}
use Rattle.floor.specs.Floor.{place, count}
use Rattle.floor.specs.Meaning.{Meaning, Lawful}
use Rattle.network.specs.Plans.{trays, Fits}
use Rattle.network.specs.States.{State, Pole, Plus, Minus, at, lane_room, lane_room_but, amount, OnFloor, Path, Open, Free}
use Rattle.floor.proofs.Places.{lane_at_place}
use Rattle.network.proofs.Hits.{hits, all_hits}
use Rattle.network.proofs.Visits.{by_arrival}
use Rattle.network.proofs.Arrivals.{pos_plus, pos_minus, is_full_pair, is_open_pair, exchange_at, the_open_pair, open_up, open_down, exchanges_at, turn_cond, FullPair, order, at_full_pair, at_open_pair, open_pair_open, full_pair, caps, trays_fit, full_here, tight_step, exchange_is, member, sound, carried}
use Rattle.network.proofs.Rooms.{tight_at, there, apart, less_is, all_is}

module _ (M : Meaning) (laws : Lawful M) (f : ℕ → ℕ) (fits : Fits M f) (P : ℕ → State) (N : ℕ) (path : Path M f P N) (k : ℕ) (on_floor : k < M.floor.stations) where
  -- its tight set is clear of a later exchange
  clear_down : (q r : ℕ) → q < r → r < N → (h : FullPair M f P k q) (j : FullPair M f P k r)
      → Out (tight_at M f true k h.e) (place M.floor true k j.g)
  clear_down q r l m h j =
      elim (cases_Bool (has (tight_at M f true k h.e) (place M.floor true k j.g))) [
        | inl y ↦
            let s = tight_step M laws f fits P N path k on_floor h.e j.g h.e_lane j.g_lane h.e_there j.g_there (carried M laws f fits P N path k on_floor r m j) y in
            absurd (omega (arith, path.short q (suc r) (omega arith) m (rw (h.from, j.to) s)))
        | inr y ↦ y
      ]

  clear_up : (q r : ℕ) → q < r → r < N → (h : FullPair M f P k q) (j : FullPair M f P k r)
      → Out (tight_at M f true k h.e) (place M.floor true k j.e)
  clear_up q r l m h j =
      elim (cases_Bool (has (tight_at M f true k h.e) (place M.floor true k j.e))) [
        | inl y ↦
            let t = full_tight (count M.floor true k) (M.cap true k) (caps M laws f fits P N path k on_floor) (trays M f true k) (trays_fit M laws f fits P N path k on_floor) (place M.floor true k h.e)
            (there M true k h.e h.e_lane h.e_there) (full_here M laws f fits P N path k on_floor h.e h.e_there h.full) in
            absurd (both_ways (has (tight_at M f true k h.e) (place M.floor true k j.g)) (clear_down q r l m h j)
            (tight_set_nested (count M.floor true k) (M.cap true k) (caps M laws f fits P N path k on_floor) (trays M f true k) (trays_fit M laws f fits P N path k on_floor)
            (place M.floor true k h.e) (place M.floor true k j.e) (tight_at M f true k h.e) t.0 t.1 y
            (place M.floor true k j.g) (member M laws f fits P N path k on_floor r m j)))
        | inr y ↦ y
      ]

  pub tight_held : (q : ℕ) (h : FullPair M f P k q)
      → Tight (count M.floor true k) (M.cap true k) (trays M f true k) (tight_at M f true k h.e)
      × In (tight_at M f true k h.e) (place M.floor true k h.e)
  tight_held q h =
      full_tight (count M.floor true k) (M.cap true k) (caps M laws f fits P N path k on_floor) (trays M f true k) (trays_fit M laws f fits P N path k on_floor) (place M.floor true k h.e)
      (there M true k h.e h.e_lane h.e_there) (full_here M laws f fits P N path k on_floor h.e h.e_there h.full)

  clear_none : (q : ℕ) (h : FullPair M f P k q) → Out (tight_at M f true k h.e) (count M.floor true k)
  clear_none q h = has_past (count M.floor true k) (tight_at M f true k h.e) (count M.floor true k) (tight_held q h).0.set (omega arith)

  -- a pair by a full arrival does not come after the open pair
  before_open_pair : (q r : ℕ) → q < N → r < N → FullPair M f P k q → is_full_pair M f P k q ≡ true → is_open_pair M f P k r ≡ true → q < r
  unfolding is_full_pair
  before_open_pair q r l m h t u =
      elim (cases_lt q r) [
        | inl a ↦ a
        | inr a ↦
            elim (cases_eq r q) [
              | inl b ↦ absurd (both_ways (by_arrival M f (P q) (P (suc q))) (subst (λ r. by_arrival M f (P r) (P (suc r)) ≡ false) b (at_open_pair M laws f fits P N path k on_floor r u).1) (arrival q t))
              | inr b ↦
                  absurd (order M laws f fits P N path k on_floor r q (omega arith) l (at_open_pair M laws f fits P N path k on_floor r u).0 (at_full_pair M laws f fits P N path k on_floor q t) (open_pair_open M laws f fits P N path k on_floor r m u).0 (subst⁻¹ (Free M f) h.to (carried M laws f fits P N path k on_floor q l h)))
            ]
      ]
    where
      arrival : (q : ℕ) → is_full_pair M f P k q ≡ true → by_arrival M f (P q) (P (suc q)) ≡ true
      arrival q t = (and_parts (eqb (at M true (P q)) k) (by_arrival M f (P q) (P (suc q))) t).1

  -- and of the open pair
  clear_open_down : (q r : ℕ) → q < r → r < N → (h : FullPair M f P k q) → is_open_pair M f P k r ≡ true → (y : State) → P (suc r) ≡ y
      → Out (tight_at M f true k h.e) (pos_minus M k y)
  unfolding pos_minus
  clear_open_down q r l m h u (Pole b) c = clear_none q h
  clear_open_down q r l m h u (Plus g) c = clear_none q h
  clear_open_down q r l m h u (Minus g) c =
      elim (cases_Bool (has (tight_at M f true k h.e) (place M.floor true k g))) [
        | inl y ↦
            let g_there : M.floor.end true g ≡ k = subst (λ z. at M false z ≡ k) c (sym (path.meet r m) ∙ (at_open_pair M laws f fits P N path k on_floor r u).0) in
            let s = tight_step M laws f fits P N path k on_floor h.e g h.e_lane (subst (OnFloor M) c (path.ok (suc r) m)) h.e_there g_there
            (subst (Free M f) c (open_pair_open M laws f fits P N path k on_floor r m u).1) y in
            absurd (omega (arith, path.short q (suc r) (omega arith) m (rw (h.from, c) s)))
        | inr y ↦ y
      ]

  clear_open_up : (q r : ℕ) → r < N → (h : FullPair M f P k q) → is_open_pair M f P k r ≡ true → (x : State) → P r ≡ x
      → Out (tight_at M f true k h.e) (pos_plus M k x)
  unfolding pos_plus
  clear_open_up q r m h u (Pole b) c = clear_none q h
  clear_open_up q r m h u (Minus g) c = clear_none q h
  clear_open_up q r m h u (Plus a) c =
      elim (cases_Bool (has (tight_at M f true k h.e) (place M.floor true k a))) [
        | inl y ↦
            let a_there : M.floor.end true a ≡ k = subst (λ z. at M true z ≡ k) c (at_open_pair M laws f fits P N path k on_floor r u).0 in
            let z = tight_full (count M.floor true k) (M.cap true k) (caps M laws f fits P N path k on_floor) (trays M f true k) (trays_fit M laws f fits P N path k on_floor) (place M.floor true k a)
            (tight_at M f true k h.e) (tight_held q h).0 y in
            absurd (omega (arith, all_is M laws f fits true k on_floor a a_there, z, subst (Open M f) c (open_pair_open M laws f fits P N path k on_floor r m u).0))
        | inr y ↦ y
      ]

  -- the tight set of an exchange is clear of the ends
  clear_ends : (q : ℕ) → q < N → is_full_pair M f P k q ≡ true
      → Clear (count M.floor true k) (M.cap true k) (trays M f true k) (exchange_at M f P k q).up (open_up M f P k N) (open_down M f P k N)
  unfolding open_up open_down the_open_pair
  clear_ends q l t =
      let h = full_pair M laws f fits P N path k on_floor q l t in
      let i : ℕ = first (is_open_pair M f P k) N in
      rw (ap (λ s. s.up) (exchange_is M laws f fits P N path k on_floor q h))
      (elim (cases_lt i N) [
        | inl m ↦
            let u = first_passes (is_open_pair M f P k) N m in
            let b = before_open_pair q i l m h t u in
            rw (lt-ltb i N m) (clear_open_up q i m h u (P i) refl, clear_open_down q i b m h u (P (suc i)) refl)
        | inr m ↦ rw (le-ltb i N m) (clear_none q h, clear_none q h)
      ])

  clear_later : (q r : ℕ) → q < r → r < N → is_full_pair M f P k q ≡ true → is_full_pair M f P k r ≡ true
      → Clear (count M.floor true k) (M.cap true k) (trays M f true k) (exchange_at M f P k q).up (exchange_at M f P k r).up (exchange_at M f P k r).down
  clear_later q r l m t s =
      let h = full_pair M laws f fits P N path k on_floor q (omega arith) t in
      let j = full_pair M laws f fits P N path k on_floor r m s in
      rw (ap (λ s. s.up) (exchange_is M laws f fits P N path k on_floor q h), ap (λ s. s.up) (exchange_is M laws f fits P N path k on_floor r j), ap (λ s. s.down) (exchange_is M laws f fits P N path k on_floor r j))
      (clear_up q r l m h j, clear_down q r l m h j)

  in_turn : (a c : ℕ) → a + c ≤ N
      → InTurn (count M.floor true k) (M.cap true k) (trays M f true k) (open_up M f P k N) (open_down M f P k N) (exchanges_at M f P k a c)
  unfolding exchanges_at hits
  in_turn a zero l = tt
  in_turn a (suc c) l =
      turn_cond (count M.floor true k) (M.cap true k) (trays M f true k) (open_up M f P k N) (open_down M f P k N) (exchange_at M f P k)
      (is_full_pair M f P k a) a (hits (is_full_pair M f P k) (suc a) c)
      (clear_ends a (omega arith))
      (λ t. All-map (λ s. Clear (count M.floor true k) (M.cap true k) (trays M f true k) (exchange_at M f P k a).up s.up s.down) (exchange_at M f P k)
      (hits (is_full_pair M f P k) (suc a) c)
      (all_hits (is_full_pair M f P k)
      (λ r. Clear (count M.floor true k) (M.cap true k) (trays M f true k) (exchange_at M f P k a).up (exchange_at M f P k r).up (exchange_at M f P k r).down)
      (suc a) c (λ r x y z. clear_later a r (omega arith) (omega arith) t z)))
      (in_turn (suc a) c (omega arith))

  all_sound : (n : ℕ) → ((q : ℕ) → q < N → n ≤ amount M f (P q) (P (suc q)))
      → AllByRecursion (Sound (count M.floor true k) (M.cap true k) (trays M f true k) n) (exchanges_at M f P k 0 N)
  unfolding exchanges_at
  all_sound n least =
      All-map (Sound (count M.floor true k) (M.cap true k) (trays M f true k) n) (exchange_at M f P k) (hits (is_full_pair M f P k) 0 N)
      (all_hits (is_full_pair M f P k) (λ q. Sound (count M.floor true k) (M.cap true k) (trays M f true k) n (exchange_at M f P k q)) 0 N
      (λ q _ l t. sound M laws f fits P N path k on_floor n q (omega arith) (least q (omega arith)) t))

  no_ends : (n : ℕ) → Ends (count M.floor true k) (M.cap true k) (trays M f true k) n (count M.floor true k) (count M.floor true k)
  no_ends n = record {
    up_on = omega arith;
    down_on = omega arith;
    apart = λ l. absurd (omega arith);
    roomy = λ l. absurd (omega arith);
    carries = λ l. absurd (omega arith);
    amount = λ l. absurd (omega arith);
  }

  -- the lanes of an open pair at i
  up_fact : (i e : ℕ) → i < N → is_open_pair M f P k i ≡ true → P i ≡ Plus e → (e < M.floor.lanes) × (M.floor.end true e ≡ k) × (0 < lane_room M f true e)
  up_fact i e l u a =
      (subst (OnFloor M) a (path.ok i (omega arith)), subst (λ z. at M true z ≡ k) a (at_open_pair M laws f fits P N path k on_floor i u).0, subst (Open M f) a (open_pair_open M laws f fits P N path k on_floor i l u).0)

  down_fact : (i g : ℕ) → i < N → is_open_pair M f P k i ≡ true → P (suc i) ≡ Minus g → (g < M.floor.lanes) × (M.floor.end true g ≡ k)
  down_fact i g l u a =
      (subst (OnFloor M) a (path.ok (suc i) l), subst (λ z. at M false z ≡ k) a (sym (path.meet i l) ∙ (at_open_pair M laws f fits P N path k on_floor i u).0))

  pub trays_at : (g : ℕ) → g < M.floor.lanes → M.floor.end true g ≡ k → trays M f true k (place M.floor true k g) ≡ f g
  trays_at g l q = ap f (lane_at_place M.floor true k g l (eq-eqb (M.floor.end true g) k q))

  not_full : (e : ℕ) → M.floor.end true e ≡ k → 0 < lane_room M f true e
      → Full (count M.floor true k) (M.cap true k) (trays M f true k) (place M.floor true k e) → ⊥
  not_full e q h z = omega (arith, all_is M laws f fits true k on_floor e q)

  ends_up : (n e : ℕ) → (e < M.floor.lanes) × (M.floor.end true e ≡ k) × (0 < lane_room M f true e) → n ≤ lane_room M f true e
      → Ends (count M.floor true k) (M.cap true k) (trays M f true k) n (place M.floor true k e) (count M.floor true k)
  ends_up n e a m =
      let t = there M true k e a.0 a.1 in
      record {
        up_on = omega arith;
        down_on = omega arith;
        apart = λ l q. omega arith;
        roomy = λ l. not_full e a.1 a.2;
        carries = λ l. absurd (omega arith);
        amount = λ l. omega (
          arith,
          all_is M laws f fits true k on_floor e a.1,
          room_as_but (count M.floor true k) (M.cap true k) (caps M laws f fits P N path k on_floor) (trays M f true k) (trays_fit M laws f fits P N path k on_floor) (place M.floor true k e),
        );
      }

  ends_down : (n g : ℕ) → (g < M.floor.lanes) × (M.floor.end true g ≡ k) → n ≤ f g
      → Ends (count M.floor true k) (M.cap true k) (trays M f true k) n (count M.floor true k) (place M.floor true k g)
  ends_down n g a m =
      let t = there M true k g a.0 a.1 in
      record {
        up_on = omega arith;
        down_on = omega arith;
        apart = λ l. absurd (omega arith);
        roomy = λ l. absurd (omega arith);
        carries = λ l. omega (arith, trays_at g a.0 a.1);
        amount = λ l. absurd (omega arith);
      }

  ends_both : (n e g : ℕ) → (e < M.floor.lanes) × (M.floor.end true e ≡ k) × (0 < lane_room M f true e) → (g < M.floor.lanes) × (M.floor.end true g ≡ k)
      → (e ≡ g → ⊥) → n ≤ min (lane_room_but M f true e g) (f g)
      → Ends (count M.floor true k) (M.cap true k) (trays M f true k) n (place M.floor true k e) (place M.floor true k g)
  ends_both n e g a b ne m =
      let t = there M true k e a.0 a.1 in
      let s = there M true k g b.0 b.1 in
      record {
        up_on = omega arith;
        down_on = omega arith;
        apart = λ l. apart M true k e g a.1 b.1 ne;
        roomy = λ l. not_full e a.1 a.2;
        carries = λ l. omega (arith, trays_at g b.0 b.1);
        amount = λ l. omega (arith, less_is M true k f e g a.1);
      }

  -- the ends of the open pair at i
  ends_at : (n i : ℕ) → i < N → n ≤ amount M f (P i) (P (suc i)) → is_open_pair M f P k i ≡ true
      → Ends (count M.floor true k) (M.cap true k) (trays M f true k) n (pos_plus M k (P i)) (pos_minus M k (P (suc i)))
  unfolding pos_plus pos_minus
  ends_at n i l m u = by (P i) (P (suc i)) refl refl m
    where
      by : (x y : State) → P i ≡ x → P (suc i) ≡ y → n ≤ amount M f x y
          → Ends (count M.floor true k) (M.cap true k) (trays M f true k) n (pos_plus M k x) (pos_minus M k y)
      by (Pole b) (Pole d) a c m = no_ends n
      by (Pole b) (Plus g) a c m = no_ends n
      by (Pole false) (Minus g) a c m = ends_down n g (down_fact i g l u c) (omega arith)
      by (Pole true) (Minus g) a c m = ends_down n g (down_fact i g l u c) (omega arith)
      by (Plus e) (Pole false) a c m = ends_up n e (up_fact i e l u a) (omega arith)
      by (Plus e) (Pole true) a c m = ends_up n e (up_fact i e l u a) m
      by (Plus e) (Plus g) a c m = ends_up n e (up_fact i e l u a) (omega arith)
      by (Plus e) (Minus g) a c m =
          ends_both n e g (up_fact i e l u a) (down_fact i g l u c) (λ q. path.straight i l (rw (a, c) q)) m
      by (Minus e) (Pole d) a c m = no_ends n
      by (Minus e) (Plus g) a c m = no_ends n
      by (Minus e) (Minus g) a c m = ends_down n g (down_fact i g l u c) (omega arith)

  ends : (n : ℕ) → ((q : ℕ) → q < N → n ≤ amount M f (P q) (P (suc q)))
      → Ends (count M.floor true k) (M.cap true k) (trays M f true k) n (open_up M f P k N) (open_down M f P k N)
  unfolding open_up open_down the_open_pair
  ends n least =
      let i : ℕ = first (is_open_pair M f P k) N in
      elim (cases_lt i N) [
        | inl m ↦ rw (lt-ltb i N m) (ends_at n i m (least i m) (first_passes (is_open_pair M f P k) N m))
        | inr m ↦ rw (le-ltb i N m) (no_ends n)
      ]

  pub move : (n : ℕ) → ((q : ℕ) → q < N → n ≤ amount M f (P q) (P (suc q)))
      → SideMove (count M.floor true k) (M.cap true k) (trays M f true k) n (open_up M f P k N) (open_down M f P k N) (exchanges_at M f P k 0 N)
  move n least = record {
    caps = caps M laws f fits P N path k on_floor;
    fits = trays_fit M laws f fits P N path k on_floor;
    ends = ends n least;
    sound = all_sound n least;
    turn = in_turn 0 N (omega arith);
  }
