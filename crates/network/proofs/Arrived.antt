-- After a move, the lanes that enter a station carry what the exchanges of the side say.
use Rattle.std.proofs.Common.{◌≡◌, ℕ, suc, ◌^◌, ◌<◌, ◌≤◌, true, false, eqb, ◌⊎◌, List, length, get_or, sym, refl, ap, ◌∙◌, ap₂, inl, inr, arith}
use Rattle.std.proofs.lemmas.Bool.{cases_lt, cases_Bool, both_ways, lt-ltb, eq-eqb}
use Rattle.std.proofs.lemmas.List.{length-map, get_or-map}
use Rattle.polymatroid.specs.Finite.{first}
use Rattle.polymatroid.specs.Side.{load, Within, room_but}
use Rattle.polymatroid.specs.Exchange.{after, SideMove}
use Rattle.polymatroid.proofs.Exchange.{exchanges_keep}
use Rattle.polymatroid.proofs.Critical.{load_move, critical_pair_dies, new_pair_splices}
use Rattle.polymatroid.proofs.Room.{same_within, same_room}
use Rattle.polymatroid.specs.Critical.{nth, Pairs}
use Rattle.polymatroid.proofs.Finite.{first_passes, first_before}
use Rattle.floor.specs.Floor.{on, place, count}
use Rattle.floor.specs.Meaning.{Meaning, Lawful}
use Rattle.network.specs.Plans.{trays, Fits}
use Rattle.network.specs.States.{State, Plus, at, amount, Path, augmented}
use Rattle.floor.proofs.Places.{place_below}
use Rattle.network.proofs.Hits.{hits, hit_index, hit_at, hits_rise}
use Rattle.network.proofs.Loads.{load_walked}
use Rattle.network.proofs.Visits.{by_arrival, by_departure}
use Rattle.network.proofs.Arrivals.{pos_plus, pos_minus, is_full_pair, is_open_pair, exchange_at, the_open_pair, open_up, open_down, exchanges_at, one_open_pair}
use Rattle.network.proofs.Exchanges.{move}
use Rattle.network.proofs.Shares.{given_sum, taken_sum}

module _ (M : Meaning) (laws : Lawful M) (f : ℕ → ℕ) (fits : Fits M f) (P : ℕ → State) (N n : ℕ) (path : Path M f P N)
    (least : (q : ℕ) → q < N → n ≤ amount M f (P q) (P (suc q))) (k : ℕ) (on_floor : k < M.floor.stations) where
  the_move : SideMove (count M.floor true k) (M.cap true k) (trays M f true k) n (open_up M f P k N) (open_down M f P k N) (exchanges_at M f P k 0 N)
  the_move = move M laws f fits P N path k on_floor n least

  -- the trays after the path are those after the side's move
  pub same_loads : (X : ℕ) → X < 2 ^ (count M.floor true k)
      → load (after n (open_up M f P k N) (open_down M f P k N) (exchanges_at M f P k 0 N) (trays M f true k)) (count M.floor true k) X
      ≡ load (trays M (augmented n P N f) true k) (count M.floor true k) X
  same_loads X l =
      omega (
        arith,
        load_walked M f P N n path least true k X N (omega arith),
        given_sum M f P N path k n X l laws fits on_floor,
        taken_sum M f P N path k n X l laws fits on_floor,
        load_move (count M.floor true k) (M.cap true k) (trays M f true k) n (open_up M f P k N) (open_down M f P k N) (exchanges_at M f P k 0 N) the_move X l,
      )

  pub arrived_fits : Within (count M.floor true k) (M.cap true k) (trays M (augmented n P N f) true k)
  arrived_fits =
      same_within (count M.floor true k) (M.cap true k)
      (after n (open_up M f P k N) (open_down M f P k N) (exchanges_at M f P k 0 N) (trays M f true k)) (trays M (augmented n P N f) true k) same_loads
      (exchanges_keep (count M.floor true k) (M.cap true k) (trays M f true k) n (open_up M f P k N) (open_down M f P k N) (exchanges_at M f P k 0 N) the_move)

  -- the exchange of a pair by a full arrival, in the list
  exchange_index : (q : ℕ) → q < N → is_full_pair M f P k q ≡ true
      → (i : ℕ) × (i < length (exchanges_at M f P k 0 N)) × (nth (count M.floor true k) (exchanges_at M f P k 0 N) i ≡ exchange_at M f P k q)
  unfolding exchanges_at
  exchange_index q l t =
      let h = hit_index (is_full_pair M f P k) 0 N q 0 (omega arith) (omega arith) t in
      let H : List ℕ = hits (is_full_pair M f P k) 0 N in (
        h.0,
        rw (length-map H (exchange_at M f P k)) h.1,
        get_or-map (exchange_at M f P k) H h.0 0 (record { up = count M.floor true k; down = count M.floor true k }) h.1 ∙ ap (exchange_at M f P k) h.2,
      )

  -- and the other way round; a later exchange has a later pair
  index_pair : (i : ℕ) → i < length (exchanges_at M f P k 0 N)
      → (nth (count M.floor true k) (exchanges_at M f P k 0 N) i ≡ exchange_at M f P k (get_or (hits (is_full_pair M f P k) 0 N) i 0))
      × (get_or (hits (is_full_pair M f P k) 0 N) i 0 < N) × (is_full_pair M f P k (get_or (hits (is_full_pair M f P k) 0 N) i 0) ≡ true)
  unfolding exchanges_at
  index_pair i l =
      let H : List ℕ = hits (is_full_pair M f P k) 0 N in
      let m : i < length H = rw (length-map H (exchange_at M f P k)) at l in
      let a = hit_at (is_full_pair M f P k) 0 N i 0 m in
      (get_or-map (exchange_at M f P k) H i 0 (record { up = count M.floor true k; down = count M.floor true k }) m, omega (arith, a.1), a.2)

  -- the open pair gives the ends
  open_pair_is : (q : ℕ) → q < N → is_open_pair M f P k q ≡ true
      → (open_up M f P k N ≡ pos_plus M k (P q)) × (open_down M f P k N ≡ pos_minus M k (P (suc q)))
  unfolding open_up open_down the_open_pair
  open_pair_is q l t =
      let i : ℕ = first (is_open_pair M f P k) N in
      let m : i ≤ q =
      elim (cases_lt q i) [ inl b ↦ absurd (both_ways (is_open_pair M f P k q) (first_before (is_open_pair M f P k) N q b) t) | inr b ↦ b ] in
      let w : i ≡ q =
      elim (cases_lt i q) [
        | inl b ↦ absurd (one_open_pair M laws f fits P N path k on_floor i q b l (first_passes (is_open_pair M f P k) N (omega arith)) t)
        | inr b ↦ omega arith
      ] in
      rw (lt-ltb i N (omega arith)) (ap (λ j. pos_plus M k (P j)) w, ap (λ j. pos_minus M k (P (suc j))) w)

  -- the room of a pair afterwards
  room_after : ℕ → ℕ → ℕ
  room_after p g = room_but (count M.floor true k) (M.cap true k) (trays M (augmented n P N f) true k) p g

  room_same : (p g : ℕ) → p < count M.floor true k
      → room_but (count M.floor true k) (M.cap true k) (after n (open_up M f P k N) (open_down M f P k N) (exchanges_at M f P k 0 N) (trays M f true k)) p g
      ≡ room_but (count M.floor true k) (M.cap true k) (trays M (augmented n P N f) true k) p g
  room_same p g l =
      same_room (count M.floor true k) (M.cap true k) (after n (open_up M f P k N) (open_down M f P k N) (exchanges_at M f P k 0 N) (trays M f true k))
      (trays M (augmented n P N f) true k) p g same_loads l

  -- a pair of the path whose arrival has just n left has none afterwards
  pub critical_full : (q : ℕ) → q < N → is_full_pair M f P k q ≡ true → pos_plus M k (P q) < count M.floor true k
      → room_but (count M.floor true k) (M.cap true k) (trays M f true k) (pos_plus M k (P q)) (pos_minus M k (P (suc q))) ≡ n
      → room_but (count M.floor true k) (M.cap true k) (trays M (augmented n P N f) true k) (pos_plus M k (P q)) (pos_minus M k (P (suc q))) ≡ 0
  unfolding exchange_at
  critical_full q l t on e =
      let s = exchange_index q l t in
      let c = (critical_pair_dies (count M.floor true k) (M.cap true k) (trays M f true k) n (open_up M f P k N) (open_down M f P k N) (exchanges_at M f P k 0 N) the_move).1 s.0 s.1 in
      sym (room_same (pos_plus M k (P q)) (pos_minus M k (P (suc q))) on) ∙ (rw s.2 at c) e

  pub critical_open : (q : ℕ) → q < N → is_open_pair M f P k q ≡ true → pos_plus M k (P q) < count M.floor true k
      → room_but (count M.floor true k) (M.cap true k) (trays M f true k) (pos_plus M k (P q)) (pos_minus M k (P (suc q))) ≡ n
      → room_but (count M.floor true k) (M.cap true k) (trays M (augmented n P N f) true k) (pos_plus M k (P q)) (pos_minus M k (P (suc q))) ≡ 0
  critical_open q l t on e =
      let a = open_pair_is q l t in
      let c = (critical_pair_dies (count M.floor true k) (M.cap true k) (trays M f true k) n (open_up M f P k N) (open_down M f P k N) (exchanges_at M f P k 0 N) the_move).0 in
      sym (room_same (pos_plus M k (P q)) (pos_minus M k (P (suc q))) on)
      ∙ sym (ap₂ (room_but (count M.floor true k) (M.cap true k) (after n (open_up M f P k N) (open_down M f P k N) (exchanges_at M f P k 0 N) (trays M f true k))) a.0 a.1)
      ∙ c (rw a.0 on) (ap₂ (room_but (count M.floor true k) (M.cap true k) (trays M f true k)) a.0 a.1 ∙ e)

  pub critical_in : (q e : ℕ) → q < N → P q ≡ Plus e → e < M.floor.lanes → M.floor.end true e ≡ k
      → room_but (count M.floor true k) (M.cap true k) (trays M f true k) (place M.floor true k e) (pos_minus M k (P (suc q))) ≡ n
      → room_but (count M.floor true k) (M.cap true k) (trays M (augmented n P N f) true k) (place M.floor true k e) (pos_minus M k (P (suc q))) ≡ 0
  unfolding pos_plus is_full_pair is_open_pair
  critical_in q e l a le there z =
      sym (ap (λ p. room_but (count M.floor true k) (M.cap true k) (trays M (augmented n P N f) true k) p (pos_minus M k (P (suc q)))) pos)
      ∙ elim (cases_Bool (by_arrival M f (P q) (P (suc q)))) [
        | inl b ↦ critical_full q l (rw (here, b) refl) (rw pos on_it) before
        | inr b ↦ critical_open q l (rw (here, b, stays) refl) (rw pos on_it) before
      ]
    where
      pos : pos_plus M k (P q) ≡ place M.floor true k e
      pos = ap (pos_plus M k) a

      here : eqb (at M true (P q)) k ≡ true
      here = rw a (eq-eqb (M.floor.end true e) k there)

      stays : by_departure M f (P q) (P (suc q)) ≡ false
      stays = ap (λ x. by_departure M f x (P (suc q))) a

      on_it : place M.floor true k e < count M.floor true k
      on_it = place_below M.floor true k e le (eq-eqb (M.floor.end true e) k there)

      before : room_but (count M.floor true k) (M.cap true k) (trays M f true k) (pos_plus M k (P q)) (pos_minus M k (P (suc q))) ≡ n
      before = ap (λ p. room_but (count M.floor true k) (M.cap true k) (trays M f true k) p (pos_minus M k (P (suc q)))) pos ∙ z

  -- a new pair of positions: by the open pair, or by two exchanges
  pub splice_in : (p g : ℕ) → p < count M.floor true k
      → (Pairs (count M.floor true k) (M.cap true k) (trays M f true k) p g → ⊥)
      → Pairs (count M.floor true k) (M.cap true k) (trays M (augmented n P N f) true k) p g
      → ((open_down M f P k N < count M.floor true k) × Pairs (count M.floor true k) (M.cap true k) (trays M f true k) p (open_down M f P k N))
      ⊎ ((r s : ℕ) × (r ≤ s) × (s < N) × (is_full_pair M f P k r ≡ true) × (is_full_pair M f P k s ≡ true)
      × Pairs (count M.floor true k) (M.cap true k) (trays M f true k) p (pos_minus M k (P (suc s)))
      × Pairs (count M.floor true k) (M.cap true k) (trays M f true k) (pos_plus M k (P r)) g)
  unfolding exchange_at exchanges_at
  splice_in p g l never now =
      elim (new_pair_splices (count M.floor true k) (M.cap true k) (trays M f true k) n (open_up M f P k N) (open_down M f P k N) (exchanges_at M f P k 0 N) the_move p g l never before) [
        | inl a ↦ inl a
        | inr c ↦
            let i : ℕ = c.0 in
            let j : ℕ = c.1 in
            let H : List ℕ = hits (is_full_pair M f P k) 0 N in
            let lj : j < length H = rw (length-map H (exchange_at M f P k)) at c.3 in
            let a = index_pair i (omega (arith, c.2, c.3)) in
            let b = index_pair j c.3 in
            inr (
              get_or H i 0,
              get_or H j 0,
              hits_rise (is_full_pair M f P k) 0 N 0 i j c.2 lj,
              b.1,
              a.2,
              b.2,
              rw b.0 at c.4,
              rw a.0 at c.5,
            )
      ]
    where
      before : Pairs (count M.floor true k) (M.cap true k) (after n (open_up M f P k N) (open_down M f P k N) (exchanges_at M f P k 0 N) (trays M f true k)) p g
      before = elim now [ inl q ↦ inl q | inr q ↦ inr (omega (arith, room_same p g l)) ]
