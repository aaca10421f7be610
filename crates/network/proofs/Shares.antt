-- What the pairs of a path give to a set of the lanes that enter a station and take from it: the exchanges and the open pair do.
use Rattle.std.proofs.Common.{◌≡◌, ℕ, zero, suc, ◌+◌, ◌^◌, ◌<◌, Bool, true, false, cond, not, ◌&&◌, eqb, ltb, List, ◌∷◌, map, refl, ap, arith}
use Rattle.polymatroid.specs.Sets.{has}
use Rattle.polymatroid.specs.Finite.{first}
use Rattle.polymatroid.specs.Exchange.{Exchange, ups, downs}
use Rattle.polymatroid.proofs.Codes.{has_past}
use Rattle.floor.specs.Floor.{place, count}
use Rattle.floor.specs.Meaning.{Meaning, Lawful}
use Rattle.network.specs.Plans.{Fits}
use Rattle.network.specs.States.{State, Pole, Plus, Minus, at, Path}
use Rattle.network.proofs.Sums.{given, taken}
use Rattle.polymatroid.specs.Kinds.{sum_to}
use Rattle.network.proofs.Hits.{hits, sum_same, sum_both, sum_shift, sum_front, sum_first}
use Rattle.network.proofs.Visits.{by_arrival, by_departure}
use Rattle.network.proofs.Arrivals.{pos_plus, pos_minus, is_full_pair, is_open_pair, exchange_at, the_open_pair, open_up, open_down, exchanges_at, one_open_pair}

-- what one of two pairs gives
share : (b a c h : Bool) (n : ℕ) → c ≡ false → cond (b && h) n 0 ≡ cond (b && a) (cond h n 0) 0 + cond (b && (not a && not c)) (cond h n 0) 0
share true true c true n e = grind arith
share true true c false n e = grind arith
share true false c true n e = grind arith
share true false c false n e = grind arith
share false a c h n e = omega arith

pub none : (s t : Bool) (n : ℕ) (h : Bool) → h ≡ false → 0 ≡ cond s (cond h n 0) 0 + cond t (cond h n 0) 0
none s t n h e = grind arith

module _ (n X : ℕ) (sw : ℕ → Exchange) (t : ℕ → Bool) where
  ups_cond : (b : Bool) (a : ℕ) (H : List ℕ) → ups n (map sw (cond b (a ∷ H) H)) X ≡ cond b (cond (has X (sw a).up) n 0) 0 + ups n (map sw H) X
  unfolding ups
  ups_cond true a H = refl
  ups_cond false a H = omega arith

  downs_cond : (b : Bool) (a : ℕ) (H : List ℕ) → downs n (map sw (cond b (a ∷ H) H)) X ≡ cond b (cond (has X (sw a).down) n 0) 0 + downs n (map sw H) X
  unfolding downs
  downs_cond true a H = refl
  downs_cond false a H = omega arith

  ups_sum : (a c : ℕ) → ups n (map sw (hits t a c)) X ≡ sum_to (λ r. cond (t (a + r)) (cond (has X (sw (a + r)).up) n 0) 0) c
  unfolding hits ups sum_to
  ups_sum a zero = refl
  ups_sum a (suc c) =
      let h : ℕ → ℕ = λ q. cond (t q) (cond (has X (sw q).up) n 0) 0 in
      let f = sum_front (λ r. h (a + r)) c in
      let s = sum_same (λ r. h (suc a + r)) (λ r. h (a + suc r)) c (λ r l. ap h (omega arith)) in
      let z = ap h (zero_of a) in
      omega (arith, ups_cond (t a) a (hits t (suc a) c), ups_sum (suc a) c)
    where
      zero_of : (a : ℕ) → a + 0 ≡ a
      zero_of a = omega arith

  downs_sum : (a c : ℕ) → downs n (map sw (hits t a c)) X ≡ sum_to (λ r. cond (t (a + r)) (cond (has X (sw (a + r)).down) n 0) 0) c
  unfolding hits downs sum_to
  downs_sum a zero = refl
  downs_sum a (suc c) =
      let h : ℕ → ℕ = λ q. cond (t q) (cond (has X (sw q).down) n 0) 0 in
      let f = sum_front (λ r. h (a + r)) c in
      let s = sum_same (λ r. h (suc a + r)) (λ r. h (a + suc r)) c (λ r l. ap h (omega arith)) in
      let z = ap h (zero_of a) in
      omega (arith, downs_cond (t a) a (hits t (suc a) c), downs_sum (suc a) c)
    where
      zero_of : (a : ℕ) → a + 0 ≡ a
      zero_of a = omega arith

module _ (M : Meaning) (f : ℕ → ℕ) (P : ℕ → State) (N : ℕ) (path : Path M f P N) (k : ℕ) (n X : ℕ) (set : X < 2 ^ (count M.floor true k)) where
  off : has X (count M.floor true k) ≡ false
  off = has_past (count M.floor true k) X (count M.floor true k) set (omega arith)

  -- each arrival here that puts trays into X is one of an exchange or of the open pair
  given_at : (q : ℕ) → given M n true k X (P q)
      ≡ cond (is_full_pair M f P k q) (cond (has X (pos_plus M k (P q))) n 0) 0 + cond (is_open_pair M f P k q) (cond (has X (pos_plus M k (P q))) n 0) 0
  unfolding is_full_pair is_open_pair given pos_plus
  given_at q = by (P q) (P (suc q))
    where
      by : (x y : State) → given M n true k X x
          ≡ cond (eqb (at M true x) k && by_arrival M f x y) (cond (has X (pos_plus M k x)) n 0) 0
          + cond (eqb (at M true x) k && (not (by_arrival M f x y) && not (by_departure M f x y))) (cond (has X (pos_plus M k x)) n 0) 0
      by (Pole b) y =
          none (eqb (at M true (Pole b)) k && by_arrival M f (Pole b) y)
          (eqb (at M true (Pole b)) k && (not (by_arrival M f (Pole b) y) && not (by_departure M f (Pole b) y))) n (has X (count M.floor true k)) off
      by (Plus e) y = share (eqb (M.floor.end true e) k) (by_arrival M f (Plus e) y) false (has X (place M.floor true k e)) n refl
      by (Minus e) y =
          none (eqb (at M true (Minus e)) k && by_arrival M f (Minus e) y)
          (eqb (at M true (Minus e)) k && (not (by_arrival M f (Minus e) y) && not (by_departure M f (Minus e) y))) n (has X (count M.floor true k)) off

  taken_at : (q : ℕ) → q < N → taken M n true k X (P (suc q))
      ≡ cond (is_full_pair M f P k q) (cond (has X (pos_minus M k (P (suc q)))) n 0) 0 + cond (is_open_pair M f P k q) (cond (has X (pos_minus M k (P (suc q)))) n 0) 0
  unfolding is_full_pair is_open_pair taken pos_minus
  taken_at q l = by (P q) (P (suc q)) (path.meet q l)
    where
      by : (x y : State) → at M true x ≡ at M false y → taken M n true k X y
          ≡ cond (eqb (at M true x) k && by_arrival M f x y) (cond (has X (pos_minus M k y)) n 0) 0
          + cond (eqb (at M true x) k && (not (by_arrival M f x y) && not (by_departure M f x y))) (cond (has X (pos_minus M k y)) n 0) 0
      by x (Pole c) m =
          none (eqb (at M true x) k && by_arrival M f x (Pole c))
          (eqb (at M true x) k && (not (by_arrival M f x (Pole c)) && not (by_departure M f x (Pole c)))) n (has X (count M.floor true k)) off
      by x (Plus g) m =
          none (eqb (at M true x) k && by_arrival M f x (Plus g))
          (eqb (at M true x) k && (not (by_arrival M f x (Plus g)) && not (by_departure M f x (Plus g)))) n (has X (count M.floor true k)) off
      by x (Minus g) m =
          rw m (share (eqb (M.floor.end true g) k) (by_arrival M f x (Minus g)) (by_departure M f x (Minus g)) (has X (place M.floor true k g)) n (stays x))
        where
          stays : (x : State) → by_departure M f x (Minus g) ≡ false
          stays (Pole b) = refl
          stays (Plus e) = refl
          stays (Minus e) = refl

  module _ (laws : Lawful M) (fits : Fits M f) (on_floor : k < M.floor.stations) where
    pub given_sum : sum_to (λ r. given M n true k X (P r)) N ≡ cond (has X (open_up M f P k N)) n 0 + ups n (exchanges_at M f P k 0 N) X
    unfolding exchanges_at exchange_at open_up the_open_pair
    given_sum =
        let hH : ℕ → ℕ = λ q. cond (is_full_pair M f P k q) (cond (has X (pos_plus M k (P q))) n 0) 0 in
        let hU : ℕ → ℕ = λ q. cond (is_open_pair M f P k q) (cond (has X (pos_plus M k (P q))) n 0) 0 in
        let a = sum_same (λ r. given M n true k X (P r)) (λ r. hH r + hU r) N (λ r l. given_at r) in
        let b = sum_both hH hU N in
        let c = ups_sum n X (exchange_at M f P k) (is_full_pair M f P k) 0 N in
        let d = sum_same (λ r. hH (0 + r)) hH N (λ r l. ap hH (omega arith)) in
        let e = sum_first (is_open_pair M f P k) (λ q. cond (has X (pos_plus M k (P q))) n 0) N (one_open_pair M laws f fits P N path k on_floor) in
        let g : cond (ltb (first (is_open_pair M f P k) N) N) (cond (has X (pos_plus M k (P (first (is_open_pair M f P k) N)))) n 0) 0
        ≡ cond (has X (cond (ltb (first (is_open_pair M f P k) N) N) (pos_plus M k (P (first (is_open_pair M f P k) N))) (count M.floor true k))) n 0 =
        pushed (ltb (first (is_open_pair M f P k) N) N) (pos_plus M k (P (first (is_open_pair M f P k) N))) in
        omega arith
      where
        pushed : (b : Bool) (p : ℕ) → cond b (cond (has X p) n 0) 0 ≡ cond (has X (cond b p (count M.floor true k))) n 0
        pushed true p = refl
        pushed false p = let o = off in grind arith

    pub taken_sum : sum_to (λ r. taken M n true k X (P r)) N ≡ cond (has X (open_down M f P k N)) n 0 + downs n (exchanges_at M f P k 0 N) X
    unfolding exchanges_at exchange_at open_down the_open_pair taken
    taken_sum =
        let hH : ℕ → ℕ = λ q. cond (is_full_pair M f P k q) (cond (has X (pos_minus M k (P (suc q)))) n 0) 0 in
        let hU : ℕ → ℕ = λ q. cond (is_open_pair M f P k q) (cond (has X (pos_minus M k (P (suc q)))) n 0) 0 in
        let z = sum_shift (λ r. taken M n true k X (P r)) N in
        let z0 : taken M n true k X (P 0) ≡ 0 = rw path.begin (pole false) in
        let zN : taken M n true k X (P N) ≡ 0 = rw path.finish (pole true) in
        let a = sum_same (λ r. taken M n true k X (P (suc r))) (λ r. hH r + hU r) N (λ r l. taken_at r l) in
        let b = sum_both hH hU N in
        let c = downs_sum n X (exchange_at M f P k) (is_full_pair M f P k) 0 N in
        let d = sum_same (λ r. hH (0 + r)) hH N (λ r l. ap hH (omega arith)) in
        let e = sum_first (is_open_pair M f P k) (λ q. cond (has X (pos_minus M k (P (suc q)))) n 0) N (one_open_pair M laws f fits P N path k on_floor) in
        let g : cond (ltb (first (is_open_pair M f P k) N) N) (cond (has X (pos_minus M k (P (suc (first (is_open_pair M f P k) N))))) n 0) 0
        ≡ cond (has X (cond (ltb (first (is_open_pair M f P k) N) N) (pos_minus M k (P (suc (first (is_open_pair M f P k) N)))) (count M.floor true k))) n 0 =
        pushed (ltb (first (is_open_pair M f P k) N) N) (pos_minus M k (P (suc (first (is_open_pair M f P k) N)))) in
        omega arith
      where
        pushed : (b : Bool) (p : ℕ) → cond b (cond (has X p) n 0) 0 ≡ cond (has X (cond b p (count M.floor true k))) n 0
        pushed true p = refl
        pushed false p = let o = off in grind arith

        pole : (b : Bool) → taken M n true k X (Pole b) ≡ 0
        pole b = refl
