-- No plan carries more than a cut lets through.
use Rattle.std.proofs.Common.{◌≡◌, ℕ, zero, suc, ◌+◌, ◌*◌, ◌^◌, ◌<◌, ◌≤◌, Bool, true, false, cond, not, ◌&&◌, eqb, sym, refl, ap, ◌∙◌, ap₂, inl, inr, add-one, arith}
use Rattle.std.proofs.lemmas.Bool.{cases_eq, both_ways, eq-eqb, ne_eqb}
use Rattle.polymatroid.specs.Sets.{has}
use Rattle.polymatroid.specs.Side.{load}
use Rattle.polymatroid.proofs.Codes.{has_code, code_below}
use Rattle.floor.specs.Floor.{on, place, count, lane_at}
use Rattle.floor.specs.Meaning.{Meaning, Lawful}
use Rattle.network.specs.Plans.{trays, through, total, Balanced}
use Rattle.polymatroid.specs.Kinds.{sum_to}
use Rattle.network.specs.Cuts.{set_of, crosses, capacity, CutBounds}
use Rattle.floor.proofs.Places.{place_takes, lane_at_place}
use Rattle.network.proofs.Hits.{sum_same, sum_both, sum_none}

pub sum_le : (g h : ℕ → ℕ) (n : ℕ) → ((i : ℕ) → i < n → g i ≤ h i) → sum_to g n ≤ sum_to h n
unfolding sum_to
sum_le g h zero e = omega arith
sum_le g h (suc n) e = omega (arith, sum_le g h n (λ i l. e i (omega arith)), e n (omega arith))

pub sum_times : (q : ℕ) (h : ℕ → ℕ) (n : ℕ) → sum_to (λ i. q * h i) n ≡ q * sum_to h n
unfolding sum_to
sum_times q h zero = omega arith
sum_times q h (suc n) = omega (arith, sum_times q h n)

-- one term of a sum over tests of its place
pub sum_at : (a n : ℕ) (h : ℕ → ℕ) → a < n → sum_to (λ i. cond (eqb a i) (h i) 0) n ≡ h a
unfolding sum_to
sum_at a zero h l = absurd (omega arith)
sum_at a (suc n) h l =
    elim (cases_eq a n) [
      | inl e ↦
          let z = sum_none (λ i. cond (eqb a i) (h i) 0) n (λ i m. let d : a ≡ i → ⊥ = λ q. omega arith in ap (λ b. cond b (h i) 0) (ne_eqb a i d)) in
          let y : cond (eqb a n) (h n) 0 ≡ h n = ap (λ b. cond b (h n) 0) (eq-eqb a n e) in
          let x : h a ≡ h n = ap h e in
          omega arith
      | inr e ↦
          let ih = sum_at a n h (omega arith) in
          let y : cond (eqb a n) (h n) 0 ≡ 0 = ap (λ b. cond b (h n) 0) (ne_eqb a n e) in
          omega arith
    ]

-- two sums in either order
pub sum_swap : (h : ℕ → ℕ → ℕ) (m n : ℕ) → sum_to (λ i. sum_to (λ e. h i e) m) n ≡ sum_to (λ e. sum_to (λ i. h i e) n) m
unfolding sum_to
sum_swap h m zero = sym (sum_none (λ e. 0) m (λ e l. refl))
sum_swap h m (suc n) =
    ap (λ x. x + sum_to (λ e. h n e) m) (sum_swap h m n) ∙ sym (sum_both (λ e. sum_to (λ i. h i e) n) (λ e. h n e) m)

module _ (M : Meaning) (d : Bool) (i : ℕ) where
  pub set_of_below : (t : ℕ → Bool) → set_of M d i t < 2 ^ (count M.floor d i)
  unfolding set_of
  set_of_below t = code_below (count M.floor d i) (λ p. t (lane_at M.floor d i p))

  pub has_set_of : (t : ℕ → Bool) (p : ℕ) → p < count M.floor d i → has (set_of M d i t) p ≡ t (lane_at M.floor d i p)
  unfolding set_of
  has_set_of t p l = has_code (count M.floor d i) (λ p. t (lane_at M.floor d i p)) p l

  -- what a set carries, lane by lane
  load_lanes : (g : ℕ → ℕ) (X m : ℕ) → m ≤ M.floor.lanes
      → load (trays M g d i) (place M.floor d i m) X ≡ sum_to (λ e. cond (on M.floor d i e && has X (place M.floor d i e)) (g e) 0) m
  unfolding load sum_to place
  load_lanes g X zero l = refl
  load_lanes g X (suc m) l = by (on M.floor d i m) refl (load_lanes g X m (omega arith))
    where
      S : ℕ
      S = sum_to (λ e. cond (on M.floor d i e && has X (place M.floor d i e)) (g e) 0) m

      by : (b : Bool) → on M.floor d i m ≡ b → load (trays M g d i) (place M.floor d i m) X ≡ S
          → load (trays M g d i) (place M.floor d i m + cond b 1 0) X ≡ S + cond (b && has X (place M.floor d i m)) (g m) 0
      by true o ih =
          ap (λ k. load (trays M g d i) k X) (add-one (place M.floor d i m))
          ∙ ap₂ (λ x y. x + cond (has X (place M.floor d i m)) y 0) ih (ap g (lane_at_place M.floor d i m l o))
      by false o ih = ap (λ k. load (trays M g d i) k X) (nothing (place M.floor d i m)) ∙ ih ∙ sym (nothing S)
        where
          nothing : (x : ℕ) → x + 0 ≡ x
          nothing x = omega arith

  pub load_set_of : (g : ℕ → ℕ) (t : ℕ → Bool) → load (trays M g d i) (count M.floor d i) (set_of M d i t) ≡ through M g t d i
  unfolding through
  load_set_of g t =
      load_lanes g (set_of M d i t) M.floor.lanes (omega arith)
      ∙ sum_same (λ e. cond (on M.floor d i e && has (set_of M d i t) (place M.floor d i e)) (g e) 0) (λ e. cond (on M.floor d i e && t e) (g e) 0) M.floor.lanes
      (λ e l. each e l (on M.floor d i e) refl)
    where
      each : (e : ℕ) → e < M.floor.lanes → (b : Bool) → on M.floor d i e ≡ b
          → cond (b && has (set_of M d i t) (place M.floor d i e)) (g e) 0 ≡ cond (b && t e) (g e) 0
      each e l true o =
          ap (λ x. cond x (g e) 0)
          (has_set_of t (place M.floor d i e) (place_takes M.floor d i e M.floor.lanes l o) ∙ ap t (lane_at_place M.floor d i e l o))
      each e l false o = refl

nest : (a b : Bool) (x : ℕ) → cond (a && b) x 0 ≡ cond a (cond b x 0) 0
nest true b x = refl
nest false b x = refl

nought : (a : Bool) → ◌≡◌ {A = ℕ} (cond a 0 0) 0
nought true = refl
nought false = refl

-- the stations that pass s, and their lanes that pass t
pub through_all : (M : Meaning) (g : ℕ → ℕ) (s t : ℕ → Bool) (d : Bool) → ((e : ℕ) → e < M.floor.lanes → M.floor.end d e < M.floor.stations)
    → sum_to (λ i. cond (s i) (through M g t d i) 0) M.floor.stations ≡ sum_to (λ e. cond (s (M.floor.end d e) && t e) (g e) 0) M.floor.lanes
unfolding through
through_all M g s t d low =
    sum_same (λ i. cond (s i) (sum_to (λ e. cond (on M.floor d i e && t e) (g e) 0) M.floor.lanes) 0)
    (λ i. sum_to (λ e. cond (eqb (M.floor.end d e) i) (cond (s i && t e) (g e) 0) 0) M.floor.lanes) M.floor.stations (λ i l. pull i (s i))
    ∙ sum_swap (λ i e. cond (eqb (M.floor.end d e) i) (cond (s i && t e) (g e) 0) 0) M.floor.lanes M.floor.stations
    ∙ sum_same (λ e. sum_to (λ i. cond (eqb (M.floor.end d e) i) (cond (s i && t e) (g e) 0) 0) M.floor.stations) (λ e. cond (s (M.floor.end d e) && t e) (g e) 0) M.floor.lanes
    (λ e l. sum_at (M.floor.end d e) M.floor.stations (λ i. cond (s i && t e) (g e) 0) (low e l))
  where
    pull : (i : ℕ) (b : Bool) → cond b (sum_to (λ e. cond (on M.floor d i e && t e) (g e) 0) M.floor.lanes) 0
        ≡ sum_to (λ e. cond (eqb (M.floor.end d e) i) (cond (b && t e) (g e) 0) 0) M.floor.lanes
    pull i true =
        sum_same (λ e. cond (on M.floor d i e && t e) (g e) 0) (λ e. cond (eqb (M.floor.end d e) i) (cond (t e) (g e) 0) 0) M.floor.lanes
        (λ e l. nest (eqb (M.floor.end d e) i) (t e) (g e))
    pull i false = sym (sum_none (λ e. cond (eqb (M.floor.end d e) i) 0 0) M.floor.lanes (λ e l. nought (eqb (M.floor.end d e) i)))

-- a lane counts where it leaves a near station, where it enters one, and where it crosses, either way
lane_split : (a b : Bool) (x : ℕ) → cond a x 0 + cond (b && not a) x 0 ≡ cond b x 0 + cond (a && not b) x 0
lane_split true true x = refl
lane_split true false x = omega arith
lane_split false true x = omega arith
lane_split false false x = refl

module _ (M : Meaning) (laws : Lawful M) (near : ℕ → Bool) (stock : near (M.floor.pole false) ≡ true) (despatch : near (M.floor.pole true) ≡ false) (g : ℕ → ℕ) (bal : Balanced M g) where
  -- what the near stations send out, and what they take in
  near_sum : (d : Bool) → sum_to (λ i. cond (near i) (through M g (λ e. true) d i) 0) M.floor.stations
      ≡ sum_to (λ e. cond (near (M.floor.end d e)) (g e) 0) M.floor.lanes
  near_sum d =
      through_all M g near (λ e. true) d (λ e l. laws.rules.end_on d e l)
      ∙ sum_same (λ e. cond (near (M.floor.end d e) && true) (g e) 0) (λ e. cond (near (M.floor.end d e)) (g e) 0) M.floor.lanes (λ e l. whole (near (M.floor.end d e)) (g e))
    where
      whole : (b : Bool) (x : ℕ) → cond (b && true) x 0 ≡ cond b x 0
      whole true x = refl
      whole false x = refl

  -- nothing enters the stock
  stock_in : through M g (λ e. true) true (M.floor.pole false) ≡ 0
  unfolding through
  stock_in =
      sum_none (λ e. cond (on M.floor true (M.floor.pole false) e && true) (g e) 0) M.floor.lanes
      (λ e l. ap (λ b. cond (b && true) (g e) 0) (ne_eqb (M.floor.end true e) (M.floor.pole false) (laws.rules.poles_clear false e l)))

  -- the near stations send out the total more than they take in
  near_out : sum_to (λ i. cond (near i) (through M g (λ e. true) false i) 0) M.floor.stations
      ≡ sum_to (λ i. cond (near i) (through M g (λ e. true) true i) 0) M.floor.stations + total M g
  near_out =
      sum_same (λ i. cond (near i) (through M g (λ e. true) false i) 0)
      (λ i. cond (near i) (through M g (λ e. true) true i) 0 + cond (eqb (M.floor.pole false) i) (total M g) 0) M.floor.stations (λ i l. each i l (near i) refl)
      ∙ sum_both (λ i. cond (near i) (through M g (λ e. true) true i) 0) (λ i. cond (eqb (M.floor.pole false) i) (total M g) 0) M.floor.stations
      ∙ ap (λ x. sum_to (λ i. cond (near i) (through M g (λ e. true) true i) 0) M.floor.stations + x)
      (sum_at (M.floor.pole false) M.floor.stations (λ i. total M g) (laws.rules.pole_on false))
    where
      each : (i : ℕ) → i < M.floor.stations → (b : Bool) → near i ≡ b
          → cond b (through M g (λ e. true) false i) 0 ≡ cond b (through M g (λ e. true) true i) 0 + cond (eqb (M.floor.pole false) i) (total M g) 0
      each i l b n =
          elim (cases_eq (M.floor.pole false) i) [
            | inl q ↦ at_stock b n (ap (through M g (λ e. true) false) (sym q)) (ap (through M g (λ e. true) true) (sym q) ∙ stock_in)
                (ap (λ c. cond c (total M g) 0) (eq-eqb (M.floor.pole false) i q)) (ap near (sym q) ∙ stock)
            | inr q ↦ elsewhere b n (ap (λ c. cond c (total M g) 0) (ne_eqb (M.floor.pole false) i q)) q
          ]
        where
          at_stock : (b : Bool) → near i ≡ b → through M g (λ e. true) false i ≡ total M g → through M g (λ e. true) true i ≡ 0
              → cond (eqb (M.floor.pole false) i) (total M g) 0 ≡ total M g → near i ≡ true
              → cond b (through M g (λ e. true) false i) 0 ≡ cond b (through M g (λ e. true) true i) 0 + cond (eqb (M.floor.pole false) i) (total M g) 0
          at_stock true n a c e y = omega arith
          at_stock false n a c e y = absurd (both_ways (near i) n y)

          elsewhere : (b : Bool) → near i ≡ b → cond (eqb (M.floor.pole false) i) (total M g) 0 ≡ 0 → (M.floor.pole false ≡ i → ⊥)
              → cond b (through M g (λ e. true) false i) 0 ≡ cond b (through M g (λ e. true) true i) 0 + cond (eqb (M.floor.pole false) i) (total M g) 0
          elsewhere true n e q =
              let h = bal i l (λ r. q (sym r)) (λ r. both_ways (near i) (ap near r ∙ despatch) n) in
              omega arith
          elsewhere false n e q = omega arith

  -- what crosses is the total and what comes back
  pub crossing : sum_to (λ e. cond (crosses M near e) (g e) 0) M.floor.lanes
      ≡ total M g + sum_to (λ e. cond (near (M.floor.end true e) && not (near (M.floor.end false e))) (g e) 0) M.floor.lanes
  crossing =
      let a = near_sum false in
      let b = near_sum true in
      let o = near_out in
      let s = sum_same (λ e. cond (near (M.floor.end false e)) (g e) 0 + cond (near (M.floor.end true e) && not (near (M.floor.end false e))) (g e) 0)
      (λ e. cond (near (M.floor.end true e)) (g e) 0 + cond (crosses M near e) (g e) 0) M.floor.lanes
      (λ e l. lane_split (near (M.floor.end false e)) (near (M.floor.end true e)) (g e)) in
      let s1 = sum_both (λ e. cond (near (M.floor.end false e)) (g e) 0) (λ e. cond (near (M.floor.end true e) && not (near (M.floor.end false e))) (g e) 0) M.floor.lanes in
      let s2 = sum_both (λ e. cond (near (M.floor.end true e)) (g e) 0) (λ e. cond (crosses M near e) (g e) 0) M.floor.lanes in
      omega arith

  -- what crosses, by the lanes that count where they leave and the others
  pub crossing_parts : (upper : ℕ → Bool) → sum_to (λ e. cond (crosses M near e) (g e) 0) M.floor.lanes
      ≡ sum_to (λ i. cond (near i) (load (trays M g false i) (count M.floor false i) (set_of M false i (λ e. crosses M near e && upper e))) 0) M.floor.stations
      + sum_to (λ i. cond (near i) 0 (load (trays M g true i) (count M.floor true i) (set_of M true i (λ e. crosses M near e && not (upper e))))) M.floor.stations
  crossing_parts upper =
      let tU : ℕ → Bool = λ e. crosses M near e && upper e in
      let tL : ℕ → Bool = λ e. crosses M near e && not (upper e) in
      let far : ℕ → Bool = λ i. not (near i) in
      let a = sum_same (λ i. cond (near i) (load (trays M g false i) (count M.floor false i) (set_of M false i tU)) 0)
      (λ i. cond (near i) (through M g tU false i) 0) M.floor.stations (λ i l. ap (λ x. cond (near i) x 0) (load_set_of M false i g tU)) in
      let b = sum_same (λ i. cond (near i) 0 (load (trays M g true i) (count M.floor true i) (set_of M true i tL)))
      (λ i. cond (far i) (through M g tL true i) 0) M.floor.stations
      (λ i l. ap (λ x. cond (near i) 0 x) (load_set_of M true i g tL) ∙ turned (near i) (through M g tL true i)) in
      let c = through_all M g near tU false (λ e l. laws.rules.end_on false e l) in
      let d = through_all M g far tL true (λ e l. laws.rules.end_on true e l) in
      let s = sum_same (λ e. cond (crosses M near e) (g e) 0)
      (λ e. cond (near (M.floor.end false e) && tU e) (g e) 0 + cond (far (M.floor.end true e) && tL e) (g e) 0) M.floor.lanes
      (λ e l. two_parts (near (M.floor.end false e)) (near (M.floor.end true e)) (upper e) (g e)) in
      let s1 = sum_both (λ e. cond (near (M.floor.end false e) && tU e) (g e) 0) (λ e. cond (far (M.floor.end true e) && tL e) (g e) 0) M.floor.lanes in
      omega arith
    where
      turned : (b : Bool) (x : ℕ) → cond b 0 x ≡ cond (not b) x 0
      turned true x = refl
      turned false x = refl

      two_parts : (a b u : Bool) (x : ℕ) → cond (a && not b) x 0 ≡ cond (a && ((a && not b) && u)) x 0 + cond (not b && ((a && not b) && not u)) x 0
      two_parts true true u x = refl
      two_parts true false true x = omega arith
      two_parts true false false x = omega arith
      two_parts false true u x = refl
      two_parts false false u x = refl

pub cut_bounds : CutBounds
unfolding capacity
cut_bounds M near upper laws stock despatch q g bal fits =
    let a = crossing M laws near stock despatch g bal in
    let b = crossing_parts M laws near stock despatch g bal upper in
    let c = sum_le (λ i. cond (near i) (load (trays M g false i) (count M.floor false i) (set_of M false i (λ e. crosses M near e && upper e))) 0)
    (λ i. q * cond (near i) (M.cap false i (set_of M false i (λ e. crosses M near e && upper e))) 0) M.floor.stations
    (λ i l. by_near (near i) q (load (trays M g false i) (count M.floor false i) (set_of M false i (λ e. crosses M near e && upper e))) (M.cap false i (set_of M false i (λ e. crosses M near e && upper e))) (fits false i (set_of M false i (λ e. crosses M near e && upper e)) l (set_of_below M false i (λ e. crosses M near e && upper e)))) in
    let d = sum_le (λ i. cond (near i) 0 (load (trays M g true i) (count M.floor true i) (set_of M true i (λ e. crosses M near e && not (upper e)))))
    (λ i. q * cond (near i) 0 (M.cap true i (set_of M true i (λ e. crosses M near e && not (upper e))))) M.floor.stations
    (λ i l. by_far (near i) q (load (trays M g true i) (count M.floor true i) (set_of M true i (λ e. crosses M near e && not (upper e)))) (M.cap true i (set_of M true i (λ e. crosses M near e && not (upper e)))) (fits true i (set_of M true i (λ e. crosses M near e && not (upper e))) l (set_of_below M true i (λ e. crosses M near e && not (upper e))))) in
    let c2 = sum_times q (λ i. cond (near i) (M.cap false i (set_of M false i (λ e. crosses M near e && upper e))) 0) M.floor.stations in
    let d2 = sum_times q (λ i. cond (near i) 0 (M.cap true i (set_of M true i (λ e. crosses M near e && not (upper e))))) M.floor.stations in
    omega arith
  where
    by_near : (b : Bool) (q x y : ℕ) → x ≤ q * y → cond b x 0 ≤ q * cond b y 0
    by_near true q x y h = h
    by_near false q x y h = omega arith

    by_far : (b : Bool) (q x y : ℕ) → x ≤ q * y → cond b 0 x ≤ q * cond b 0 y
    by_far true q x y h = omega arith
    by_far false q x y h = h
