-- Where the labels are closed, the plan carries what their cut lets through, and no plan carries more.
use Rattle.std.proofs.Common.{◌≡◌, ℕ, ◌*◌, ◌<◌, Bool, true, false, cond, not, ◌&&◌, ◌||◌, sym, refl, ap, ◌∙◌, arith}
use Rattle.std.proofs.lemmas.Bool.{both_ways, eqb-true, and_parts, and_from, not_from_true, not_from_false, not-true, not-false}
use Rattle.polymatroid.specs.Sets.{has}
use Rattle.polymatroid.specs.Side.{load, In, Tight}
use Rattle.polymatroid.proofs.Unions.{cap_mono, union_tight}
use Rattle.floor.specs.Floor.{on, count, lane_at}
use Rattle.floor.specs.Meaning.{Meaning, Lawful}
use Rattle.network.specs.Plans.{trays, Fits, through, total, Balanced}
use Rattle.network.specs.Cuts.{set_of, crosses, capacity}
use Rattle.network.specs.Finished.{Closed, without_label, FinishedBest}
use Rattle.floor.proofs.Places.{lane_at_there}
use Rattle.network.proofs.Rooms.{tight_at, tight_there}
use Rattle.network.proofs.Hits.{sum_same, sum_none}
use Rattle.network.proofs.Cuts.{set_of_below, has_set_of, load_set_of, crossing, crossing_parts, cut_bounds}
use Rattle.network.proofs.Closed.{despatch_far, stock_near, label_near, back_empty, unlabelled_empty, out_full, out_tight, in_full, in_tight_set, in_holder}

module _ (M : Meaning) (laws : Lawful M) (f : ℕ → ℕ) (fits : Fits M f) (pl mi near : ℕ → Bool) (cl : Closed M f pl mi near) where
  U : ℕ → Bool
  U e = crosses M near e && without_label pl mi e

  L : ℕ → Bool
  L e = crosses M near e && not (without_label pl mi e)

  -- the unlabelled lanes out of a near station are a tight set
  out_all : (k : ℕ) → k < M.floor.stations → near k ≡ true
      → Tight (count M.floor false k) (M.cap false k) (trays M f false k) (set_of M false k (without_label pl mi))
  out_all k kin n =
      union_tight (count M.floor false k) (M.cap false k) (laws.laws false k kin).0 (trays M f false k) (fits false k kin)
      (set_of M false k (without_label pl mi)) (set_of_below M false k (without_label pl mi)) each
    where
      each : (p : ℕ) → p < count M.floor false k → In (set_of M false k (without_label pl mi)) p
          → (Y : ℕ) × Tight (count M.floor false k) (M.cap false k) (trays M f false k) Y × In Y p
          × ((q : ℕ) → q < count M.floor false k → In Y q → In (set_of M false k (without_label pl mi)) q)
      each p l i =
          let a = lane_at_there M.floor false k p l in
          let e : ℕ = lane_at M.floor false k p in
          let ke : M.floor.end false e ≡ k = eqb-true (M.floor.end false e) k a.1 in
          let r : (pl e || mi e) ≡ false = not-true (pl e || mi e) (sym (has_set_of M false k (without_label pl mi) p l) ∙ i) in
          let t = tight_there M laws f fits false k kin e a.0 ke (out_full M laws f fits pl mi near cl e a.0 (ap near ke ∙ n) r) in
          let Y : ℕ = tight_at M f false k e in (
            Y,
            t.0,
            ap (has Y) (sym a.2) ∙ t.1,
            (λ q m j.
                let b = lane_at_there M.floor false k q m in
                let g : ℕ = lane_at M.floor false k q in
                has_set_of M false k (without_label pl mi) q m
                ∙ not_from_false (pl g || mi g)
                (out_tight M laws f fits pl mi near cl k e g kin a.0 b.0 ke (eqb-true (M.floor.end false g) k b.1) n r (ap (has Y) b.2 ∙ j))),
          )

  -- so are those that cross
  out_cross : (k : ℕ) → k < M.floor.stations → near k ≡ true
      → load (trays M f false k) (count M.floor false k) (set_of M false k U) ≡ M.cap false k (set_of M false k U)
  unfolding U through
  out_cross k kin n =
      let t = out_all k kin n in
      let low = set_of_below M false k U in
      let mono = cap_mono (count M.floor false k) (M.cap false k) (laws.laws false k kin).0 (set_of M false k U) (set_of M false k (without_label pl mi)) low
      (set_of_below M false k (without_label pl mi))
      (λ p l i.
      has_set_of M false k (without_label pl mi) p l
      ∙ (and_parts (crosses M near (lane_at M.floor false k p)) (without_label pl mi (lane_at M.floor false k p)) (sym (has_set_of M false k U p l) ∙ i)).1) in
      omega (arith, t.reached, fits false k kin (set_of M false k U) low, load_set_of M false k f U, load_set_of M false k f (without_label pl mi), same)
    where
      one : (e : ℕ) → e < M.floor.lanes → (o u x y : Bool) → on M.floor false k e ≡ o → without_label pl mi e ≡ u → near (M.floor.end false e) ≡ x → near (M.floor.end true e) ≡ y
          → cond (o && ((x && not y) && u)) (f e) 0 ≡ cond (o && u) (f e) 0
      one e l true true true true eo eu ex ey = sym (unlabelled_empty M laws f fits pl mi near cl e l ey (not-true (pl e || mi e) eu))
      one e l true true true false eo eu ex ey = refl
      one e l true true false y eo eu ex ey = absurd (both_ways (near (M.floor.end false e)) ex (ap near (eqb-true (M.floor.end false e) k eo) ∙ n))
      one e l true false true true eo eu ex ey = refl
      one e l true false true false eo eu ex ey = refl
      one e l true false false y eo eu ex ey = refl
      one e l false u x y eo eu ex ey = refl

      same : through M f U false k ≡ through M f (without_label pl mi) false k
      same =
          sum_same (λ e. cond (on M.floor false k e && U e) (f e) 0) (λ e. cond (on M.floor false k e && without_label pl mi e) (f e) 0) M.floor.lanes
          (λ e l. one e l (on M.floor false k e) (without_label pl mi e) (near (M.floor.end false e)) (near (M.floor.end true e)) refl refl refl refl)

  in_cross : (k : ℕ) → k < M.floor.stations → near k ≡ false
      → load (trays M f true k) (count M.floor true k) (set_of M true k L) ≡ M.cap true k (set_of M true k L)
  unfolding L
  in_cross k kin n =
      (union_tight (count M.floor true k) (M.cap true k) (laws.laws true k kin).0 (trays M f true k) (fits true k kin)
      (set_of M true k L) (set_of_below M true k L) each).reached
    where
      each : (p : ℕ) → p < count M.floor true k → In (set_of M true k L) p
          → (Y : ℕ) × Tight (count M.floor true k) (M.cap true k) (trays M f true k) Y × In Y p
          × ((q : ℕ) → q < count M.floor true k → In Y q → In (set_of M true k L) q)
      each p l i =
          let a = lane_at_there M.floor true k p l in
          let e : ℕ = lane_at M.floor true k p in
          let ke : M.floor.end true e ≡ k = eqb-true (M.floor.end true e) k a.1 in
          let y : (pl e || mi e) ≡ true =
          not-false (pl e || mi e) (not-true (without_label pl mi e) (and_parts (crosses M near e) (not (without_label pl mi e)) (sym (has_set_of M true k L p l) ∙ i)).1) in
          let h = in_holder M laws f fits pl mi near cl k e kin a.0 ke n y in
          let Y : ℕ = tight_at M f true k h.0 in
          let t = tight_there M laws f fits true k kin h.0 h.1 h.2 (in_full M laws f fits pl mi near cl h.0 h.1 (ap near h.2 ∙ n) h.3) in (
            Y,
            t.0,
            ap (has Y) (sym a.2) ∙ h.4,
            (λ q m j.
                let b = lane_at_there M.floor true k q m in
                let g : ℕ = lane_at M.floor true k q in
                let kg : M.floor.end true g ≡ k = eqb-true (M.floor.end true g) k b.1 in
                let z = in_tight_set M laws f fits pl mi near cl k h.0 g kin h.1 b.0 h.2 kg n h.3 (ap (has Y) b.2 ∙ j) in
                has_set_of M true k L q m
                ∙ and_from (crosses M near g) (not (without_label pl mi g))
                (and_from (near (M.floor.end false g)) (not (near (M.floor.end true g))) (label_near M laws f fits pl mi near cl g b.0 z) (not_from_false (near (M.floor.end true g)) (ap near kg ∙ n)))
                (not_from_false (without_label pl mi g) (not_from_true (pl g || mi g) z))),
          )

  total_is : Balanced M f → total M f ≡ capacity M near (without_label pl mi)
  unfolding capacity U L
  total_is bal =
      let a = crossing M laws near (stock_near M laws f fits pl mi near cl) (despatch_far M laws f fits pl mi near cl) f bal in
      let b = crossing_parts M laws near (stock_near M laws f fits pl mi near cl) (despatch_far M laws f fits pl mi near cl) f bal (without_label pl mi) in
      let z = sum_none (λ e. cond (near (M.floor.end true e) && not (near (M.floor.end false e))) (f e) 0) M.floor.lanes
      (λ e l. none e l (near (M.floor.end true e)) (near (M.floor.end false e)) refl refl) in
      let c = sum_same (λ i. cond (near i) (load (trays M f false i) (count M.floor false i) (set_of M false i U)) 0)
      (λ i. cond (near i) (M.cap false i (set_of M false i U)) 0) M.floor.stations (λ i l. outs i l (near i) refl) in
      let d = sum_same (λ i. cond (near i) 0 (load (trays M f true i) (count M.floor true i) (set_of M true i L)))
      (λ i. cond (near i) 0 (M.cap true i (set_of M true i L))) M.floor.stations (λ i l. ins i l (near i) refl) in
      omega arith
    where
      none : (e : ℕ) → e < M.floor.lanes → (x y : Bool) → near (M.floor.end true e) ≡ x → near (M.floor.end false e) ≡ y → cond (x && not y) (f e) 0 ≡ 0
      none e l true true a b = refl
      none e l true false a b = back_empty M laws f fits pl mi near cl e l a b
      none e l false y a b = refl

      outs : (i : ℕ) → i < M.floor.stations → (x : Bool) → near i ≡ x
          → cond x (load (trays M f false i) (count M.floor false i) (set_of M false i U)) 0 ≡ cond x (M.cap false i (set_of M false i U)) 0
      outs i l true n = out_cross i l n
      outs i l false n = refl

      ins : (i : ℕ) → i < M.floor.stations → (x : Bool) → near i ≡ x
          → cond x 0 (load (trays M f true i) (count M.floor true i) (set_of M true i L)) ≡ cond x 0 (M.cap true i (set_of M true i L))
      ins i l true n = refl
      ins i l false n = in_cross i l n

pub finished_best : FinishedBest
finished_best M f pl mi near laws fits bal cl =
    let e = total_is M laws f fits pl mi near cl bal in
    (e, (λ q g b h. omega (arith, cut_bounds M near (without_label pl mi) laws (stock_near M laws f fits pl mi near cl) (despatch_far M laws f fits pl mi near cl) q g b h, ap (λ x. q * x) e)))
